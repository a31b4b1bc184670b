use Rattle.std.proofs.Common.{rules, ◌≡◌, [], ◌++◌, take, drop, bit_and, ap, ◌∙◌}
use Rattle.stamps.specs.Limits.{max_value_len}
use Rattle.stamps.proofs.MaskLemmas.{chunk_is, kept_front, kept_zeros, both_halves}
use Rattle.stamps.proofs.value.kept_front.Goals as goal
use lib.Lanes.{zip2}

whole : (c : goal.After-result-1) → c.unwrap.result.now ≡ zip2 bit_and c.args.front.now c.front_mask-mask.result.now
whole c =
    let front = c.args.front.now in
    let mask = c.front_mask-mask.result.now in
    let all = c.as_flattened.result.now in
    let halves : all ≡ zip2 bit_and (take 64 front) (take 64 mask) ++ (zip2 bit_and (take 64 (take 64 (drop 64 front))) (take 64 (take 64 (drop 64 mask))) ++ []) =
    c.as_flattened.ensures.value in
    chunk_is (λ y. y.now) c.first_chunk.result c.unwrap.result all max_value_len _ c.unwrap.ensures c.first_chunk.ensures.cases
    ∙ ap (take max_value_len) halves
    ∙ both_halves bit_and 64 front mask (search rules) (search rules)

pub returns-clause-bytes : goal.returns-clause-bytes
returns-clause-bytes c =
    ap (take c.args.len) (whole c)
    ∙ kept_front c.args.front.now c.front_mask-mask.result.now c.args.len max_value_len c.requires.fits (search rules) (search rules) c.front_mask-mask.ensures

pub returns-clause-zeros : goal.returns-clause-zeros
returns-clause-zeros c =
    ap (drop c.args.len) (whole c)
    ∙ kept_zeros c.args.front.now c.front_mask-mask.result.now c.args.len max_value_len c.requires.fits (search rules) (search rules) c.front_mask-mask.ensures
