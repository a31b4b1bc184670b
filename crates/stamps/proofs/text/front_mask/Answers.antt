use Rattle.std.proofs.Common.{◌≡◌, ℕ, ◌-◌, List, ◌++◌, length, take, drop, replicate, ap, ◌∙◌}
use Rattle.std.proofs.lemmas.List.{take_rest}
use Rattle.stamps.specs.Limits.{max_value_len}
use Rattle.stamps.proofs.MaskLemmas.{chunk_is, mask_at}
use Rattle.stamps.proofs.text.front_mask.Goals as goal

pub returns : goal.returns
returns g c =
    let all = c.as_flattened.result.now in
    let ones_and_zeros : all ≡ replicate {A = ℕ} max_value_len 255 ++ replicate {A = ℕ} max_value_len 0 = c.as_flattened.ensures.value in
    chunk_is (λ y. y.now) c.first_chunk.result c.unwrap.result (take (length all - (max_value_len - c.args.len)) (drop (max_value_len - c.args.len) all)) g.row.N _
    c.unwrap.ensures c.first_chunk.ensures.cases
    ∙ ap (take g.row.N) (take_rest all (max_value_len - c.args.len))
    ∙ ap (λ (xs : List ℕ). take g.row.N (drop (max_value_len - c.args.len) xs)) ones_and_zeros ∙ mask_at max_value_len c.args.len g.row.N c.requires.fits c.requires.small
