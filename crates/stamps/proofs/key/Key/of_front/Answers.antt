use Rattle.std.proofs.Common.{rules, arith, sym, subst, ◌∙◌}
use Rattle.stamps.specs.Key.{IsKey}
use Rattle.stamps.specs.Limits.{max_key_len}
use Rattle.stamps.proofs.MaskLemmas.{kept_front, kept_zeros}
use Rattle.stamps.proofs.key.Key.of_front.Goals as goal

pub of_padded-requires : goal.of_padded-requires
of_padded-requires c =
    let zeros = kept_zeros c.args.front.now c.front_mask.result.now c.args.len max_key_len c.requires.fits (search rules) (search rules) c.front_mask.ensures in
    (omega arith, (omega arith, (c.requires.fits, (omega arith, zeros))))

pub invariant_of-result : goal.invariant_of-result
invariant_of-result c =
    subst IsKey (sym (c.of_padded.ensures
    ∙ kept_front c.args.front.now c.front_mask.result.now c.args.len max_key_len c.requires.fits (search rules) (search rules) c.front_mask.ensures)) c.requires.valid

pub returns : goal.returns
returns c =
    c.of_padded.ensures
    ∙ kept_front c.args.front.now c.front_mask.result.now c.args.len max_key_len c.requires.fits (search rules) (search rules) c.front_mask.ensures
