use Rattle.std.proofs.Common.{rules}
use Rattle.stamps.specs.Value.{short_value_len}
use Rattle.stamps.proofs.MaskLemmas.{kept_front, kept_zeros}
use Rattle.stamps.proofs.value.short_front.Goals as goal

pub returns-clause-bytes : goal.returns-clause-bytes
returns-clause-bytes c = kept_front c.args.front.now c.front_mask.result.now c.args.len short_value_len c.requires.fits (search rules) (search rules) c.front_mask.ensures

pub returns-clause-zeros : goal.returns-clause-zeros
returns-clause-zeros c = kept_zeros c.args.front.now c.front_mask.result.now c.args.len short_value_len c.requires.fits (search rules) (search rules) c.front_mask.ensures
