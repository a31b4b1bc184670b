use Rattle.std.proofs.Common.{◌∙◌}
use Rattle.entry_list.proofs.Unpacked.{taken_is}
use Rattle.entry_list.proofs.entry_decoding.taken_in.Goals as goal

pub returns : goal.returns
returns c = c.taken_part.ensures ∙ taken_is c.args.bytes.now c.requires
