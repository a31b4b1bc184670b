use Rattle.std.proofs.Common.{◌∙◌}
use Rattle.entry_list.proofs.Unpacked.{answer_is}
use Rattle.entry_list.proofs.entry_decoding.answer_in.Goals as goal

pub returns : goal.returns
returns c = c.answer_part.ensures ∙ answer_is c.args.bytes.now c.requires
