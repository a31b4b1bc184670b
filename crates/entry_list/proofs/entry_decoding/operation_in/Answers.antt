use Rattle.std.proofs.Common.{◌∙◌}
use Rattle.entry_list.proofs.Unpacked.{operation_is}
use Rattle.entry_list.proofs.entry_decoding.operation_in.Goals as goal

pub returns : goal.returns
returns c = c.operation_part.ensures ∙ operation_is c.args.bytes.now c.requires
