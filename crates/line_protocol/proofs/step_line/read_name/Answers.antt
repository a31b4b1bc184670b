use Rattle.stamps.specs.Limits.{max_name_len}
use Rattle.line_protocol.specs.StepSpelling.{is_tenant_byte}
use Rattle.stamps.proofs.MakingLemmas.{text_from-read}
use Rattle.line_protocol.proofs.step_line.read_name.Goals as goal

pub returns : goal.returns
returns c = text_from-read is_tenant_byte 1 max_name_len c.args.text.now c.read.result c.read.ensures.exact c.read.ensures.value
