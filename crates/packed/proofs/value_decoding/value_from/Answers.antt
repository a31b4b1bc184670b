use Rattle.stamps.specs.Limits.{max_value_len}
use Rattle.stamps.specs.Text.{is_visible_byte}
use Rattle.stamps.proofs.MakingLemmas.{text_from-read}
use Rattle.packed.proofs.value_decoding.value_from.Goals as goal

pub returns : goal.returns
returns c = text_from-read is_visible_byte 0 max_value_len c.args.text.now c.read.result c.read.ensures.exact c.read.ensures.value
