use Rattle.stamps.specs.Limits.{max_key_len}
use Rattle.stamps.specs.Text.{is_name_byte}
use Rattle.stamps.proofs.MakingLemmas.{text_from-read}
use Rattle.packed.proofs.value_decoding.key_from.Goals as goal

pub returns : goal.returns
returns c = text_from-read is_name_byte 1 max_key_len c.args.text.now c.read.result c.read.ensures.exact c.read.ensures.value
