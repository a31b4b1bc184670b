use Rattle.std.proofs.Common.{arith}
use Rattle.std.proofs.lemmas.List.Sums.{prefix_len-le-length}
use Rattle.stamps.specs.Text.{is_visible_byte}
use Rattle.line_protocol.proofs.word.visible_len.Goals as goal

pub overflow_add-result : goal.overflow_add-result
overflow_add-result c = omega (arith, c.short_visible_len.ensures, prefix_len-le-length is_visible_byte c.loop-bytes.rest.now, c.loop-bytes.invariant.shorter, c.type_inv.text)
