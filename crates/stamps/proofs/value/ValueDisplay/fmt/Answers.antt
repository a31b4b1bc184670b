use Rattle.std.proofs.Common.{arith}
use Rattle.stamps.proofs.TextLemmas.{value_is_utf8}
use Rattle.stamps.proofs.value.ValueDisplay.fmt.Goals as goal

pub as_str-requires : goal.as_str-requires
as_str-requires g c = (omega arith, value_is_utf8 _ _ _ c.self.invariant)
