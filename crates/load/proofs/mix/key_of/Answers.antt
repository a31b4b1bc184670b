use Rattle.std.proofs.Common.{arith}
use Rattle.std.proofs.lemmas.Grind.{common_steps}
use Rattle.load.proofs.Spelled.{no_key}
use Rattle.load.proofs.mix.key_of.Goals as goal

pub unreachable-requires : goal.unreachable-requires
unreachable-requires c = no_key _ c.args.number (omega (arith, c.ranges.number.fits)) c.in_default.ensures.exact.1 (grind (arith, common_steps))
