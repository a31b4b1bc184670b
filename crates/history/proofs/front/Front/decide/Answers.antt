use Rattle.std.proofs.Math.Logic.{∥∥₁_map}
use Rattle.history.proofs.front.Front.decide.Goals as goal

pub add-requires-clause-may : goal.add-requires-clause-may
add-requires-clause-may g c = ∥∥₁_map c.requires.may (λ may. (c.requires.unended, may))
