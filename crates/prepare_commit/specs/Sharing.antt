-- The parts of a base, each in a block that bases share.
use Rattle.std.specs.Prelude.{List, map}
use Rattle.std.specs.Arc.{arc_value}
use Rattle.std.specs.declared.sync.Arc.{Arc}
use Rattle.std.specs.declared.alloc.Global.{Global}
use Rattle.prepare_commit.specs.declared.parts.BasePart.{BasePart}
use Rattle.prepare_commit.specs.Begun.{Holding}

-- what is shared
abbrev pub shared_parts : List (Arc BasePart Global) → List (List Holding)
shared_parts blocks = map (λ (block : Arc BasePart Global). arc_value block) blocks
