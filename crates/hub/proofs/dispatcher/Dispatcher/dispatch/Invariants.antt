use Rattle.hub.specs.Rooms.{ServesHere}
use Rattle.hub.proofs.dispatcher.Dispatcher.dispatch.Given as goal

-- what was served so far is served where it waits
abbrev pub invariant-loop-at : goal.invariant-loop-at
invariant-loop-at g l = ServesHere l.fn.self l.self

-- and so where the partition was held
abbrev pub invariant-loop-held : goal.invariant-loop-held
invariant-loop-held g l = ServesHere l.fn.self l.self
