-- Which calls a client's running transaction waits for, and which it sends with a move.
use Rattle.std.specs.Prelude.{◌≡◌, List, [], Option, Some, None, All}
use Rattle.plain_store.specs.declared.calls.Call.{Call}
use Rattle.plain_store.specs.declared.calls.Call.TheVariants.{Prepare, Commit, Get, Found, Collect, Discard}
use Rattle.plain_store.specs.Writing.{Outgoing}
use Rattle.tenant_sessions.specs.Moves.{Move, Wait, Decided, Done, Ask, Begins, Read, Listed, Restart, Ended, Ignored}
use Rattle.tenant_sessions.specs.declared.running.Running.{Running}

-- the calls that it waits for, if something runs
abbrev pub waiting_of : Option Running → List Outgoing
waiting_of None = []
waiting_of (Some running) = running.waiting

abbrev pub IsGet : Call → Type 0
IsGet (Prepare version) = ⊥
IsGet (Commit stamp) = ⊥
IsGet (Get key stamp) = Unit {0}
IsGet (Found tag) = ⊥
IsGet (Collect keep) = ⊥
IsGet (Discard stamp) = ⊥

abbrev pub IsDiscard : Call → Type 0
IsDiscard (Prepare version) = ⊥
IsDiscard (Commit stamp) = ⊥
IsDiscard (Get key stamp) = ⊥
IsDiscard (Found tag) = ⊥
IsDiscard (Collect keep) = ⊥
IsDiscard (Discard stamp) = Unit {0}

-- With a move that sends calls, a write that is decided waits for COMMITs of its stamp, and a read for GETs.
abbrev pub SendsSo : Move → List Outgoing → Type 0
SendsSo Wait waiting = Unit {0}
SendsSo (Decided stamp) waiting = All (λ (out : Outgoing). out.call ≡ Commit stamp) waiting
SendsSo (Done stamp) waiting = Unit {0}
SendsSo Ask waiting = All (λ (out : Outgoing). IsGet out.call) waiting
SendsSo Begins waiting = All (λ (out : Outgoing). IsGet out.call) waiting
SendsSo (Read readings) waiting = Unit {0}
SendsSo (Listed readings) waiting = Unit {0}
SendsSo (Restart key floor) waiting = Unit {0}
SendsSo (Ended refusal calls) waiting = Unit {0}
SendsSo Ignored waiting = Unit {0}
