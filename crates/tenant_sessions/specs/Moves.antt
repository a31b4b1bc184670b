-- How a transaction's moves are reported.
use Rattle.std.specs.Prelude.{List, [], ◌∷◌, Bool, true, false, Option, Some, None}
use Rattle.plain_store.specs.declared.answer.Answer.{Answer}
use Rattle.plain_store.specs.declared.answer.Answer.TheVariants.{Wait as SaysWait, Decided as SaysDecided}
use Rattle.plain_store.specs.declared.answer.Answer.TheVariants.{Done as SaysDone, Ask as SaysAsk}
use Rattle.plain_store.specs.declared.answer.Answer.TheVariants.{BeginsRead as SaysBegins, Read as SaysRead}
use Rattle.plain_store.specs.declared.answer.Answer.TheVariants.{Listed as SaysListed, Restart as SaysRestart}
use Rattle.plain_store.specs.declared.answer.Answer.TheVariants.{Ended as SaysEnded, Ignored as SaysIgnored}
use Rattle.plain_store.specs.declared.answer.Rows.{Rows}
use Rattle.plain_store.specs.declared.reading.Reading.{Reading}
use Rattle.plain_store.specs.Writing.{Outgoing}
use Rattle.plain_store.specs.Moves.{Waits, Decides, Finishes, Asks, Begins as BeginsCalls, Reads, Lists, Restarts}
use Rattle.plain_store.specs.Moves.{Fails, Move as PlainMove}
pub use Rattle.tenant_sessions.specs.declared.moves.Move.{Move}
pub use Rattle.tenant_sessions.specs.declared.moves.Move.TheVariants.{Wait, Decided, Done, Ask, Begins, Read, Listed}
pub use Rattle.tenant_sessions.specs.declared.moves.Move.TheVariants.{Restart, Ended, Ignored}
use Rattle.tenant_sessions.specs.declared.moves.MoveKind.{MoveKind}
use Rattle.tenant_sessions.specs.declared.moves.MoveKind.TheVariants.{Wait as WaitKind, Decided as DecidedKind}
use Rattle.tenant_sessions.specs.declared.moves.MoveKind.TheVariants.{Done as DoneKind, Ask as AskKind}
use Rattle.tenant_sessions.specs.declared.moves.MoveKind.TheVariants.{Begins as BeginsKind, Read as ReadKind}
use Rattle.tenant_sessions.specs.declared.moves.MoveKind.TheVariants.{Listed as ListedKind, Restart as RestartKind}
use Rattle.tenant_sessions.specs.declared.moves.MoveKind.TheVariants.{Ended as EndedKind, Ignored as IgnoredKind}

-- what a turn reports, with these readings where something was read
abbrev pub moved : MoveKind → List Reading → Move
moved WaitKind readings = Wait
moved (DecidedKind stamp) readings = Decided stamp
moved (DoneKind stamp) readings = Done stamp
moved AskKind readings = Ask
moved BeginsKind readings = Begins
moved ReadKind readings = Read readings
moved ListedKind readings = Listed readings
moved (RestartKind key floor) readings = Restart key floor
moved (EndedKind refusal calls) readings = Ended refusal calls
moved IgnoredKind readings = Ignored

-- the rows of the calls with which a transaction ends, if there are any
abbrev pub ending_rows : List Outgoing → Rows → Option Rows
ending_rows [] rows = None
ending_rows (out ∷ outs) rows = Some rows

-- the answer that a move is reported by, with the rows sent
abbrev pub answer_of : Move → Rows → Answer
answer_of Wait rows = SaysWait
answer_of (Decided stamp) rows = SaysDecided stamp rows
answer_of (Done stamp) rows = SaysDone stamp
answer_of Ask rows = SaysAsk rows
answer_of Begins rows = SaysBegins rows
answer_of (Read readings) rows = SaysRead readings
answer_of (Listed readings) rows = SaysListed readings
answer_of (Restart key floor) rows = SaysRestart key floor
answer_of (Ended refusal calls) rows = SaysEnded refusal (ending_rows calls rows)
answer_of Ignored rows = SaysIgnored

-- whether calls are sent with it of which replies are then waited for
abbrev pub sends_calls : Move → Bool
sends_calls Wait = false
sends_calls (Decided stamp) = true
sends_calls (Done stamp) = false
sends_calls Ask = true
sends_calls Begins = true
sends_calls (Read readings) = false
sends_calls (Listed readings) = false
sends_calls (Restart key floor) = false
sends_calls (Ended refusal calls) = false
sends_calls Ignored = false

-- whether it ends the transaction
abbrev pub is_last : Move → Bool
is_last Wait = false
is_last (Decided stamp) = false
is_last (Done stamp) = true
is_last Ask = false
is_last Begins = false
is_last (Read readings) = true
is_last (Listed readings) = true
is_last (Restart key floor) = true
is_last (Ended refusal calls) = true
is_last Ignored = false

-- the calls that are sent at its end
abbrev pub ending : Move → List Outgoing
ending Wait = []
ending (Decided stamp) = []
ending (Done stamp) = []
ending Ask = []
ending Begins = []
ending (Read readings) = []
ending (Listed readings) = []
ending (Restart key floor) = []
ending (Ended refusal calls) = calls
ending Ignored = []

-- the plain store's move, with those of its calls that are sent at its end
abbrev pub told : PlainMove → Move
told Waits = Wait
told (Decides stamp calls) = Decided stamp
told (Finishes stamp) = Done stamp
told (Asks calls) = Ask
told (BeginsCalls calls) = Begins
told (Reads readings) = Read readings
told (Lists readings) = Listed readings
told (Restarts key floor) = Restart key floor
told (Fails refusal calls) = Ended refusal calls

-- the calls that are sent with the plain store's move
abbrev pub calls_out : PlainMove → List Outgoing
calls_out Waits = []
calls_out (Decides stamp calls) = calls
calls_out (Finishes stamp) = []
calls_out (Asks calls) = calls
calls_out (BeginsCalls calls) = calls
calls_out (Reads readings) = []
calls_out (Lists readings) = []
calls_out (Restarts key floor) = []
calls_out (Fails refusal calls) = calls

-- whether the reply was not taken
abbrev pub is_ignored : Move → Bool
is_ignored Wait = false
is_ignored (Decided stamp) = false
is_ignored (Done stamp) = false
is_ignored Ask = false
is_ignored Begins = false
is_ignored (Read readings) = false
is_ignored (Listed readings) = false
is_ignored (Restart key floor) = false
is_ignored (Ended refusal calls) = false
is_ignored Ignored = true
