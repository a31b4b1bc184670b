-- What the evaluator's own types stand for.
use Rattle.std.specs.Prelude.{◌≡◌, ℕ, ◌≤◌, List, [], ◌∷◌, ◌++◌, true, false, cond, length, Option, Some, None, is_some}
use Rattle.stamps.specs.Limits.{max_keys}
use Rattle.plain_store.specs.History as definitions
use Rattle.plain_store.specs.History.{History, message_at, log_at, Transaction, Writes, Gets, Finds, taken_in}
use Rattle.plain_store.specs.History.{running, NeverOpened, Open, Closed}
use Rattle.plain_store.specs.Words.{Key, Tag}
use Rattle.plain_store.specs.declared.calls.Call.{Call}
use Rattle.plain_store.specs.declared.calls.Call.TheVariants.{Prepare, Commit, Get, Found, Collect, Discard}
use Rattle.plain_store.specs.declared.message.Message.{Message}
use Rattle.plain_store.specs.declared.reading.Reading.{Reading}
use Rattle.plain_store.specs.declared.refusal.Refusal.{Refusal}
use Rattle.plain_store.specs.Words.{Setup}
use Rattle.plain_store.specs.Replies.{IsSound}
use Rattle.plain_store.specs.declared.step.Act.{Act}
use Rattle.plain_store.specs.Run.{Test, is_wanted, rows_are_used}
use Rattle.plain_store.specs.Finding.{all_keys_found, carrying}
use Rattle.plain_store.specs.Moves.{Move, Waits, Decides, Finishes, Asks, Begins, Reads, Lists, Restarts, Fails}
use Rattle.oracle.specs.declared.moves.Move as declared
use Rattle.oracle.specs.declared.moves.Move.TheVariants.{Waits as DoesWait, Decides as DoesDecide}
use Rattle.oracle.specs.declared.moves.Move.TheVariants.{Finishes as DoesFinish, Asks as DoesAsk}
use Rattle.oracle.specs.declared.moves.Move.TheVariants.{Begins as DoesBegin, Reads as DoesRead}
use Rattle.oracle.specs.declared.moves.Move.TheVariants.{Lists as DoesList, Restarts as DoesRestart}
use Rattle.oracle.specs.declared.moves.Move.TheVariants.{Fails as DoesFail}
use Rattle.oracle.specs.declared.history.Intent.{Intent}
use Rattle.oracle.specs.declared.history.Intent.TheVariants.{Writes as WritesItems, Gets as GetsKeys}
use Rattle.oracle.specs.declared.history.Intent.TheVariants.{Finds as FindsTag}
use Rattle.oracle.specs.declared.history.SessionState.{SessionState}
use Rattle.oracle.specs.declared.history.SessionState.TheVariants.{NeverOpened as IsNever, Open as IsOpen}
use Rattle.oracle.specs.declared.history.SessionState.TheVariants.{Closed as IsClosed}

-- the state of a session
abbrev pub session_of : SessionState → definitions.Session
session_of IsNever = NeverOpened
session_of IsOpen = Open
session_of IsClosed = Closed

-- a request
abbrev pub plain_request : Intent → definitions.Intent
plain_request (WritesItems stamp items) = Writes stamp items.now
plain_request (GetsKeys keys) = Gets keys.now
plain_request (FindsTag tag) = Finds tag

-- a move
abbrev pub plain_outcome : declared.Move → Move
plain_outcome DoesWait = Waits
plain_outcome (DoesDecide stamp calls) = Decides stamp calls.items
plain_outcome (DoesFinish stamp) = Finishes stamp
plain_outcome (DoesAsk calls) = Asks calls.items
plain_outcome (DoesBegin calls) = Begins calls.items
plain_outcome (DoesRead readings) = Reads readings
plain_outcome (DoesList readings) = Lists readings
plain_outcome (DoesRestart key floor) = Restarts key floor
plain_outcome (DoesFail refusal calls) = Fails refusal calls.items

-- how a reader's answer is reported: as a Read, or of a search as a List
abbrev pub told_move : Option Tag → List Reading → Move
told_move None readings = Reads readings
told_move (Some tag) readings = Lists (carrying tag readings)

-- the refusal of the first test that fails
abbrev pub first_refusal : List Test → Option Refusal
first_refusal [] = None
first_refusal (test ∷ rest) = cond test.fails (Some test.refusal) (first_refusal rest)

-- a GET is of a read of no more than `max_keys` keys
abbrev pub IsFew : List Key → Call → Type 0
IsFew keys (Prepare version) = Unit {0}
IsFew keys (Commit stamp) = Unit {0}
IsFew keys (Get key stamp) = length keys ≤ max_keys
IsFew keys (Found tag) = Unit {0}
IsFew keys (Collect keep) = Unit {0}
IsFew keys (Discard stamp) = Unit {0}

-- so is one of a get, and of a search that took these replies
abbrev pub ReadsFew : definitions.Intent → List Message → Call → Type 0
ReadsFew (Writes stamp items) replies call = Unit {0}
ReadsFew (Gets keys) replies call = IsFew keys call
ReadsFew (Finds tag) replies call = IsFew (all_keys_found replies) call

-- whoever takes the reply now
abbrev pub TakesFew : History → Message → Type 0
TakesFew history message =
    (transaction : Transaction) → running history message.client ≡ Some transaction
    → is_wanted history transaction message ≡ true
    → ReadsFew transaction.request (taken_in history transaction ++ message ∷ []) message.call

-- whichever reply is delivered now
abbrev pub ReadersAreFew : History → Type 0
ReadersAreFew history =
    (row : ℕ) (message : Message) → message_at history row ≡ Some message
    → is_some message.reply ≡ true → TakesFew history message

-- each log of a history has the replies of the definitions
abbrev pub LogsAreSound : Setup → History → Type 0
LogsAreSound setup history = (partition : ℕ) → IsSound setup.room (log_at setup history partition)

-- the act is this one, and there are rows for what it sends
pub record MayGoOn (act this : Act) (history : History) : Type 0 where
  pub asked : act ≡ this
  pub free : rows_are_used history ≡ false

-- this is the count, and no more than so many
pub record Counts (result count most : ℕ) : Type 0 where
  pub value : result ≡ count
  pub at_most : result ≤ most
