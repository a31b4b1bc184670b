-- What the calls that answer the lines of a connection ask for, and what they promise alike.
use Rattle.std.specs.Prelude.{◌≤◌, ℕ, Bool, List, [], Option, Result, IfOk, IfErr, IfSome, OnOk}
use Rattle.hub.specs.Hubs.{ConfigView}
use Rattle.hub.specs.Seats.{SeatView}
use Rattle.line_runs.specs.RunAnswers.{Gathers}
use Rattle.line_runs.specs.declared.fault.RunFault.{RunFault}
use Rattle.server_sessions.specs.declared.session_options.SessionOptions.{SessionOptions}
use Rattle.server_sessions.specs.declared.line_session.SessionEnd.{SessionEnd}
use Rattle.server_sessions.specs.Answered.{EndsBefore, HasAnswered, HasAnsweredSome, StaysBehind}
use Rattle.server_sessions.specs.Answering.{GoesOnBehind, IsLineAnswered}
use Rattle.server_sessions.specs.Histories.{IsGivenIn}
use Rattle.server_sessions.specs.Said.{Said, said_line}
use Rattle.server_sessions.specs.Telling.{BreaksTelling, HasName, IsBegun, IsSeated, IsWritten, SessionLeft, Tells}

-- there is room for so long a line, and the seat, if there is one, is of a tenant that goes by one of these names
pub record MayAnswer (line spare : ℕ) (seat : Option SeatView) (names : List (List ℕ)) : Type 0 where
  pub ready : line ≤ spare
  pub tenant : IsSeated seat names

-- What was reported while lines were answered, from the first seat to the last, was gathered or written, or, at a fault,
-- a beginning of it was written. There is room for the next line, and the seat is still of a tenant that goes by one of
-- these names.
pub record KeepsTelling {X : Type 0} (newest : Bool) (epoch : ℕ) (names : List (List ℕ)) (first last : Option SeatView)
    (old new : Option (List ℕ)) (before after : List ℕ) (line spare : ℕ) (result : Result X RunFault) : Type 0 where
  pub ready : OnOk result (line ≤ spare)
  pub tenant : IsSeated last names
  pub told : OnOk result ((text : List ℕ) × Gathers old new before after text × Tells newest epoch first last text)
  pub begun : IfErr result (λ fault. BreaksTelling newest epoch first last old new before)

-- What a session over this input leaves, if all of the input is known.
pub record HasRun (options : SessionOptions) (hub : ConfigView) (names : List (List ℕ)) (input old new : Option (List ℕ))
    (left : Option SessionLeft) (result : Result (Unit {0}) RunFault) : Type 0 where
  -- A transcript stands there exactly where a seat was opened. Then `ready` and its counter were written, and what the
  -- seat answered, each in its turn, by the history that it has seen.
  pub written : IfOk result (λ done. IsWritten options.newest hub.epoch left old new)
  -- at a fault a beginning of that was written, and the transcript stands there just so
  pub begun : IfErr result (λ fault. IsBegun options.newest hub.epoch left old new)
  -- it is of a tenant that goes by one of these names
  pub tenant : IfSome left (λ its. HasName names its.0.tenant)
  -- each reply in the transcript has its place in the history that the seat has seen
  pub given : IfSome left (λ its. IsGivenIn its.1 its.0)
  -- Each line of a prefix of the input was answered, in its turn, and then the session ended. A strict one goes on only
  -- behind lines that it could read, until it has a seat.
  pub answered : IfOk result (λ done. IfSome input (λ stream. HasAnswered options hub names stream left old new))
  -- at a fault a beginning of the answers to such lines was written
  pub broke : IfErr result (λ fault. IfSome input (λ stream. HasAnsweredSome options hub names stream left old new))

-- The line was answered with what it asks for, or that it could not be read, and the seat reports so. The session goes on behind it.
pub record AnswersLine (options : SessionOptions) (hub : ConfigView) (names : List (List ℕ)) (text : List ℕ)
    (first : Option SeatView) (said : Said) (last : Option SeatView) : Type 0 where
  pub told : Tells options.newest hub.epoch first last (said_line said)
  pub line : IsLineAnswered options hub names text first said last
  pub goes_on : GoesOnBehind options first text

-- The line ends the session before it is answered, and the seat reports nothing.
pub record EndsAtLine (options : SessionOptions) (hub : ConfigView) (text : List ℕ) (first last : Option SeatView)
    (ending : SessionEnd) : Type 0 where
  pub untold : Tells options.newest hub.epoch first last []
  pub ends : EndsBefore options first ending text
  pub left : StaysBehind hub.epoch first last
