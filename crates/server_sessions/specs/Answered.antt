-- What the lines of a session are answered, one after the other.
use Rattle.std.specs.Prelude.{◌≡◌, ◌⊎◌, ◌↔◌, ℕ, Bool, true, false, List, [], ◌∷◌, ◌++◌, take, Option, Some, None, Err, IsSome, IsTrue}
use Rattle.std.specs.Io.KnownBytes.{Appends}
use Rattle.plain_store.specs.declared.refusal.Refusal.TheVariants.{OutOfMemory}
use Rattle.plain_store.specs.declared.answer.Answer.TheVariants.{Refused}
use Rattle.hub.specs.Hubs.{ConfigView}
use Rattle.hub.specs.Seats.{IsNamed, SeatView, recorded}
use Rattle.line_protocol.specs.Held.{EndsAs}
use Rattle.line_protocol.specs.ServeSpelling.{IsNoServeLine, IsServeLine}
use Rattle.line_protocol.specs.Stream.{lines_of, terminated}
use Rattle.line_protocol.specs.declared.request.Request.TheVariants.{Bye}
use Rattle.line_runs.specs.RunAnswers.{AnswersFront, Gathers, end_of}
use Rattle.line_runs.specs.declared.fault.End.TheVariants.{Whole}
use Rattle.server_sessions.specs.declared.session_options.SessionOptions.{SessionOptions}
use Rattle.server_sessions.specs.declared.line_session.SessionEnd.{SessionEnd}
use Rattle.server_sessions.specs.declared.line_session.SessionEnd.TheVariants.{Silent, Bye as SaysBye, Unread}
use Rattle.server_sessions.specs.declared.line_session.SessionEnd.TheVariants.{Refused as IsRefused}
use Rattle.server_sessions.specs.Answering.{GoesOnBehind, IsLineAnswered, last_line}
use Rattle.server_sessions.specs.Said.{Said, Answers, said_line}
use Rattle.server_sessions.specs.SeatAnswers.{IsDrained}
use Rattle.server_sessions.specs.Telling.{IsLastLine, SessionLeft}

-- the seat of a connection, if it has one, and whether its session is over: then no more lines are answered
pub record SessionState : Type 0 where
  pub seat : Option SeatView
  pub over : Bool

abbrev pub state_of : Option SeatView → Bool → SessionState
state_of seat over = record { seat = seat; over = over }

-- a session is over once its seat answered that an allocation failed
abbrev pub IsOverBehind : Bool → Option SeatView → Said → Type 0
IsOverBehind over seat said = IsTrue over ↔ (IsSome seat × (said ≡ Answers (Refused OutOfMemory)))

-- The text answers these lines, one after the other, of a session in this state, and the last one behind them. It goes on behind each
-- but the last.
abbrev pub AnswersLines : SessionOptions → ConfigView → List (List ℕ) → SessionState → SessionState
    → List (List ℕ) → List ℕ → Type 0
AnswersLines options hub names last now [] text = (now ≡ last) × (text ≡ [])
AnswersLines options hub names last now (line ∷ lines) text =
    (said : Said) × (next : SessionState) × (rest : List ℕ)
    × (now.over ≡ false) × IsLineAnswered options hub names line now.seat said next.seat
    × IsOverBehind next.over next.seat said
    × GoesOnBehind options now.seat line × (text ≡ said_line said ++ rest)
    × AnswersLines options hub names last next lines rest

-- a prefix of the stream is answered by the text of a session that has the first seat, and then the rest as from the state on
abbrev pub AnswersUpTo : SessionOptions → ConfigView → List (List ℕ) → Option SeatView → SessionState
    → List ℕ → List ℕ → List ℕ → Type 0
AnswersUpTo options hub names first now stream left text =
    (last : SessionState) → AnswersFront (AnswersLines options hub names last) (state_of first false) now stream left text

-- A line ends a session that has this seat, or none, before it is answered: a `bye`; or one that could not be read, of
-- a strict session that has no seat.
abbrev pub EndsBefore : SessionOptions → Option SeatView → SessionEnd → List ℕ → Type 0
EndsBefore options seat Silent line = ⊥
EndsBefore options seat SaysBye line = IsServeLine Bye line
EndsBefore options seat Unread line = IsTrue options.strict × (seat ≡ None) × IsNoServeLine line
EndsBefore options seat (IsRefused cause) line = ⊥

-- the bytes begin with a line that ends the session so
abbrev pub ComesToEnd : SessionOptions → Option SeatView → SessionEnd → List ℕ → Type 0
ComesToEnd options seat ending left =
    (line : List ℕ) × (rest : List ℕ) × (left ≡ terminated line ++ rest) × EndsBefore options seat ending line

-- Why a session in this state ended so, with these bytes left: the input was at its end, or it was over; a line comes next that ends
-- it; or what comes next is too long or cut.
abbrev pub EndsFor : SessionOptions → SessionState → SessionEnd → List ℕ → Type 0
EndsFor options now Silent left = (left ≡ []) ⊎ (now.over ≡ true)
EndsFor options now SaysBye left = (now.over ≡ false) × ComesToEnd options now.seat SaysBye left
EndsFor options now Unread left = (now.over ≡ false) × ComesToEnd options now.seat Unread left
EndsFor options now (IsRefused cause) left = (now.over ≡ false) × EndsAs left (Err cause)

-- behind the answers the seat stays as it was, or its entries are returned where journals are cut
abbrev pub StaysBehind : ℕ → Option SeatView → Option SeatView → Type 0
StaysBehind epoch old new =
    (new ≡ old) ⊎ ((seat : SeatView) × (after : SeatView) × (old ≡ Some seat) × (new ≡ Some after)
    × IsDrained epoch seat after)

-- Of bytes that came a front was answered by the text that was gathered or written, and what is left is held; or the
-- session ends so, whatever bytes follow.
abbrev pub GoesOnOrEnds : SessionOptions → ℕ → Option SessionEnd → List ℕ → List ℕ → SessionState → Option SeatView → Type 0
GoesOnOrEnds options epoch None held left now new = (left ≡ held) × (now ≡ state_of new false)
GoesOnOrEnds options epoch (Some ending) held left now new =
    ((more : List ℕ) → EndsFor options now ending (left ++ more)) × StaysBehind epoch now.seat new

-- the same of the bytes, from what was gathered before on
pub record TakesBytes (options : SessionOptions) (hub : ConfigView) (names : List (List ℕ))
    (ending : Option SessionEnd) (first last : Option SeatView) (bytes held : List ℕ) (old new : Option (List ℕ)) (before after : List ℕ)
    : Type 0 where
  pub text : List ℕ
  pub left : List ℕ
  pub now : SessionState
  pub gathers : Gathers old new before after text
  pub answers : AnswersUpTo options hub names first now bytes left text
  pub goes : GoesOnOrEnds options hub.epoch ending held left now last

-- the same of a whole input, where the session ended so
pub record TakesInput (options : SessionOptions) (hub : ConfigView) (names : List (List ℕ))
    (ending : SessionEnd) (first last : Option SeatView) (input : List ℕ) (old new : Option (List ℕ)) (before after : List ℕ)
    : Type 0 where
  pub text : List ℕ
  pub left : List ℕ
  pub now : SessionState
  pub gathers : Gathers old new before after text
  pub answers : AnswersUpTo options hub names first now input left text
  pub ends : EndsFor options now ending left
  pub behind : StaysBehind hub.epoch now.seat last

-- What a fault leaves of bytes that came: a beginning of what was gathered before and of the answers to a prefix of
-- them is written.
pub record BreaksOffIn (options : SessionOptions) (hub : ConfigView) (names : List (List ℕ))
    (first last : Option SeatView) (bytes : List ℕ) (old new : Option (List ℕ)) (before : List ℕ) : Type 0 where
  pub text : List ℕ
  pub left : List ℕ
  pub size : ℕ
  pub over : Bool
  pub answers : AnswersUpTo options hub names first (state_of last over) bytes left text
  pub written : Appends old new (take size (before ++ text))

-- what is left is of the seat: its transcript, with its entries where none were returned, and the history that it has
-- seen; or there is neither
abbrev pub IsOfSeat : ℕ → Option SeatView → Option SessionLeft → Type 0
IsOfSeat epoch None left = left ≡ None
IsOfSeat epoch (Some seat) left =
    (its : SessionLeft) × (left ≡ Some its) × IsNamed its.0 seat.name
    × (epoch ≡ 0 → its.0.entries.items ≡ seat.entries) × (its.1 ≡ seat.seen)

-- what is left of a seat that was ended: its transcript, with its entries where they are recorded, and the history that it has seen
abbrev pub IsEndOf : Option SeatView → Option SessionLeft → Type 0
IsEndOf None left = left ≡ None
IsEndOf (Some seat) left =
    (its : SessionLeft) × (left ≡ Some its) × IsNamed its.0 seat.name
    × (its.0.entries.items ≡ recorded seat.name seat.entries) × (its.1 ≡ seat.seen)

-- What a session over this input wrote that left this, or opened no seat: each line of a prefix of the input, which has whole lines
-- alone, was answered in its turn, by the tenant that its hello named; and then comes the last line.
pub record HasAnswered (options : SessionOptions) (hub : ConfigView) (names : List (List ℕ)) (input : List ℕ)
    (its : Option SessionLeft) (old new : Option (List ℕ)) : Type 0 where
  pub front : List ℕ
  pub left : List ℕ
  pub whole : input ≡ front ++ left
  pub lines : end_of front ≡ Whole
  pub now : SessionState
  pub text : List ℕ
  pub answers : AnswersLines options hub names now (state_of None false) (lines_of front) text
  pub ending : SessionEnd
  pub ends : EndsFor options now ending left
  pub left_behind : IsOfSeat hub.epoch now.seat its
  pub written : Appends old new (text ++ last_line ending)

-- What a session over this input wrote that ended by a fault and left this, or opened no seat: a beginning of the
-- answers to the lines of a prefix of the input, each in its turn, and of a last line.
pub record HasAnsweredSome (options : SessionOptions) (hub : ConfigView) (names : List (List ℕ)) (input : List ℕ)
    (its : Option SessionLeft) (old new : Option (List ℕ)) : Type 0 where
  pub front : List ℕ
  pub left : List ℕ
  pub whole : input ≡ front ++ left
  pub now : SessionState
  pub text : List ℕ
  pub answers : AnswersLines options hub names now (state_of None false) (lines_of front) text
  pub left_behind : IsOfSeat hub.epoch now.seat its
  pub last : List ℕ
  pub is_last : IsLastLine last
  pub size : ℕ
  pub written : Appends old new (take size (text ++ last))
