-- A line that could not be read: for `Connection::answer`.
use Rattle.std.proofs.Common.{◌≡◌, Bool, ℕ, List, Option, Some, None, Result, Ok, Err, sym, ap, subst, inr}
use Rattle.std.specs.Prelude.{IfNone, IsTrue}
use Rattle.plain_store.specs.declared.refusal.Refusal.{Refusal}
use Rattle.plain_store.specs.declared.refusal.Refusal.TheVariants.{BadLine}
use Rattle.plain_store.specs.declared.answer.Answer.TheVariants.{Refused}
use Rattle.hub.specs.Hubs.{ConfigView}
use Rattle.hub.specs.Seats.{SeatView}
use Rattle.line_protocol.specs.ServeSpelling.{IsNoServeLine, RefusesLine}
use Rattle.server_sessions.specs.declared.session_options.SessionOptions.{SessionOptions}
use Rattle.server_sessions.specs.declared.line_session.SessionEnd.{SessionEnd}
use Rattle.server_sessions.specs.Answering.{GoesOnBehind, IsLineAnswered, refused_as}
use Rattle.server_sessions.specs.Promised.{AnswersLine}
use Rattle.server_sessions.specs.Said.{Said, Answers, said_line}
use Rattle.server_sessions.specs.Telling.{Tells}
use Rattle.server_sessions.proofs.ToldOf.{Tells-cause}

-- it is refused
pub unread_told : (r : Option SessionEnd) (newest : Bool) (epoch : ℕ) (old new : Option SeatView) (answer : Said) (cause : Refusal) → new ≡ old → IfNone r (answer ≡ Answers (Refused cause))
    → IfNone r (Tells newest epoch old new (said_line answer))
unread_told (Some ending) newest epoch old new answer cause same h = tt
unread_told None newest epoch old new answer cause same h =
    subst (λ (s : Option SeatView). Tells newest epoch old s (said_line answer)) (sym same)
    (subst (λ (a : Said). Tells newest epoch old old (said_line a)) (sym h) (Tells-cause newest epoch old cause))

pub unread_answered : (r : Option SessionEnd) (options : SessionOptions) (hub : ConfigView) (names : List (List ℕ)) (line : List ℕ) (refusal : Refusal) (old new : Option SeatView) (answer : Said) → RefusesLine line refusal → new ≡ old
    → IfNone r (answer ≡ Answers (Refused (refused_as old refusal))) → IfNone r (IsLineAnswered options hub names line old answer new)
unread_answered (Some ending) options hub names line refusal old new answer refuses same h = tt
unread_answered None options hub names line refusal old new answer refuses same h = inr ((refusal, refuses, h), same)

abbrev cause_of : {A : Type 0} → Result A Refusal → Refusal
cause_of (Ok a) = BadLine
cause_of (Err cause) = cause

pub unread_goes_on : {A : Type 0} (r : Option SessionEnd) (options : SessionOptions) (seat : Option SeatView) (line : List ℕ) (refusal : Refusal) → (IsNoServeLine line → ◌≡◌ {A = Result A Refusal} (Err refusal) (Err BadLine))
    → IfNone r (IsTrue options.strict → seat ≡ None → refusal ≡ BadLine → ⊥) → IfNone r (GoesOnBehind options seat line)
unread_goes_on (Some ending) options seat line refusal bad h = tt
unread_goes_on None options seat line refusal bad h = λ strict none no_line. h strict none (ap cause_of (bad no_line))

-- ---- all of that

pub unread_line : (r : Option SessionEnd) (options : SessionOptions) (hub : ConfigView) (names : List (List ℕ)) (line : List ℕ) (old : Option SeatView) (answer : Said) (new : Option SeatView)
    → IfNone r (Tells options.newest hub.epoch old new (said_line answer)) → IfNone r (IsLineAnswered options hub names line old answer new) → IfNone r (GoesOnBehind options old line)
    → IfNone r (AnswersLine options hub names line old answer new)
unread_line (Some ending) options hub names line old answer new told is goes_on = tt
unread_line None options hub names line old answer new told is goes_on = record { told = told; line = is; goes_on = goes_on }
