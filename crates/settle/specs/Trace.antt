-- Steps that were taken, each with what says that it was. They are listed newest first.
use Rattle.std.specs.Prelude.{ℕ, ◌+◌, ◌-◌, zero, suc, List, [], ◌∷◌, ◌++◌, Bool, false, ◌==◌, cond, slice_get, Option}
use Rattle.std.specs.Prelude.{Some, None}
use Rattle.settle.specs.Words.{Act, SetKeep, Call, Collect, Rows, Answer, PutBegun, GetBegun, FindBegun, Replied}
use Rattle.settle.specs.Words.{Decided, Ask, BeginsRead, Ended}
use Rattle.plain_store.specs.Words.{Setup}
use Rattle.plain_store.specs.History.{History, keep_in}
use Rattle.plain_store.specs.Run.{moment_of, answer_to}
use Rattle.partition.specs.Events.{Event}
use Rattle.closed_store.specs.declared.transcript.Transcript.{Transcript}
use Rattle.settle.specs.Input.{Input, setup_for, transcripts_in, events_of_partition}

-- what says that a step was taken: the transcript at a place, or the journal of a partition
pub data Origin : Type 0 where
  OfTranscript : ℕ → Origin
  OfJournal : ℕ → Origin

pub record TracedStep : Type 0 where
  pub origin : Origin
  pub act : Act

abbrev pub Trace : Type 0
Trace = List TracedStep

abbrev pub is_origin : Origin → Origin → Bool
is_origin (OfTranscript i) (OfTranscript j) = i == j
is_origin (OfJournal p) (OfJournal q) = p == q
is_origin (OfTranscript i) (OfJournal q) = false
is_origin (OfJournal p) (OfTranscript j) = false

-- how many steps were of this origin
abbrev pub times : Origin → Trace → ℕ
times origin [] = 0
times origin (taken ∷ older) = cond (is_origin taken.origin origin) (times origin older + 1) (times origin older)

-- ---- the Keep step right before a collection

abbrev pub keep_of : Call → Option ℕ
keep_of (Collect keep) = Some keep
keep_of call = None

-- how many versions the collection of a collector's event kept; a seat's event says nothing of it
abbrev pub keep_told : Option Event → Option ℕ
keep_told None = None
keep_told (Some event) = cond (event.seat == 0) (keep_of event.call) None

-- what the next event of the origin says of it
abbrev pub keep_named : Input → Trace → Origin → Option ℕ
keep_named input older (OfTranscript place) = None
keep_named input older (OfJournal partition) =
    keep_told (slice_get (events_of_partition input partition) (times (OfJournal partition) older))

-- that many, where another number is in force
abbrev pub differing : ℕ → Option ℕ → Option ℕ
differing own None = None
differing own (Some keep) = cond (own == keep) None (Some keep)

-- the plain store's history with a Keep step, if one is set
abbrev pub with_keep : Setup → History → Option ℕ → History
with_keep setup history None = history
with_keep setup history (Some keep) = moment_of setup history (SetKeep keep) ∷ history

abbrev pub ready_for : Setup → History → Option ℕ → History
ready_for setup history named = with_keep setup history (differing (keep_in setup history) named)

abbrev pub with_act : Setup → Act → History → History
with_act setup act history = moment_of setup history act ∷ history

-- the plain store's history after the steps, a Keep step standing right before each collection whose event kept another
-- number than was in force
abbrev pub after : Input → Trace → History
after input [] = []
after input (taken ∷ older) =
    with_act (setup_for input) taken.act
    (ready_for (setup_for input) (after input older) (keep_named input older taken.origin))

-- what a Keep step right before a step of this origin sets; none where there is none
abbrev pub keep_before : Input → Trace → Origin → Option ℕ
keep_before input older origin =
    differing (keep_in (setup_for input) (after input older)) (keep_named input older origin)

-- the history right before a step of this origin, its Keep step taken
abbrev pub ready : Input → Trace → Origin → History
ready input older origin = with_keep (setup_for input) (after input older) (keep_before input older origin)

-- the plain store's answer to a step of a transcript that follows
abbrev pub told_next : Input → Trace → Act → Answer
told_next input older act = answer_to (setup_for input) (after input older) act

-- the plain store's answer to a step
abbrev pub answered : Input → Trace → TracedStep → Answer
answered input older taken = answer_to (setup_for input) (ready input older taken.origin) taken.act

-- an answer as a seat reports it, which names no rows of an end
abbrev pub at_seat : Answer → Answer
at_seat (Ended refusal rows) = Ended refusal None
at_seat answer = answer

abbrev pub and_keep : List Act → Option ℕ → List Act
and_keep acts None = acts
and_keep acts (Some keep) = acts ++ SetKeep keep ∷ []

-- the steps in the order in which they were taken, the Keep steps among them
abbrev pub acts_of : Input → Trace → List Act
acts_of input [] = []
acts_of input (taken ∷ older) =
    and_keep (acts_of input older) (keep_before input older taken.origin) ++ taken.act ∷ []

-- those before a step of this origin, its Keep step among them
abbrev pub acts_before : Input → Trace → Origin → List Act
acts_before input older origin = and_keep (acts_of input older) (keep_before input older origin)

-- ---- rows

-- n numbers from the first on
abbrev pub numbers_from : ℕ → ℕ → List ℕ
numbers_from first zero = []
numbers_from first (suc n) = first ∷ numbers_from (first + 1) n

abbrev pub numbers : Rows → List ℕ
numbers rows = numbers_from rows.first (rows.last + 1 - rows.first)

-- the rows of the calls that a step sent, as its answer reports them
abbrev pub rows_sent : Answer → List ℕ
rows_sent (PutBegun stamp rows) = numbers rows
rows_sent (GetBegun rows) = numbers rows
rows_sent (FindBegun rows) = numbers rows
rows_sent (Decided stamp rows) = numbers rows
rows_sent (Ask rows) = numbers rows
rows_sent (BeginsRead rows) = numbers rows
rows_sent (Ended refusal (Some rows)) = numbers rows
rows_sent answer = []

-- the row of the reply that a step sent, 0 where it sent none
abbrev pub row_replied : Answer → ℕ
row_replied (Replied row reply) = row
row_replied answer = 0

abbrev pub is_seat : ℕ → Option Transcript → Bool
is_seat seat None = false
is_seat seat (Some transcript) = transcript.seat == seat

-- whether the step was of the seat
abbrev pub is_seats_step : Input → ℕ → Origin → Bool
is_seats_step input seat (OfTranscript i) = is_seat seat (slice_get (transcripts_in input) i)
is_seats_step input seat (OfJournal p) = false

-- the rows of the calls that a seat's steps sent, in their order: the seat's n-th call has the n-th of them
abbrev pub call_rows : Input → ℕ → Trace → List ℕ
call_rows input seat [] = []
call_rows input seat (taken ∷ older) =
    call_rows input seat older
    ++ cond (is_seats_step input seat taken.origin) (rows_sent (answered input older taken)) []

-- the rows of the replies to a journal's events, in their order
abbrev pub replies_sent : Input → ℕ → Trace → List ℕ
replies_sent input partition [] = []
replies_sent input partition (taken ∷ older) =
    replies_sent input partition older
    ++ cond (is_origin taken.origin (OfJournal partition)) (row_replied (answered input older taken) ∷ []) []
