-- What the client of a connection is answered.
use Rattle.std.specs.Prelude.{◌≡◌, ◌⊎◌, ◌<◌, ℕ, List, [], ◌∷◌, ◌++◌, take, true, false}
use Rattle.std.specs.Prelude.{Bool, Option, Some, None, IfSome}
use Rattle.std.specs.Option.{option_map}
use Rattle.std.specs.List.{flat_map, filter_map, cons_option}
use Rattle.std.specs.Io.KnownBytes.{Appends}
use Rattle.plain_store.specs.declared.refusal.Refusal.{Refusal}
use Rattle.plain_store.specs.declared.answer.Answer.{Answer}
use Rattle.plain_store.specs.declared.answer.Answer.TheVariants.{Refused, Keeps}
use Rattle.entry_list.specs.declared.kinds.Entry.{Entry}
use Rattle.closed_store.specs.declared.transcript.Transcript.{Transcript}
use Rattle.history.specs.declared.entry.HistoryEntry.{HistoryEntry}
use Rattle.hub.specs.Seats.{SeatView, IsNamed, answer_in, is_of_worker}
use Rattle.line_protocol.specs.AnswerSpelling.{answer_line}
use Rattle.line_protocol.specs.ServeSpelling.{bye_line, info_line}
use Rattle.line_protocol.specs.StepSpelling.{IsNumberOf}
use Rattle.server_sessions.specs.Said.{Aside, asides_text, ready_line}
use Rattle.server_sessions.specs.SeatAnswers.{IsToldBySeat}

-- ---- what is reported

-- What a line is answered where a seat is: an answer that the seat entered, a refusal that it did not, how many versions each
-- collection keeps from then on, or which store it is, and whether its puts are newest.
pub data Telling : Type 0 where
  Entered : Answer → Telling
  Refuses : Refusal → Telling
  KeepsSo : ℕ → Telling
  Informs : ℕ → Bool → Telling

-- its line
abbrev pub telling_line : Telling → List ℕ
telling_line (Entered answer) = answer_line answer
telling_line (Refuses refusal) = answer_line (Refused refusal)
telling_line (KeepsSo keep) = answer_line (Keeps keep)
telling_line (Informs store newest) = info_line store newest

-- all that was entered
abbrev pub answers_entered : Telling → List Answer
answers_entered (Entered answer) = answer ∷ []
answers_entered (Refuses refusal) = []
answers_entered (KeepsSo keep) = []
answers_entered (Informs store newest) = []

-- the lines of these, one after the other
abbrev pub tellings_text : List Telling → List ℕ
tellings_text = flat_map telling_line

-- all entries are left, or none where journals are cut: they are returned then
abbrev pub IsLeftOf : ℕ → List Entry → List Entry → Type 0
IsLeftOf epoch all left = (epoch ≡ 0 → left ≡ all) × (0 < epoch → left ≡ [])

-- a worker's refusal was reported in place of this answer, if there is one
abbrev pub IsReplaced : Option Answer → List Telling → Type 0
IsReplaced unheard tellings =
    IfSome unheard (λ answer. (refusal : Refusal) × (before : List Telling) × (after : List Telling)
    × (is_of_worker refusal ≡ true) × (tellings ≡ before ++ Refuses refusal ∷ after))

-- What a client was answered whose seat has this counter and has these entries left: what no seat answers while there was none, the
-- counter, with the client's number where that was not asked for, and then an answer to each line. Of these the ones that the seat
-- entered are all that it entered, in order; but for one at the end, where a worker's refusal was reported in its place.
pub record HasHeard (epoch counter : ℕ) (left : List Entry) (unheard : Option Answer) (text : List ℕ) : Type 0 where
  pub asides : List Aside
  pub told_client : Option ℕ
  pub tellings : List Telling
  pub all : List Entry
  pub spelled : text ≡ asides_text asides ++ (ready_line counter told_client ++ tellings_text tellings)
  pub handed : IsLeftOf epoch all left
  pub agrees : filter_map answer_in all ≡ flat_map answers_entered tellings ++ cons_option unheard []
  pub replaced : IsReplaced unheard tellings

-- What was reported so far of a seat, by what it has entered: one that was not stopped entered nothing that was not told.
abbrev pub WasHeard : ℕ → SeatView → List ℕ → Type 0
WasHeard epoch seat text =
    (unheard : Option Answer) × HasHeard epoch seat.name.counter seat.entries unheard text
    × (seat.stopped ≡ false → unheard ≡ None)

-- What was reported so far: what no seat answers where none was opened; else what the seat has entered, and that is what it
-- answered.
abbrev pub WasTold : Bool → ℕ → Option SeatView → List ℕ → Type 0
WasTold newest epoch None text = (asides : List Aside) × (text ≡ asides_text asides)
WasTold newest epoch (Some seat) text = WasHeard epoch seat text × IsToldBySeat newest epoch seat text

-- whatever was reported before, this text is reported after it
abbrev pub Tells : Bool → ℕ → Option SeatView → Option SeatView → List ℕ → Type 0
Tells newest epoch before after text =
    (told : List ℕ) → WasTold newest epoch before told → WasTold newest epoch after (told ++ text)

-- A session's transcript, and what its seat has seen of the store's history at last.
abbrev pub SessionLeft : Type 0
SessionLeft = Transcript × List HistoryEntry

-- What was reported in a session that left this: what its seat has entered, and that is what the seat answered, by the
-- history that it has seen, whether journals are cut or not.
pub record IsToldOfSeat (newest : Bool) (epoch : ℕ) (left : SessionLeft) (text : List ℕ) : Type 0 where
  pub unheard : Option Answer
  pub heard : HasHeard epoch left.0.counter left.0.entries.items unheard text
  pub seat : SeatView
  pub its : IsNamed left.0 seat.name
  pub entries : left.0.entries.items ≡ seat.entries
  pub seen : left.1 ≡ seat.seen
  pub answered : IsToldBySeat newest epoch seat text

-- what was reported in a session that left this, or opened no seat
abbrev pub HasTold : Bool → ℕ → Option SessionLeft → List ℕ → Type 0
HasTold newest epoch None text = (asides : List Aside) × (text ≡ asides_text asides)
HasTold newest epoch (Some left) text = IsToldOfSeat newest epoch left text

-- what ends a session: nothing, the line of `bye`, or that of a refusal
abbrev pub IsLastLine : List ℕ → Type 0
IsLastLine text = (text ≡ []) ⊎ ((text ≡ bye_line) ⊎ ((cause : Refusal) × (text ≡ answer_line (Refused cause))))

-- what a session wrote that left this, or opened no seat
abbrev pub IsWritten : Bool → ℕ → Option SessionLeft → Option (List ℕ) → Option (List ℕ) → Type 0
IsWritten newest epoch left old new =
    (told : List ℕ) × (last : List ℕ) × HasTold newest epoch left told × IsLastLine last
    × Appends old new (told ++ last)

-- what a session wrote that left this, or opened no seat, and ended by a fault: a beginning of what it was answered
abbrev pub IsBegun : Bool → ℕ → Option SessionLeft → Option (List ℕ) → Option (List ℕ) → Type 0
IsBegun newest epoch left old new =
    (told : List ℕ) × (last : List ℕ) × (n : ℕ) × HasTold newest epoch left told × IsLastLine last
    × Appends old new (take n (told ++ last))

-- what is written where a session breaks off that had gathered this before: a beginning of it and of what is reported then
abbrev pub BreaksTelling : Bool → ℕ → Option SeatView → Option SeatView → Option (List ℕ) → Option (List ℕ)
    → List ℕ → Type 0
BreaksTelling newest epoch before after old new gathered =
    (text : List ℕ) × (n : ℕ) × Tells newest epoch before after text × Appends old new (take n (gathered ++ text))

-- ---- of whom the seat is

abbrev pub seat_tenant : Option SeatView → Option ℕ
seat_tenant seat = option_map (λ s. s.name.tenant) seat

-- the number of a tenant that goes by one of these names
abbrev pub HasName : List (List ℕ) → ℕ → Type 0
HasName names tenant = (name : List ℕ) × IsNumberOf names name tenant

-- the seat, if there is one, is of a tenant that goes by one of these names
abbrev pub IsSeated : Option SeatView → List (List ℕ) → Type 0
IsSeated seat names = IfSome (seat_tenant seat) (HasName names)
