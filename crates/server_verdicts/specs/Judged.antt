-- Whether the journals that were left of a tenant are right.
use Rattle.std.specs.Prelude.{◌≡◌, ◌≢◌, ◌⊎◌, ℕ, Bool, true, false, List, [], Option, Result}
use Rattle.std.specs.Prelude.{Some, None, slice_get}
use Rattle.std.specs.Prelude.{codes, length}
use Rattle.std.specs.Global.{Vec}
use Rattle.stamps.specs.declared.bounds.Limits.{Limits}
use Rattle.partition.specs.declared.journal.Epoch.{Epoch}
use Rattle.partition.specs.declared.journal.Journal.{Journal}
use Rattle.closed_store.specs.Joins.{left_in}
use Rattle.server_verdicts.specs.declared.epochs.ending.Ending.{Ending}
use Rattle.server_verdicts.specs.declared.epochs.ending.LastEpochs.{LastEpochs}
use Rattle.line_runs.specs.declared.fault.ProgramFault.{ProgramFault}
use Rattle.server_verdicts.specs.declared.epochs.checked.Checked.{Checked}
use Rattle.server_verdicts.specs.declared.epochs.checked.Standing.TheVariants.{Right, Wrong, Unknown}
use Rattle.server_verdicts.specs.Taken.{IsNextEpoch, SomeLead}
use Rattle.server_verdicts.specs.Verdicts.{TellsEach}

-- for each journal there is an ending, whose epoch is the one that is left in it
pub record AreLeftIn (journals : List Journal) (row : List Ending) : Type 0 where
  pub each : (tenant : ℕ) (ending : Ending) → slice_get row tenant ≡ Some ending
      → (journal : Journal) × (slice_get journals tenant ≡ Some journal) × (ending.epoch ≡ left_in journal)
  pub as_many : length row ≡ length journals

-- for each partition there is a row of endings, the epochs of which are left in the partition's journals
pub record AreLeft (journals : List (Vec Journal)) (rows : List (Vec Ending)) : Type 0 where
  pub each : (partition : ℕ) (row : Vec Ending) → slice_get rows partition ≡ Some row
      → (own : Vec Journal) × (slice_get journals partition ≡ Some own) × AreLeftIn own.items row.items
  pub as_many : length rows ≡ length journals

-- What is known of a journal at its end is what was known of it at last; where nothing was kept of it, its epochs were found
-- neither right nor wrong.
abbrev pub IsEndedAs : {C : Type 0} → (C → Checked → Type 0) → Option C → Checked → Type 0
IsEndedAs HasEnded (Some its) checked = HasEnded its checked
IsEndedAs HasEnded None checked = checked.standing ≡ Unknown

-- so of each journal of a partition
abbrev pub AreEndedIn : {C : Type 0} → (C → Checked → Type 0) → List C → List Ending → Type 0
AreEndedIn HasEnded known row =
    (tenant : ℕ) (ending : Ending) → slice_get row tenant ≡ Some ending
    → IsEndedAs HasEnded (slice_get known tenant) ending.checked

-- what is known of a partition's journals, of which it may be that none is kept
abbrev pub known_there : {C : Type 0} → Option (Vec C) → List C
known_there None = []
known_there (Some known) = known.items

-- so partition by partition
abbrev pub AreEnded : {C : Type 0} → (C → Checked → Type 0) → List (Vec C) → List (Vec Ending) → Type 0
AreEnded HasEnded known rows =
    (partition : ℕ) (row : Vec Ending) → slice_get rows partition ≡ Some row
    → AreEndedIn HasEnded (known_there (slice_get known partition)) row.items

-- The journal is under these limits, and of its epochs each was taken that came, and was right: they lead to its number and its end, as
-- each `Checked` says. The one that was left follows the last of them: it has the next number, begins at its end, and is sound.
pub record IsRight (limits : Limits) (ending : Ending) : Type 0 where
  pub under : ending.checked.limits ≡ limits
  pub standing : ending.checked.standing ≡ Right
  pub follows : IsNextEpoch ending.checked.number ending.checked.end ending.epoch

-- the epoch that is wrong: one that was taken, since when the journal is wrong; or the one that was left, where each that
-- was taken was right
abbrev pub IsFallen : Ending → Epoch → Type 0
IsFallen ending epoch =
    ((ending.checked.standing ≡ Wrong) × (ending.checked.wrong ≡ Some epoch))
    ⊎ ((ending.checked.standing ≡ Right) × (ending.epoch ≡ epoch))

-- The journal is under these limits, and some right epochs were taken, in turn from the first one on, that the epoch
-- which is wrong does not follow.
pub record IsWrong (limits : Limits) (ending : Ending) : Type 0 where
  pub under : ending.checked.limits ≡ limits
  pub led : SomeLead limits ending.checked.number ending.checked.end
  pub epoch : Epoch
  pub fallen : IsFallen ending epoch
  pub bad : IsNextEpoch ending.checked.number ending.checked.end epoch → ⊥

-- nothing is reported of the journal where it is under other limits, or none of its epochs was found wrong
abbrev pub IsUntold : Limits → Ending → Type 0
IsUntold limits ending = (ending.checked.limits ≢ limits) ⊎ (ending.checked.standing ≢ Wrong)

-- yes, where the tenant's journal is there among these, and right
abbrev pub IsRightIn : Limits → ℕ → Vec Ending → Type 0
IsRightIn limits tenant row = (ending : Ending) × (slice_get row.items tenant ≡ Some ending) × IsRight limits ending

-- no, where it is not there, or wrong
abbrev pub IsWrongIn : Limits → ℕ → Vec Ending → Type 0
IsWrongIn limits tenant row =
    (slice_get row.items tenant ≡ None)
    ⊎ ((ending : Ending) × (slice_get row.items tenant ≡ Some ending) × IsWrong limits ending)

-- nothing, only where it is there and nothing is reported of it
abbrev pub IsUntoldIn : Limits → ℕ → Vec Ending → Type 0
IsUntoldIn limits tenant row = (ending : Ending) × (slice_get row.items tenant ≡ Some ending) × IsUntold limits ending

-- yes, where at each partition the journal of a tenant of these limits is there and right; and no, where at one it is
-- missing or wrong
abbrev pub IsCheckedIn : List (Vec Ending) → Limits → ℕ → Bool → Type 0
IsCheckedIn rows limits tenant true =
    (partition : ℕ) (row : Vec Ending) → slice_get rows partition ≡ Some row → IsRightIn limits tenant row
IsCheckedIn rows limits tenant false =
    (partition : ℕ) × (row : Vec Ending) × (slice_get rows partition ≡ Some row) × IsWrongIn limits tenant row

-- nothing, only where nothing is reported of its journal at a partition
abbrev pub IsUncheckedIn : List (Vec Ending) → Limits → ℕ → Type 0
IsUncheckedIn rows limits tenant =
    (partition : ℕ) × (row : Vec Ending) × (slice_get rows partition ≡ Some row) × IsUntoldIn limits tenant row

-- the same by the limits that the tenant has
abbrev pub IsCheckedAs : LastEpochs → ℕ → Bool → Type 0
IsCheckedAs endings tenant verdict =
    (limits : Limits) × (slice_get endings.limits.items tenant ≡ Some limits)
    × IsCheckedIn endings.rows.items limits tenant verdict

-- what was reported of these verdicts that ended so
abbrev pub TellsChecks : LastEpochs → List (List ℕ) → Option (List ℕ) → Option (List ℕ)
    → Result (Unit {0}) ProgramFault → Type 0
TellsChecks endings = TellsEach (IsCheckedAs endings) (codes "checked ") (length endings.limits.items)
