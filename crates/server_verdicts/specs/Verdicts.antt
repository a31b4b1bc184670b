-- What is reported of the verdict over a store that was closed.
use Rattle.std.specs.Prelude.{◌≡◌, ◌≢◌, ◌≤◌, ℕ, List, [], ◌∷◌, ◌++◌, Bool, true, false, length, slice_get, codes}
use Rattle.std.specs.Prelude.{decimal, Option, Some, Result, Ok, Err, min, take}
use Rattle.std.specs.List.{list_all}
use Rattle.std.specs.Global.{Vec}
use Rattle.std.specs.Io.KnownBytes.{Appends, Keeps}
use Rattle.plain_store.specs.declared.step.Step.{Step}
use Rattle.closed_store.specs.declared.closed.Closed.{Closed}
use Rattle.settle.specs.declared.settle_fault.SettleFault.{SettleFault}
use Rattle.settle.specs.declared.settle_fault.SettleFault.TheVariants.{OutOfMemory}
use Rattle.line_runs.specs.declared.fault.ProgramFault.{ProgramFault}
use Rattle.line_runs.specs.declared.fault.ProgramFault.TheVariants.{LineTooLong, Cut, Settle, Options, Device}
use Rattle.line_runs.specs.declared.fault.ProgramFault.TheVariants.{OutOfMemory as NoMemory}
use Rattle.settle.specs.Verdict.{IsVerdictFor, limits_at}
use Rattle.server_verdicts.specs.Begun.{BegunCounts, counts_of}

-- the verdict over a tenant is this: a list of steps that settles it, or a fault other than an allocation failure
abbrev pub IsVerdictOf : Closed → ℕ → Bool → Type 0
IsVerdictOf closed tenant true = (steps : Vec Step) × IsVerdictFor closed tenant (limits_at closed tenant) (Ok steps)
IsVerdictOf closed tenant false =
    (fault : SettleFault) × (fault ≢ OutOfMemory) × IsVerdictFor closed tenant (limits_at closed tenant) (Err fault)

-- the n-th of these is the verdict over tenant n
abbrev pub AreVerdicts : (ℕ → Bool → Type 0) → List Bool → Type 0
AreVerdicts IsVerdict verdicts =
    (tenant : ℕ) (verdict : Bool) → slice_get verdicts tenant ≡ Some verdict → IsVerdict tenant verdict

abbrev pub are_all_yes : List Bool → Bool
are_all_yes verdicts = list_all (λ verdict. verdict) verdicts

abbrev pub verdict_word : Bool → List ℕ
verdict_word true = codes " yes\n"
verdict_word false = codes " no\n"

-- the line that reports the verdict over the tenant of a name, after a word that ends in a space
abbrev pub verdict_line : List ℕ → List ℕ → Bool → List ℕ
verdict_line word name verdict = word ++ name ++ verdict_word verdict

-- the lines of these, each with the name at its place
abbrev pub lines_text : {X : Type 0} → (List ℕ → X → List ℕ) → List X → List (List ℕ) → List ℕ
lines_text line [] names = []
lines_text line (told ∷ others) [] = []
lines_text line (told ∷ others) (name ∷ names) = line name told ++ lines_text line others names

-- how many of the store's tenants have a name
abbrev pub named_count : Closed → List (List ℕ) → ℕ
named_count closed names = min (length closed.config.limits.items) (length names)

-- The verdicts over all of so many tenants that have a name were written after this word, in the order of the names;
-- and whether all are yes.
pub record TellsAll (IsVerdict : ℕ → Bool → Type 0) (word : List ℕ) (tenants : ℕ) (names : List (List ℕ))
    (all_yes : Bool) (old new : Option (List ℕ)) : Type 0 where
  pub verdicts : List Bool
  pub count : length verdicts ≡ min tenants (length names)
  pub each : AreVerdicts IsVerdict verdicts
  pub all : are_all_yes verdicts ≡ all_yes
  pub written : Appends old new (lines_text (verdict_line word) verdicts names)

-- A beginning of the lines of the first tenants was written, where each line reports the verdict over its tenant. It may
-- be none of them, or all.
pub record TellsSome (IsVerdict : ℕ → Bool → Type 0) (word : List ℕ) (tenants : ℕ) (names : List (List ℕ))
    (old new : Option (List ℕ)) : Type 0 where
  pub verdicts : List Bool
  pub few : length verdicts ≤ min tenants (length names)
  pub each : AreVerdicts IsVerdict verdicts
  pub size : ℕ
  pub written : Appends old new (take size (lines_text (verdict_line word) verdicts names))

-- What was reported of verdicts that ended so: all of them, which are all yes where it ended well, and not all where it
-- ended with Settle; a beginning where an allocation failed or a device failed. It ends in no other way.
abbrev pub TellsEach : (ℕ → Bool → Type 0) → List ℕ → ℕ → List (List ℕ) → Option (List ℕ) → Option (List ℕ)
    → Result (Unit {0}) ProgramFault → Type 0
TellsEach IsVerdict word tenants names old new (Ok done) = TellsAll IsVerdict word tenants names true old new
TellsEach IsVerdict word tenants names old new (Err Settle) = TellsAll IsVerdict word tenants names false old new
TellsEach IsVerdict word tenants names old new (Err LineTooLong) = ⊥
TellsEach IsVerdict word tenants names old new (Err Cut) = ⊥
TellsEach IsVerdict word tenants names old new (Err Options) = ⊥
TellsEach IsVerdict word tenants names old new (Err NoMemory) = TellsSome IsVerdict word tenants names old new
TellsEach IsVerdict word tenants names old new (Err Device) = TellsSome IsVerdict word tenants names old new

-- the same of the verdicts over a store that was closed
abbrev pub TellsVerdicts : Closed → List (List ℕ) → Option (List ℕ) → Option (List ℕ)
    → Result (Unit {0}) ProgramFault → Type 0
TellsVerdicts closed = TellsEach (IsVerdictOf closed) (codes "settled ") (length closed.config.limits.items)

-- What was written where a line could not be told: nothing where an allocation failed, and where a device failed a
-- beginning of such a line. There is no other reason.
abbrev pub BreaksOff : (List ℕ → Type 0) → Option (List ℕ) → Option (List ℕ) → ProgramFault → Type 0
BreaksOff IsLine old new Settle = ⊥
BreaksOff IsLine old new LineTooLong = ⊥
BreaksOff IsLine old new Cut = ⊥
BreaksOff IsLine old new Options = ⊥
BreaksOff IsLine old new NoMemory = Keeps old new
BreaksOff IsLine old new Device = (line : List ℕ) × (size : ℕ) × IsLine line × Appends old new (take size line)

-- the line reports the verdict over the tenant of a name
abbrev pub TellsTenant : (ℕ → Bool → Type 0) → List ℕ → ℕ → List ℕ → List ℕ → Type 0
TellsTenant IsVerdict word tenant name line =
    (verdict : Bool) × IsVerdict tenant verdict × (line ≡ verdict_line word name verdict)

-- the line that reports how many operations the seats of the tenant of a name began
abbrev pub load_line : List ℕ → BegunCounts → List ℕ
load_line name counts =
    codes "load " ++ name ++ codes " puts " ++ decimal counts.puts ++ codes " gets " ++ decimal counts.gets
    ++ codes " finds " ++ decimal counts.finds ++ codes "\n"

-- the n-th of these are what the sessions of tenant n began
abbrev pub AreCounts : Closed → List BegunCounts → Type 0
AreCounts closed all =
    (tenant : ℕ) (counts : BegunCounts) → slice_get all tenant ≡ Some counts → counts ≡ counts_of closed tenant

-- a line for each tenant of the store that has a name was written, in the order of the names
pub record TellsCounts (closed : Closed) (names : List (List ℕ)) (old new : Option (List ℕ)) : Type 0 where
  pub all : List BegunCounts
  pub count : length all ≡ named_count closed names
  pub each : AreCounts closed all
  pub written : Appends old new (lines_text load_line all names)

-- a beginning of the lines of the first tenants was written, which may be none of them, or all
pub record TellsSomeCounts (closed : Closed) (names : List (List ℕ)) (old new : Option (List ℕ)) : Type 0 where
  pub all : List BegunCounts
  pub few : length all ≤ named_count closed names
  pub each : AreCounts closed all
  pub size : ℕ
  pub written : Appends old new (take size (lines_text load_line all names))

-- what was reported of the counts that ended so: all of them, or a beginning
abbrev pub TellsBegun : Closed → List (List ℕ) → Option (List ℕ) → Option (List ℕ)
    → Result (Unit {0}) ProgramFault → Type 0
TellsBegun closed names old new (Ok done) = TellsCounts closed names old new
TellsBegun closed names old new (Err Settle) = ⊥
TellsBegun closed names old new (Err LineTooLong) = ⊥
TellsBegun closed names old new (Err Cut) = ⊥
TellsBegun closed names old new (Err Options) = ⊥
TellsBegun closed names old new (Err NoMemory) = TellsSomeCounts closed names old new
TellsBegun closed names old new (Err Device) = TellsSomeCounts closed names old new
