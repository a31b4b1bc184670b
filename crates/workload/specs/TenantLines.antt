-- A line for each tenant, in the order of the names.
use Rattle.std.specs.Prelude.{◌≡◌, ◌≤◌, ℕ, List, Option, Some, Result, Ok, Err, length, min, slice_get, take}
use Rattle.std.specs.Io.KnownBytes.{Appends}
use Rattle.line_runs.specs.declared.fault.ProgramFault.{ProgramFault}
use Rattle.line_runs.specs.declared.fault.ProgramFault.TheVariants.{LineTooLong, Cut, Settle, Options}
use Rattle.line_runs.specs.declared.fault.ProgramFault.TheVariants.{OutOfMemory, Device}
use Rattle.server_verdicts.specs.Verdicts.{lines_text}

-- a line for each of so many tenants that has a name was written, of what was read of this tenant
pub record TellsAllLines {X : Type 0} (line : List ℕ → X → List ℕ) (IsOf : ℕ → X → Type 0) (tenants : ℕ)
    (names : List (List ℕ)) (old new : Option (List ℕ)) : Type 0 where
  pub all : List X
  pub count : length all ≡ min tenants (length names)
  pub each : (tenant : ℕ) (told : X) → slice_get all tenant ≡ Some told → IsOf tenant told
  pub written : Appends old new (lines_text line all names)

-- a beginning of the lines of the first tenants was written, which may be none of them, or all
pub record TellsSomeLines {X : Type 0} (line : List ℕ → X → List ℕ) (IsOf : ℕ → X → Type 0) (tenants : ℕ)
    (names : List (List ℕ)) (old new : Option (List ℕ)) : Type 0 where
  pub all : List X
  pub few : length all ≤ min tenants (length names)
  pub each : (tenant : ℕ) (told : X) → slice_get all tenant ≡ Some told → IsOf tenant told
  pub size : ℕ
  pub written : Appends old new (take size (lines_text line all names))

-- What was reported that ended so: all lines, or a beginning where an allocation failed or a device failed. It ends in no other way,
-- since there is no verdict.
abbrev pub TellsLines : {X : Type 0} → (List ℕ → X → List ℕ) → (ℕ → X → Type 0) → ℕ → List (List ℕ)
    → Option (List ℕ) → Option (List ℕ) → Result (Unit {0}) ProgramFault → Type 0
TellsLines line IsOf tenants names old new (Ok done) = TellsAllLines line IsOf tenants names old new
TellsLines line IsOf tenants names old new (Err Settle) = ⊥
TellsLines line IsOf tenants names old new (Err LineTooLong) = ⊥
TellsLines line IsOf tenants names old new (Err Cut) = ⊥
TellsLines line IsOf tenants names old new (Err Options) = ⊥
TellsLines line IsOf tenants names old new (Err OutOfMemory) = TellsSomeLines line IsOf tenants names old new
TellsLines line IsOf tenants names old new (Err Device) = TellsSomeLines line IsOf tenants names old new
