-- What a program does.
use Rattle.std.specs.Prelude.{◌⊎◌, ℕ, List, map, Option, Result, Ok, Err}
use Rattle.std.specs.Io.KnownBytes.{Keeps}
use Rattle.stamps.specs.declared.bounds.Limits.{Limits}
use Rattle.line_runs.specs.declared.fault.End.{End}
use Rattle.line_runs.specs.declared.fault.End.TheVariants.{Whole, TooLong as EndsTooLong, Cut as EndsCut}
use Rattle.line_runs.specs.declared.fault.ProgramFault.{ProgramFault}
use Rattle.line_runs.specs.declared.fault.ProgramFault.TheVariants.{LineTooLong, Cut, Settle, Options}
use Rattle.line_runs.specs.declared.fault.ProgramFault.TheVariants.{OutOfMemory, Device}
use Rattle.line_runs.specs.RunAnswers.{AnsweredFront, AnsweredPart}
use Rattle.line_runs.specs.Served.{ServesCell, ServesSim, answers_of_cell, answers_of_store}
use Rattle.command_line.specs.declared.load_options.LoadOptions.{LoadOptions}
use Rattle.command_line.specs.Words.{MayAskForText, AsksForCell, AsksForLoad, AsksForStore, AsksForNothing}
use Rattle.load.specs.Loading.{HasLoaded, LoadView}
use Rattle.workload.specs.Serving.{store_view}

-- a cell of the room that the words ask for served the input, which ended so
abbrev pub CellServes : List (List ℕ) → Option (List ℕ) → Option (List ℕ) → Option (List ℕ) → End → Type 0
CellServes words input old new end =
    (slots : ℕ) × (items : ℕ) × (clients : ℕ) × AsksForCell words slots items clients
    × ServesCell slots items clients input old new end

-- the store that the words ask for served the input, which ended so
abbrev pub StoreServes : List (List ℕ) → Option (List ℕ) → Option (List ℕ) → Option (List ℕ) → End → Type 0
StoreServes words input old new end =
    (parts : ℕ) × (limits : Limits) × (names : List (List ℕ)) × AsksForStore words parts limits names
    × ServesSim parts (map (λ name. limits) names) names input old new end

-- what the words ask for served the input, which ended so
abbrev pub ServesWords : List (List ℕ) → Option (List ℕ) → Option (List ℕ) → Option (List ℕ) → End → Type 0
ServesWords words input old new end = CellServes words input old new end ⊎ StoreServes words input old new end

-- this holds of the answers of the cell or of the store that the words ask for
abbrev pub HoldsOfServed : List (List ℕ) → ((List (List ℕ) → List ℕ → Type 0) → Type 0) → Type 0
HoldsOfServed words P =
    ((slots : ℕ) × (items : ℕ) × (clients : ℕ) × AsksForCell words slots items clients
    × P (answers_of_cell slots items clients))
    ⊎ ((parts : ℕ) × (limits : Limits) × (names : List (List ℕ)) × AsksForStore words parts limits names
    × P (answers_of_store parts (map (λ name. limits) names) names))

-- what a program comes to whose run ended so
abbrev pub ended_as : End → Result (Unit {0}) ProgramFault
ended_as Whole = Ok tt
ended_as EndsTooLong = Err LineTooLong
ended_as EndsCut = Err Cut

-- What a program did that ended so. Where an allocation failed, nothing was written, or the answers to a prefix of the
-- lines; where a device failed, a part of the text or a beginning of the answers to a prefix of the lines.
abbrev pub Runs : List (List ℕ) → Option (List ℕ) → Option (List ℕ) → Option (List ℕ)
    → Result (Unit {0}) ProgramFault → Type 0
Runs words input old new (Ok done) = MayAskForText words ⊎ ServesWords words input old new Whole
Runs words input old new (Err LineTooLong) = ServesWords words input old new EndsTooLong
Runs words input old new (Err Cut) = ServesWords words input old new EndsCut
Runs words input old new (Err Settle) = ⊥
Runs words input old new (Err Options) = AsksForNothing words × Keeps old new
Runs words input old new (Err OutOfMemory) =
    Keeps old new ⊎ HoldsOfServed words (λ answers. AnsweredFront answers input old new)
Runs words input old new (Err Device) =
    MayAskForText words ⊎ HoldsOfServed words (λ answers. AnsweredPart answers input old new)

-- the load that the words' options ask for
abbrev pub load_view : LoadOptions → LoadView
load_view options =
    record { seats = options.seats; rounds = options.rounds; seed = options.seed; keys = options.keys }

-- the words ask for a load, which ended so
abbrev pub RunsLoad : List (List ℕ) → Option (List ℕ) → Option (List ℕ) → Result (Unit {0}) ProgramFault → Type 0
RunsLoad words old new ended =
    (parts : ℕ) × (limits : Limits) × (names : List (List ℕ)) × (options : LoadOptions)
    × AsksForLoad words parts limits names options
    × HasLoaded (store_view parts limits names options.queue options.every options.epoch) (load_view options)
    names old new ended
