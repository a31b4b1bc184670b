-- What the words were read as.
use Rattle.std.specs.Prelude.{◌≡◌, ◌⊎◌, ◌<◌, ◌^◌, ℕ, Bool, List, Option, codes}
use Rattle.clap.specs.Words.{Row}
use Rattle.stamps.specs.Bounds.{IsKeep}
use Rattle.stamps.specs.declared.bounds.Limits.{Limits}
use Rattle.command_line.specs.declared.options.Asked.{Asked}
use Rattle.command_line.specs.declared.options.Asked.TheVariants.{Text, Cell, Sim, Serve, Load}
use Rattle.command_line.specs.declared.server_options.ServerOptions.{ServerOptions}
use Rattle.command_line.specs.declared.load_options.LoadOptions.{LoadOptions}
use Rattle.line_runs.specs.declared.fault.ProgramFault.{ProgramFault}
use Rattle.line_runs.specs.declared.fault.ProgramFault.TheVariants.{Options, OutOfMemory}
use Rattle.command_line.specs.Words.{MayAskForText, AsksForCell, AsksForLoad, AsksForServer, AsksForStore}
use Rattle.command_line.specs.Words.{GivesLimits, GivesLoading, GivesMix, GivesOptions, GivesParts, GivesRoom}
use Rattle.command_line.specs.Words.{GivesServer, GivesStore, IsLoadOf, IsOptionFlag}
use Rattle.command_line.specs.Words.{IsOptionNumber}
use Rattle.command_line.specs.Words.{IsNumberWithin, IsRoomOf, IsServerOf, IsStoreOf}

abbrev pub WordsAskFor : List (List ℕ) → Asked → Type 0
WordsAskFor words (Text text) = MayAskForText words
WordsAskFor words (Cell slots items clients) = AsksForCell words slots items clients
WordsAskFor words (Sim store) = AsksForStore words store.parts store.limits store.names.items
WordsAskFor words (Serve store options) = AsksForServer words store.parts store.limits store.names.items options
WordsAskFor words (Load store options) = AsksForLoad words store.parts store.limits store.names.items options

-- what the command that was met asks for
abbrev pub IsMet : Option (List ℕ × List Row) → Asked → Type 0
IsMet met (Text text) = ⊥
IsMet met (Cell slots items clients) = IsRoomOf met slots items clients
IsMet met (Sim store) = IsStoreOf met store.parts store.limits store.names.items
IsMet met (Serve store options) = IsServerOf met store.parts store.limits store.names.items options
IsMet met (Load store options) = IsLoadOf met store.parts store.limits store.names.items options

-- the command that was met asks for nothing
abbrev pub IsNothingMet : Option (List ℕ × List Row) → Type 0
IsNothingMet met =
    ((slots items clients : ℕ) → IsRoomOf met slots items clients → ⊥)
    × ((parts : ℕ) (limits : Limits) (names : List (List ℕ)) → IsStoreOf met parts limits names → ⊥)
    × ((parts : ℕ) (limits : Limits) (names : List (List ℕ)) (options : ServerOptions)
    → IsServerOf met parts limits names options → ⊥)
    × ((parts : ℕ) (limits : Limits) (names : List (List ℕ)) (options : LoadOptions)
    → IsLoadOf met parts limits names options → ⊥)

-- what the options of `cell` ask for
abbrev pub GivesCell : List Row → Asked → Type 0
GivesCell rows (Text text) = ⊥
GivesCell rows (Cell slots items clients) = GivesRoom rows slots items clients
GivesCell rows (Sim store) = ⊥
GivesCell rows (Serve store options) = ⊥
GivesCell rows (Load store options) = ⊥

-- what the options of `sim` ask for
abbrev pub GivesSim : List Row → Asked → Type 0
GivesSim rows (Text text) = ⊥
GivesSim rows (Cell slots items clients) = ⊥
GivesSim rows (Sim store) = GivesStore rows store.parts store.limits store.names.items
GivesSim rows (Serve store options) = ⊥
GivesSim rows (Load store options) = ⊥

-- what the options of `serve` ask for
abbrev pub GivesServe : List Row → Asked → Type 0
GivesServe rows (Text text) = ⊥
GivesServe rows (Cell slots items clients) = ⊥
GivesServe rows (Sim store) = ⊥
GivesServe rows (Serve store options) = GivesServer rows store.parts store.limits store.names.items options
GivesServe rows (Load store options) = ⊥

-- what the options of `load` ask for
abbrev pub GivesLoad : List Row → Asked → Type 0
GivesLoad rows (Text text) = ⊥
GivesLoad rows (Cell slots items clients) = ⊥
GivesLoad rows (Sim store) = ⊥
GivesLoad rows (Serve store options) = ⊥
GivesLoad rows (Load store options) = GivesLoading rows store.parts store.limits store.names.items options

-- ---- what options do not give

abbrev pub HasNoNumber : List ℕ → List Row → Type 0
HasNoNumber name rows = (number : ℕ) → IsOptionNumber name rows number → ⊥

abbrev pub HasNoNumberWithin : ℕ → ℕ → List ℕ → List Row → Type 0
HasNoNumberWithin least most name rows = (number : ℕ) → IsNumberWithin least most name rows number → ⊥

abbrev pub HasNoFlag : List ℕ → List Row → Type 0
HasNoFlag name rows = (flag : Bool) → IsOptionFlag name rows flag → ⊥

abbrev pub GivesNoPort : List Row → Type 0
GivesNoPort rows = (port : ℕ) → port < 2 ^ 16 → IsOptionNumber (codes "port") rows port → ⊥

abbrev pub GivesNoOptions : List Row → Type 0
GivesNoOptions rows = (options : ServerOptions) → GivesOptions rows options → ⊥

abbrev pub GivesNoMix : List Row → Type 0
GivesNoMix rows = (options : LoadOptions) → GivesMix rows options → ⊥

abbrev pub GivesNoKeep : List Row → Type 0
GivesNoKeep rows = (keep : ℕ) → IsKeep keep → IsOptionNumber (codes "keep") rows keep → ⊥

abbrev pub GivesNoParts : List Row → Type 0
GivesNoParts rows = (parts : ℕ) → GivesParts rows parts → ⊥

abbrev pub GivesNoRoom : List Row → Type 0
GivesNoRoom rows = (slots items clients : ℕ) → GivesRoom rows slots items clients → ⊥

abbrev pub GivesNoLimits : List Row → Type 0
GivesNoLimits rows = (limits : Limits) → GivesLimits rows limits → ⊥

abbrev pub GivesNoStore : List Row → Type 0
GivesNoStore rows = (parts : ℕ) (limits : Limits) (names : List (List ℕ)) → GivesStore rows parts limits names → ⊥

abbrev pub GivesNoServer : List Row → Type 0
GivesNoServer rows = (parts : ℕ) (limits : Limits) (names : List (List ℕ)) (options : ServerOptions)
    → GivesServer rows parts limits names options → ⊥

abbrev pub GivesNoLoad : List Row → Type 0
GivesNoLoad rows = (parts : ℕ) (limits : Limits) (names : List (List ℕ)) (options : LoadOptions)
    → GivesLoading rows parts limits names options → ⊥

-- the words are at fault for this reason, or an allocation failed
abbrev pub IsWordsFault : Type 0 → ProgramFault → Type 0
IsWordsFault reason fault = ((fault ≡ Options) × reason) ⊎ (fault ≡ OutOfMemory)
