-- What the program's words ask for, as `clap` reads them.
use Rattle.std.specs.Prelude.{◌≡◌, ◌≢◌, ◌⊎◌, ◌<◌, ◌≤◌, ◌^◌, ℕ, ℤ, List, [], ◌∷◌, ◌++◌, length, All, AllPairs, Bool, true}
use Rattle.std.specs.Prelude.{false, Option, Some, codes, pos}
use Rattle.std.specs.Str.Parse.{IsNumeral, digits_value, without_leading_plus}
use Rattle.clap.specs.Words.{App, Row, Rule, IsAmong, all_of, app_of, fault_of, new_app, new_rule, one_of, rule_of, subcommand_of}
use Rattle.clap.specs.Words.{with_rule, with_subcommand}
use Rattle.clap.specs.declared.builder.arg.Arg.{Arg}
use Rattle.clap.specs.declared.builder.command.Command.{Command}
use Rattle.clap.specs.declared.builder.command.Command.TheViews.{out-Command as fields_of}
use Rattle.clap.specs.declared.builder.action.ArgAction.TheVariants.{Append, SetTrue}
use Rattle.clap.specs.declared.builder.value_parser.ValueParser.TheVariants.{Signed}
use Rattle.clap.specs.declared.error.kind.ErrorKind.{ErrorKind}
use Rattle.clap.specs.declared.error.kind.ErrorKind.TheVariants.{DisplayHelp, DisplayVersion}
use Rattle.stamps.specs.Bounds.{IsParts}
use Rattle.stamps.specs.Limits.{max_parts, max_tenants, max_room, max_keep, max_clients, max_seats}
use Rattle.stamps.specs.declared.bounds.Limits.{Limits}
use Rattle.command_line.specs.declared.server_options.ServerOptions.{ServerOptions}
use Rattle.command_line.specs.declared.load_options.LoadOptions.{LoadOptions}
use Rattle.command_line.specs.declared.options.NumberOption.{NumberOption}
use Rattle.line_protocol.specs.StepSpelling.{IsName}

-- ---- the words that are known

-- the command knows these words, and none of them is known to another command
pub record Knows (command : Command) (app : App) : Type 0 where
  pub words : app_of command ≡ app
  pub local : (fields_of command).has_globals ≡ false

-- the option is read by this rule, by its own command alone
pub record IsOwnOption (option : Arg) (read : Rule) : Type 0 where
  pub rule : rule_of option ≡ read
  pub local : option.global ≡ false

-- an option of this name: a number from `least` to `most`, by default this one
abbrev pub ranged_rule : List ℕ → List ℕ → ℤ → ℤ → Rule
ranged_rule name default least most = record (new_rule name) {
  long = Some name;
  value_names = 1;
  parser = Some (Signed least most);
  defaults = default ∷ [];
}

-- the same, a number from 1 on
abbrev pub number_rule : List ℕ → List ℕ → ℤ → Rule
number_rule name default most = ranged_rule name default (pos 1) most

abbrev pub with_rules : App → List Rule → App
with_rules app [] = app
with_rules app (rule ∷ rules) = with_rules (with_rule app rule) rules

-- the rules of options that take these numbers, in their order
abbrev pub rules_of : List NumberOption → List Rule
rules_of [] = []
rules_of (option ∷ options) =
    ranged_rule option.name.now option.default.now (pos option.least) (pos option.most) ∷ rules_of options

-- ---- each option once: its name, its default and its range

abbrev pub parts_rule : Rule
parts_rule = number_rule (codes "parts") (codes "2") (pos max_parts)

abbrev pub slots_rule : Rule
slots_rule = number_rule (codes "slots") (codes "1024") (pos max_room)

abbrev pub items_rule : Rule
items_rule = number_rule (codes "items") (codes "256") (pos max_room)

abbrev pub clients_rule : Rule
clients_rule = number_rule (codes "clients") (codes "16") (pos max_clients)

abbrev pub keep_rule : Rule
keep_rule = number_rule (codes "keep") (codes "2") (pos max_keep)

-- a number up to 65535
abbrev pub port_rule : Rule
port_rule = ranged_rule (codes "port") (codes "0") (pos 0) (pos 65535)

abbrev pub sessions_rule : Rule
sessions_rule = number_rule (codes "sessions") (codes "1") (pos 1024)

-- an option without a value, which says that the server stays
abbrev pub stay_rule : Rule
stay_rule = record (new_rule (codes "stay")) { long = Some (codes "stay"); action = Some SetTrue }

-- an option without a value, which says that its sessions are strict
abbrev pub strict_rule : Rule
strict_rule = record (new_rule (codes "strict")) { long = Some (codes "strict"); action = Some SetTrue }

-- and one, which says that each put reads its keys first
abbrev pub newest_rule : Rule
newest_rule = record (new_rule (codes "newest")) { long = Some (codes "newest"); action = Some SetTrue }

-- and one, which says that it records nothing
abbrev pub unrecorded_rule : Rule
unrecorded_rule = record (new_rule (codes "unrecorded")) { long = Some (codes "unrecorded"); action = Some SetTrue }

-- and one, which says that it reports of how much its verdicts are
abbrev pub counts_rule : Rule
counts_rule = record (new_rule (codes "counts")) { long = Some (codes "counts"); action = Some SetTrue }

abbrev pub queue_rule : Rule
queue_rule = number_rule (codes "queue") (codes "64") (pos 1024)

abbrev pub every_rule : Rule
every_rule = number_rule (codes "every") (codes "64") (pos 65536)

abbrev pub epoch_rule : Rule
epoch_rule = ranged_rule (codes "epoch") (codes "0") (pos 0) (pos 1048576)

abbrev pub status_rule : Rule
status_rule = ranged_rule (codes "status") (codes "0") (pos 0) (pos 65535)

abbrev pub seats_rule : Rule
seats_rule = number_rule (codes "seats") (codes "4") (pos max_seats)

abbrev pub rounds_rule : Rule
rounds_rule = number_rule (codes "rounds") (codes "100") (pos 10000)

abbrev pub seed_rule : Rule
seed_rule = ranged_rule (codes "seed") (codes "1") (pos 0) (pos 4294967295)

abbrev pub keys_rule : Rule
keys_rule = ranged_rule (codes "keys") (codes "16") (pos 4) (pos 256)

-- one name or more
abbrev pub tenants_rule : Rule
tenants_rule = record (new_rule (codes "tenant")) { value_names = 1; action = Some Append; required = true }

-- ---- the commands, each of the options that it has

-- the options of a cell: its room
abbrev pub cell_rules : List Rule
cell_rules = slots_rule ∷ items_rule ∷ clients_rule ∷ []

-- the options of a store: its partitions, and the room of each tenant
abbrev pub store_rules : List Rule
store_rules = parts_rule ∷ slots_rule ∷ items_rule ∷ clients_rule ∷ keep_rule ∷ []

-- the options of what the seats of a load do
abbrev pub mix_rules : List Rule
mix_rules = seats_rule ∷ rounds_rule ∷ seed_rule ∷ keys_rule ∷ []

-- the options of how a running store is paced
abbrev pub pace_rules : List Rule
pace_rules = queue_rule ∷ every_rule ∷ epoch_rule ∷ []

-- `cell [--slots N] [--items N] [--clients N]`
abbrev pub cell_command : App
cell_command = with_rules (new_app (codes "cell")) cell_rules

-- `sim [--parts N] [--slots N] [--items N] [--clients N] [--keep N] TENANT..`
abbrev pub sim_command : App
sim_command = with_rules (new_app (codes "sim")) (store_rules ++ tenants_rule ∷ [])

-- `serve [--parts N] [--slots N] [--items N] [--clients N] [--keep N] [--port N] [--sessions N] [--stay] [--strict]
-- [--newest] [--unrecorded] [--counts] [--queue N] [--every N] [--epoch N] [--status N] TENANT..`
abbrev pub serve_command : App
serve_command = with_rules (new_app (codes "serve"))
    (store_rules ++ port_rule ∷ sessions_rule ∷ stay_rule ∷ strict_rule ∷ newest_rule ∷ unrecorded_rule
    ∷ counts_rule ∷ pace_rules ++ status_rule ∷ tenants_rule ∷ [])

-- `load [--parts N] [--slots N] [--items N] [--clients N] [--keep N] [--seats N] [--rounds N] [--seed N] [--keys N]
-- [--queue N] [--every N] [--epoch N] TENANT..`
abbrev pub load_command : App
load_command = with_rules (new_app (codes "load")) (store_rules ++ mix_rules ++ pace_rules ++ tenants_rule ∷ [])

-- which requires a command
abbrev pub with_required : App → App
with_required app = record app { top = record app.top { subcommand_required = true } }

-- which has a version, that `--version` reports
abbrev pub with_version : App → App
with_version app = record app { top = record app.top { has_version = true } }

abbrev pub program : App
program = with_subcommand (with_subcommand (with_subcommand (with_subcommand
    (with_required (with_version (new_app (codes "ramp")))) cell_command.top) sim_command.top) serve_command.top)
    load_command.top

-- ---- what the options of a command give

-- the number that the text of an option spells, which may begin with a plus
pub record IsOptionNumber (name : List ℕ) (rows : List Row) (number : ℕ) : Type 0 where
  pub text : List ℕ
  pub given : one_of name rows ≡ Some text
  pub numeral : IsNumeral 10 (without_leading_plus text)
  pub value : number ≡ digits_value 10 (without_leading_plus text)
  pub small : number < 2 ^ 32

-- the number of an option, from the first of these to the second
pub record IsNumberWithin (least most : ℕ) (name : List ℕ) (rows : List Row) (number : ℕ) : Type 0 where
  pub from : least ≤ number
  pub up_to : number ≤ most
  pub of_option : IsOptionNumber name rows number

abbrev pub flag_text : Bool → List ℕ
flag_text true = codes "true"
flag_text false = codes "false"

-- whether an option without a value is given
abbrev pub IsOptionFlag : List ℕ → List Row → Bool → Type 0
IsOptionFlag name rows flag = one_of name rows ≡ Some (flag_text flag)

-- a cell's room
pub record GivesRoom (rows : List Row) (slots items clients : ℕ) : Type 0 where
  pub of_slots : IsOptionNumber (codes "slots") rows slots
  pub of_items : IsOptionNumber (codes "items") rows items
  pub of_clients : IsOptionNumber (codes "clients") rows clients

-- the limits of each tenant
pub record GivesLimits (rows : List Row) (limits : Limits) : Type 0 where
  pub of_slots : IsOptionNumber (codes "slots") rows limits.slots
  pub of_items : IsOptionNumber (codes "items") rows limits.items
  pub of_clients : IsOptionNumber (codes "clients") rows limits.clients
  pub of_keep : IsOptionNumber (codes "keep") rows limits.keep

-- how many partitions a store has
pub record GivesParts (rows : List Row) (parts : ℕ) : Type 0 where
  pub in_range : IsParts parts
  pub of_parts : IsOptionNumber (codes "parts") rows parts

-- Where a server listens, which connections it serves and how, and how its store is paced. One that records nothing has no
-- epochs (`ServerOptions.unchecked`).
pub record GivesOptions (rows : List Row) (options : ServerOptions) : Type 0 where
  pub of_port : IsOptionNumber (codes "port") rows options.port
  pub of_sessions : IsOptionNumber (codes "sessions") rows options.sessions
  pub of_stay : IsOptionFlag (codes "stay") rows options.stay
  pub of_strict : IsOptionFlag (codes "strict") rows options.strict
  pub of_newest : IsOptionFlag (codes "newest") rows options.newest
  pub of_unrecorded : IsOptionFlag (codes "unrecorded") rows options.unrecorded
  pub of_counts : IsOptionFlag (codes "counts") rows options.counts
  pub of_queue : IsOptionNumber (codes "queue") rows options.queue
  pub of_every : IsOptionNumber (codes "every") rows options.every
  pub of_epoch : IsOptionNumber (codes "epoch") rows options.epoch
  pub of_status : IsOptionNumber (codes "status") rows options.status

-- how many seats a load has, what they do, and how its store is paced
pub record GivesMix (rows : List Row) (options : LoadOptions) : Type 0 where
  pub of_seats : IsOptionNumber (codes "seats") rows options.seats
  pub of_rounds : IsOptionNumber (codes "rounds") rows options.rounds
  pub of_seed : IsOptionNumber (codes "seed") rows options.seed
  pub of_keys : IsOptionNumber (codes "keys") rows options.keys
  pub of_queue : IsOptionNumber (codes "queue") rows options.queue
  pub of_every : IsOptionNumber (codes "every") rows options.every
  pub of_epoch : IsOptionNumber (codes "epoch") rows options.epoch

-- the names of 1 to `max_tenants` tenants, none twice
pub record AreTenants (names : List (List ℕ)) : Type 0 where
  pub some : 0 < length names
  pub few : length names ≤ max_tenants
  pub named : All IsName names
  pub distinct : AllPairs (λ one other. one ≢ other) names

-- a store's partitions, and its tenants' limits and names
pub record GivesStore (rows : List Row) (parts : ℕ) (limits : Limits) (names : List (List ℕ)) : Type 0 where
  pub gives_parts : GivesParts rows parts
  pub gives_limits : GivesLimits rows limits
  pub of_names : all_of (codes "tenant") rows ≡ Some names
  pub tenants : AreTenants names

-- a server's store, and what it serves it by
pub record GivesServer (rows : List Row) (parts : ℕ) (limits : Limits) (names : List (List ℕ))
    (options : ServerOptions) : Type 0 where
  pub gives_store : GivesStore rows parts limits names
  pub gives_options : GivesOptions rows options

-- a load's store, and what its seats do, which are no more than the clients of a tenant
pub record GivesLoading (rows : List Row) (parts : ℕ) (limits : Limits) (names : List (List ℕ))
    (options : LoadOptions) : Type 0 where
  pub gives_store : GivesStore rows parts limits names
  pub gives_mix : GivesMix rows options
  pub few_seats : options.seats ≤ limits.clients

-- the command that was met is `cell`, and has such a room
abbrev pub IsRoomOf : Option (List ℕ × List Row) → ℕ → ℕ → ℕ → Type 0
IsRoomOf met slots items clients =
    (rows : List Row) × (met ≡ Some (codes "cell", rows)) × GivesRoom rows slots items clients

-- the command that was met is `sim`, and has such a store
abbrev pub IsStoreOf : Option (List ℕ × List Row) → ℕ → Limits → List (List ℕ) → Type 0
IsStoreOf met parts limits names =
    (rows : List Row) × (met ≡ Some (codes "sim", rows)) × GivesStore rows parts limits names

-- the command that was met is `serve`, and has such a server
abbrev pub IsServerOf : Option (List ℕ × List Row) → ℕ → Limits → List (List ℕ) → ServerOptions → Type 0
IsServerOf met parts limits names options =
    (rows : List Row) × (met ≡ Some (codes "serve", rows)) × GivesServer rows parts limits names options

-- the command that was met is `load`, and has such a load
abbrev pub IsLoadOf : Option (List ℕ × List Row) → ℕ → Limits → List (List ℕ) → LoadOptions → Type 0
IsLoadOf met parts limits names options =
    (rows : List Row) × (met ≡ Some (codes "load", rows)) × GivesLoading rows parts limits names options

-- ---- what the words ask for

-- the words ask for help, and for nothing else
abbrev pub AsksForHelp : List (List ℕ) → Type 0
AsksForHelp words = fault_of program words ≡ DisplayHelp ∷ []

-- the words ask for the version, and for nothing else
abbrev pub AsksForVersion : List (List ℕ) → Type 0
AsksForVersion words = fault_of program words ≡ DisplayVersion ∷ []

-- what clap answers so is a text that was asked for: help, or the version
abbrev pub IsText : ErrorKind → Type 0
IsText kind = (kind ≡ DisplayHelp) ⊎ (kind ≡ DisplayVersion)

-- a text may be what the words ask for, as in `ramp help WORD`, which `clap` may also refuse
abbrev pub MayAskForText : List (List ℕ) → Type 0
MayAskForText words = IsAmong DisplayHelp (fault_of program words) ⊎ IsAmong DisplayVersion (fault_of program words)

-- the words ask for a cell of this room
abbrev pub AsksForCell : List (List ℕ) → ℕ → ℕ → ℕ → Type 0
AsksForCell words slots items clients =
    (fault_of program words ≡ []) × IsRoomOf (subcommand_of program words) slots items clients

-- the words ask for a store of so many partitions, and tenants of these names with these limits each
abbrev pub AsksForStore : List (List ℕ) → ℕ → Limits → List (List ℕ) → Type 0
AsksForStore words parts limits names =
    (fault_of program words ≡ []) × IsStoreOf (subcommand_of program words) parts limits names

-- the words ask for a server of such a store, by these options
abbrev pub AsksForServer : List (List ℕ) → ℕ → Limits → List (List ℕ) → ServerOptions → Type 0
AsksForServer words parts limits names options =
    (fault_of program words ≡ []) × IsServerOf (subcommand_of program words) parts limits names options

-- the words ask for a load of such a store, by these options
abbrev pub AsksForLoad : List (List ℕ) → ℕ → Limits → List (List ℕ) → LoadOptions → Type 0
AsksForLoad words parts limits names options =
    (fault_of program words ≡ []) × IsLoadOf (subcommand_of program words) parts limits names options

-- the words ask for no cell
abbrev pub AsksForNoCell : List (List ℕ) → Type 0
AsksForNoCell words = (slots items clients : ℕ) → AsksForCell words slots items clients → ⊥

-- the words ask for no store
abbrev pub AsksForNoStore : List (List ℕ) → Type 0
AsksForNoStore words = (parts : ℕ) (limits : Limits) (names : List (List ℕ)) → AsksForStore words parts limits names → ⊥

-- the words ask for no server
abbrev pub AsksForNoServer : List (List ℕ) → Type 0
AsksForNoServer words = (parts : ℕ) (limits : Limits) (names : List (List ℕ)) (options : ServerOptions)
    → AsksForServer words parts limits names options → ⊥

-- the words ask for no load
abbrev pub AsksForNoLoad : List (List ℕ) → Type 0
AsksForNoLoad words = (parts : ℕ) (limits : Limits) (names : List (List ℕ)) (options : LoadOptions)
    → AsksForLoad words parts limits names options → ⊥

-- the words ask for no cell, for no store, for no server, for no load, for no help and for no version
pub record AsksForNothing (words : List (List ℕ)) : Type 0 where
  pub no_cell : AsksForNoCell words
  pub no_store : AsksForNoStore words
  pub no_server : AsksForNoServer words
  pub no_load : AsksForNoLoad words
  pub no_help : AsksForHelp words → ⊥
  pub no_version : AsksForVersion words → ⊥
