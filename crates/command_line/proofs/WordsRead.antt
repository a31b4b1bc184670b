-- What is read of clap's matches: for `read_words`, `read_matches`, `read_number` and `run_words`.
use Rattle.std.proofs.Common.{◌≡◌, ℕ, codes, List, Option, Some, None, Result, Ok, Err, true, [], ◌∷◌, refl, ap, subst, sym, inl, inr, ◌∙◌, arith}
use Rattle.std.specs.Prelude.{Bool, false, MatchBool, option_map, slice_index, IfSome, IfNone, IfErr, IsErrAnd}
use Rattle.std.specs.Str.Parse.{ParsesBool, ParsesUnsigned, false_text, true_text}
use Rattle.clap.specs.Words.{ReadsOne, Row, one_text, rows_of}
use Rattle.clap.specs.declared.parser.matches.Found.{Found}
use Rattle.clap.proofs.WalkLemmas.{one_text-rows}
use Rattle.clap.specs.Words.{App, HasKind, HasMatchesOf, IsAmong, Kinds, fault_of, is_simple, is_simple_and_free, kind_of, subcommand_of, subcommand_rows_of}
use Rattle.clap.specs.declared.error.Error.{Error}
use Rattle.clap.specs.declared.error.kind.ErrorKind.{ErrorKind}
use Rattle.clap.specs.declared.error.kind.ErrorKind.TheVariants.{DisplayHelp, DisplayVersion, OutOfMemory}
use Rattle.clap.specs.declared.parser.matches.ArgMatches.{ArgMatches}
use Rattle.clap.proofs.OnLiterals.{clap_on_literals}
use Rattle.line_runs.specs.declared.fault.ProgramFault.{ProgramFault}
use Rattle.command_line.specs.declared.options.Asked.{Asked}
use Rattle.command_line.specs.declared.options.Asked.TheVariants.{Text, Cell, Load, Serve, Sim}
use Rattle.command_line.specs.Asked.{WordsAskFor, GivesCell, GivesLoad, GivesNoLoad, GivesNoRoom, GivesNoServer, GivesNoStore, GivesServe, GivesSim, HasNoFlag, HasNoNumber, IsMet, IsNothingMet, IsWordsFault}
use Rattle.command_line.specs.Words.{AsksForHelp, AsksForNothing, AsksForVersion, IsText, MayAskForText, GivesLoading, GivesRoom, GivesServer, GivesStore, IsLoadOf, IsOptionFlag, IsOptionNumber, IsRoomOf, IsServerOf, IsStoreOf, flag_text, program}

-- ---- the command that was met

-- the name and the rows of what was met, each by itself
pub met_whole : {B N R : Type 0} (met : Option B) (name_in : B → N) (rows_in : B → R) (name : N) (rows : R)
    → option_map name_in met ≡ Some name → option_map (λ (p : N × R). p.1) (option_map {U = N × R} (λ b. (name_in b, rows_in b)) met) ≡ Some rows
    → option_map {U = N × R} (λ b. (name_in b, rows_in b)) met ≡ Some (name, rows)
met_whole None name_in rows_in name rows h k = absurd cc
met_whole (Some b) name_in rows_in name rows h k =
    let is_name : name_in b ≡ name = cc in
    let is_rows : rows_in b ≡ rows = cc in
    λ i. Some (is_name i, is_rows i)

-- what was met has the name that it has with its rows
pub met_name : {B N R : Type 0} (met : Option B) (name_in : B → N) (rows_in : B → R) (name : N) (rows : R)
    → option_map {U = N × R} (λ b. (name_in b, rows_in b)) met ≡ Some (name, rows) → option_map name_in met ≡ Some name
met_name {N = N} {R = R} None name_in rows_in name rows h = ap (option_map (λ (p : N × R). p.0)) h
met_name {N = N} {R = R} (Some b) name_in rows_in name rows h = ap (option_map (λ (p : N × R). p.0)) h

abbrev rows_or : List Row → Option (List ℕ × List Row) → List Row
rows_or rows None = rows
rows_or rows (Some p) = p.1

abbrev name_or : List ℕ → Option (List ℕ × List Row) → List ℕ
name_or name None = name
name_or name (Some p) = p.0

same_rows : (met : Option (List ℕ × List Row)) (name other : List ℕ) (rows more : List Row) → met ≡ Some (name, rows) → met ≡ Some (other, more) → more ≡ rows
same_rows met name other rows more h k = let whole : Some (other, more) ≡ Some (name, rows) = sym k ∙ h in ap (rows_or rows) whole

-- what was met has one name: the byte at each place is the same
same_byte : (met : Option (List ℕ × List Row)) (name other : List ℕ) (rows more : List Row) (place : ℕ) → met ≡ Some (name, rows) → met ≡ Some (other, more)
    → slice_index name place ≡ slice_index other place
same_byte met name other rows more place h k =
    let whole : ◌≡◌ {A = Option (List ℕ × List Row)} (Some (name, rows)) (Some (other, more)) = sym h ∙ k in
    ap (λ (p : Option (List ℕ × List Row)). slice_index (name_or [] p) place) whole

cell_or_sim : (met : Option (List ℕ × List Row)) (rows more : List Row) → met ≡ Some (codes "cell", rows) → met ≡ Some (codes "sim", more) → ⊥
cell_or_sim met rows more h k = let bad : ◌≡◌ {A = ℕ} 99 115 = same_byte met (codes "cell") (codes "sim") rows more 0 h k in absurd (omega arith)

cell_or_serve : (met : Option (List ℕ × List Row)) (rows more : List Row) → met ≡ Some (codes "cell", rows) → met ≡ Some (codes "serve", more) → ⊥
cell_or_serve met rows more h k = let bad : ◌≡◌ {A = ℕ} 99 115 = same_byte met (codes "cell") (codes "serve") rows more 0 h k in absurd (omega arith)

sim_or_serve : (met : Option (List ℕ × List Row)) (rows more : List Row) → met ≡ Some (codes "sim", rows) → met ≡ Some (codes "serve", more) → ⊥
sim_or_serve met rows more h k = let bad : ◌≡◌ {A = ℕ} 105 101 = same_byte met (codes "sim") (codes "serve") rows more 1 h k in absurd (omega arith)

cell_or_load : (met : Option (List ℕ × List Row)) (rows more : List Row) → met ≡ Some (codes "cell", rows) → met ≡ Some (codes "load", more) → ⊥
cell_or_load met rows more h k = let bad : ◌≡◌ {A = ℕ} 99 108 = same_byte met (codes "cell") (codes "load") rows more 0 h k in absurd (omega arith)

sim_or_load : (met : Option (List ℕ × List Row)) (rows more : List Row) → met ≡ Some (codes "sim", rows) → met ≡ Some (codes "load", more) → ⊥
sim_or_load met rows more h k = let bad : ◌≡◌ {A = ℕ} 115 108 = same_byte met (codes "sim") (codes "load") rows more 0 h k in absurd (omega arith)

serve_or_load : (met : Option (List ℕ × List Row)) (rows more : List Row) → met ≡ Some (codes "serve", rows) → met ≡ Some (codes "load", more) → ⊥
serve_or_load met rows more h k = let bad : ◌≡◌ {A = ℕ} 115 108 = same_byte met (codes "serve") (codes "load") rows more 0 h k in absurd (omega arith)

pub cell_is_met : (met : Option (List ℕ × List Row)) (rows : List Row) → met ≡ Some (codes "cell", rows) → (asked : Asked) → GivesCell rows asked → IsMet met asked
cell_is_met met rows is (Text text) h = absurd h
cell_is_met met rows is (Cell slots items clients) h = (rows, is, h)
cell_is_met met rows is (Sim store) h = absurd h
cell_is_met met rows is (Serve store options) h = absurd h
cell_is_met met rows is (Load store options) h = absurd h

pub sim_is_met : (met : Option (List ℕ × List Row)) (rows : List Row) → met ≡ Some (codes "sim", rows) → (asked : Asked) → GivesSim rows asked → IsMet met asked
sim_is_met met rows is (Text text) h = absurd h
sim_is_met met rows is (Cell slots items clients) h = absurd h
sim_is_met met rows is (Sim store) h = (rows, is, h)
sim_is_met met rows is (Serve store options) h = absurd h
sim_is_met met rows is (Load store options) h = absurd h

pub serve_is_met : (met : Option (List ℕ × List Row)) (rows : List Row) → met ≡ Some (codes "serve", rows) → (asked : Asked) → GivesServe rows asked → IsMet met asked
serve_is_met met rows is (Text text) h = absurd h
serve_is_met met rows is (Cell slots items clients) h = absurd h
serve_is_met met rows is (Sim store) h = absurd h
serve_is_met met rows is (Serve store options) h = (rows, is, h)
serve_is_met met rows is (Load store options) h = absurd h

pub load_is_met : (met : Option (List ℕ × List Row)) (rows : List Row) → met ≡ Some (codes "load", rows) → (asked : Asked) → GivesLoad rows asked → IsMet met asked
load_is_met met rows is (Text text) h = absurd h
load_is_met met rows is (Cell slots items clients) h = absurd h
load_is_met met rows is (Sim store) h = absurd h
load_is_met met rows is (Serve store options) h = absurd h
load_is_met met rows is (Load store options) h = (rows, is, h)

pub nothing_of_cell : (met : Option (List ℕ × List Row)) (rows : List Row) → met ≡ Some (codes "cell", rows) → GivesNoRoom rows → IsNothingMet met
nothing_of_cell met rows is none = (
  λ slots items clients room. none slots items clients (subst (λ (r : List Row). GivesRoom r slots items clients) (same_rows met (codes "cell") (codes "cell") rows room.0 is room.1) room.2),
  λ parts limits names store. cell_or_sim met rows store.0 is store.1,
  λ parts limits names options server. cell_or_serve met rows server.0 is server.1,
  λ parts limits names options load. cell_or_load met rows load.0 is load.1,
)

pub nothing_of_sim : (met : Option (List ℕ × List Row)) (rows : List Row) → met ≡ Some (codes "sim", rows) → GivesNoStore rows → IsNothingMet met
nothing_of_sim met rows is none = (
  λ slots items clients room. cell_or_sim met room.0 rows room.1 is,
  λ parts limits names store. none parts limits names (subst (λ (r : List Row). GivesStore r parts limits names) (same_rows met (codes "sim") (codes "sim") rows store.0 is store.1) store.2),
  λ parts limits names options server. sim_or_serve met rows server.0 is server.1,
  λ parts limits names options load. sim_or_load met rows load.0 is load.1,
)

pub nothing_of_serve : (met : Option (List ℕ × List Row)) (rows : List Row) → met ≡ Some (codes "serve", rows) → GivesNoServer rows → IsNothingMet met
nothing_of_serve met rows is none = (
  λ slots items clients room. cell_or_serve met room.0 rows room.1 is,
  λ parts limits names store. sim_or_serve met store.0 rows store.1 is,
  λ parts limits names options server. none parts limits names options
      (subst (λ (r : List Row). GivesServer r parts limits names options) (same_rows met (codes "serve") (codes "serve") rows server.0 is server.1) server.2),
  λ parts limits names options load. serve_or_load met rows load.0 is load.1,
)

pub nothing_of_load : (met : Option (List ℕ × List Row)) (rows : List Row) → met ≡ Some (codes "load", rows) → GivesNoLoad rows → IsNothingMet met
nothing_of_load met rows is none = (
  λ slots items clients room. cell_or_load met room.0 rows room.1 is,
  λ parts limits names store. sim_or_load met store.0 rows store.1 is,
  λ parts limits names options server. serve_or_load met server.0 rows server.1 is,
  λ parts limits names options load. none parts limits names options
      (subst (λ (r : List Row). GivesLoading r parts limits names options) (same_rows met (codes "load") (codes "load") rows load.0 is load.1) load.2),
)

pub none_met : {B : Type 0} (met : Option B) (name_in : B → List ℕ) (rows_in : B → List Row) → (option_map name_in met ≡ Some (codes "cell") → ⊥)
    → (option_map name_in met ≡ Some (codes "sim") → ⊥) → (option_map name_in met ≡ Some (codes "serve") → ⊥) → (option_map name_in met ≡ Some (codes "load") → ⊥)
    → IsNothingMet (option_map (λ b. (name_in b, rows_in b)) met)
none_met met name_in rows_in no_cell no_sim no_serve no_load = (
  λ slots items clients room. no_cell (met_name met name_in rows_in (codes "cell") room.0 room.1),
  λ parts limits names store. no_sim (met_name met name_in rows_in (codes "sim") store.0 store.1),
  λ parts limits names options server. no_serve (met_name met name_in rows_in (codes "serve") server.0 server.1),
  λ parts limits names options load. no_load (met_name met name_in rows_in (codes "load") load.0 load.1),
)

-- what is at fault for one reason is so for another that follows
pub fault_weaker : (A B : Type 0) → (A → B) → (fault : ProgramFault) → IsWordsFault A fault → IsWordsFault B fault
fault_weaker A B f fault (inl p) = inl (p.0, f p.1)
fault_weaker A B f fault (inr memory) = inr memory

-- what is reported of a fault is reported of the result that has it
pub fault_on : (result : Result Asked ProgramFault) (fault : ProgramFault) (A B : Type 0) → IsErrAnd result (λ e. e ≡ fault)
    → IsWordsFault A fault → (A → B) → IfErr result (IsWordsFault B)
fault_on (Ok asked) fault A B is h f = tt
fault_on (Err e) fault A B is h f = fault_weaker A B f e (subst (IsWordsFault A) (sym is) h)

-- ---- numbers

-- what is reported of a number that is read
pub record IsReadBy {E : Type 0} (gives : List ℕ → Result ℕ E → Type 0) (found : Found) (name : List ℕ) (result : Option ℕ) : Type 0 where
  pub none : one_text found name ≡ None → result ≡ None
  pub value : (text : List ℕ) → one_text found name ≡ Some text → ReadsOne gives text result
  pub parses : (text : List ℕ) (r : Result ℕ E) → gives text r → ParsesUnsigned 32 10 text r

-- a number that was read is that of the option
pub read_number : {E : Type 0} (gives : List ℕ → Result ℕ E → Type 0) (found : Found) (name : List ℕ) (result : Option ℕ)
    → IsReadBy gives found name result → IfSome result (IsOptionNumber name (rows_of found))
read_number gives found name None h = tt
read_number gives found name (Some number) h = go (one_text found name) refl
  where
    go : (text : Option (List ℕ)) → one_text found name ≡ text → IsOptionNumber name (rows_of found) number
    go None e = let bad = h.none e in absurd cc
    go (Some text) e =
        let parsed = h.parses text (Ok number) (h.value text e) in
        record {
          text = text;
          given = sym (one_text-rows found name) ∙ e;
          numeral = parsed.0.0;
          value = parsed.1;
          small = rw parsed.1 parsed.0.1;
        }

-- where none was read, the option has none
pub read_none : {E : Type 0} (gives : List ℕ → Result ℕ E → Type 0) (found : Found) (name : List ℕ) (result : Option ℕ)
    → IsReadBy gives found name result → IfNone result (HasNoNumber name (rows_of found))
read_none gives found name None h = λ number n.
    let read : ReadsOne gives n.text None = h.value n.text (one_text-rows found name ∙ n.given) in
    h.parses n.text (Err read.0) read.1 (n.numeral, rw n.value at n.small)
read_none gives found name (Some number) h = tt

-- an option has one number
pub one_number : (name : List ℕ) (rows : List Row) (number other : ℕ) → IsOptionNumber name rows number → IsOptionNumber name rows other → number ≡ other
one_number name rows number other h k =
    let whole : Some h.text ≡ Some k.text = sym h.given ∙ k.given in
    let same : h.text ≡ k.text = cc in
    rw (h.value, k.value, same) refl

-- ---- options without a value

-- an option that was read is given so
pub flag_read : (E : Type 0) (found : Found) (name : List ℕ) (result : Option Bool) → (one_text found name ≡ None → result ≡ None)
    → ((text : List ℕ) → one_text found name ≡ Some text → ReadsOne (ParsesBool {E = E}) text result) → IfSome result (IsOptionFlag name (rows_of found))
flag_read E found name None none value = tt
flag_read E found name (Some flag) none value = go (one_text found name) refl
  where
    spelled : (flag : Bool) (text : List ℕ) → MatchBool flag (text ≡ true_text) (text ≡ false_text) → text ≡ flag_text flag
    spelled true text is = is
    spelled false text is = is

    go : (text : Option (List ℕ)) → one_text found name ≡ text → IsOptionFlag name (rows_of found) flag
    go None e = let bad = none e in absurd cc
    go (Some text) e = sym (one_text-rows found name) ∙ e ∙ ap Some (spelled flag text (value text e))

-- where none was read, the option is not there
pub no_flag_read : (E : Type 0) (found : Found) (name : List ℕ) (result : Option Bool) → (one_text found name ≡ None → result ≡ None)
    → ((text : List ℕ) → one_text found name ≡ Some text → ReadsOne (ParsesBool {E = E}) text result) → IfNone result (HasNoFlag name (rows_of found))
no_flag_read E found name (Some flag) none value = tt
no_flag_read E found name None none value = λ flag given. no_text flag (value (flag_text flag) (one_text-rows found name ∙ given)).1
  where
    no_text : (flag : Bool) → (flag_text flag ≡ true_text → ⊥) × (flag_text flag ≡ false_text → ⊥) → ⊥
    no_text true h = h.0 refl
    no_text false h = h.1 refl

-- ---- the words

is_simple_program : is_simple program ≡ true
unfolding clap_on_literals
is_simple_program = refl

is_free_program : is_simple_and_free program ≡ true
unfolding clap_on_literals
is_free_program = refl

no_fault : (app : App) (words : List (List ℕ)) → app ≡ program → (is_simple_and_free app ≡ true → fault_of app words ≡ []) → fault_of program words ≡ []
no_fault app words is faults = subst (λ (a : App). fault_of a words ≡ []) is (faults (ap is_simple_and_free is ∙ is_free_program))

same_met : (app : App) (words : List (List ℕ)) (matches : ArgMatches) → app ≡ program → HasMatchesOf app words matches → subcommand_rows_of matches ≡ subcommand_of program words
same_met app words matches is met = (met (ap is_simple is ∙ is_simple_program)).1 ∙ ap (λ (a : App). subcommand_of a words) is

-- words without a fault ask for no text
pub faultless_asks_for_nothing : (kinds : Kinds) (kind : ErrorKind) → kinds ≡ [] → kinds ≡ kind ∷ [] → ⊥
faultless_asks_for_nothing kinds kind none asks = let bad : ◌≡◌ {A = Kinds} [] (kind ∷ []) = sym none ∙ asks in absurd cc

-- what the matches ask for is what the words ask for
pub asks_for_met : (app : App) (words : List (List ℕ)) (matches : ArgMatches) → app ≡ program
    → (is_simple_and_free app ≡ true → fault_of app words ≡ []) → HasMatchesOf app words matches
    → (asked : Asked) → IsMet (subcommand_rows_of matches) asked → WordsAskFor words asked
asks_for_met app words matches is faults met (Text text) h = absurd h
asks_for_met app words matches is faults met (Cell slots items clients) h =
    (no_fault app words is faults, subst (λ m. IsRoomOf m slots items clients) (same_met app words matches is met) h)
asks_for_met app words matches is faults met (Sim store) h =
    (no_fault app words is faults, subst (λ m. IsStoreOf m store.parts store.limits store.names.items) (same_met app words matches is met) h)
asks_for_met app words matches is faults met (Serve store options) h =
    (no_fault app words is faults, subst (λ m. IsServerOf m store.parts store.limits store.names.items options) (same_met app words matches is met) h)
asks_for_met app words matches is faults met (Load store options) h =
    (no_fault app words is faults, subst (λ m. IsLoadOf m store.parts store.limits store.names.items options) (same_met app words matches is met) h)

-- where the matches ask for nothing, the words do not
pub asks_for_nothing : (app : App) (words : List (List ℕ)) (matches : ArgMatches) → app ≡ program
    → (is_simple_and_free app ≡ true → fault_of app words ≡ []) → HasMatchesOf app words matches
    → IsNothingMet (subcommand_rows_of matches) → AsksForNothing words
asks_for_nothing app words matches is faults met none =
    let back = sym (same_met app words matches is met) in record {
      no_cell = λ slots items clients asks. none.0 slots items clients (subst (λ m. IsRoomOf m slots items clients) back asks.1);
      no_store = λ parts limits names asks. none.1 parts limits names (subst (λ m. IsStoreOf m parts limits names) back asks.1);
      no_server = λ parts limits names options asks. none.2 parts limits names options (subst (λ m. IsServerOf m parts limits names options) back asks.1);
      no_load = λ parts limits names options asks. none.3 parts limits names options (subst (λ m. IsLoadOf m parts limits names options) back asks.1);
      no_help = faultless_asks_for_nothing (fault_of program words) DisplayHelp (no_fault app words is faults);
      no_version = faultless_asks_for_nothing (fault_of program words) DisplayVersion (no_fault app words is faults);
    }

-- an error has one of the kinds that the words may give
has_kind : (app : App) (words : List (List ℕ)) (error : Error) → app ≡ program
    → (is_simple_and_free app ≡ true → HasKind (fault_of app words) error) → HasKind (fault_of program words) error
has_kind app words error is faults = subst (λ (a : App). HasKind (fault_of a words) error) is (faults (ap is_simple_and_free is ∙ is_free_program))

-- words with an error that is no text ask for nothing
pub fails_for_nothing : (app : App) (words : List (List ℕ)) (error : Error) → app ≡ program
    → (is_simple_and_free app ≡ true → HasKind (fault_of app words) error)
    → (kind_of error ≡ OutOfMemory → ⊥) × (IsText (kind_of error) → ⊥) → AsksForNothing words
fails_for_nothing app words error is faults not = record {
  no_cell = λ slots items clients asks. faultless (one_of_kinds asks.0);
  no_store = λ parts limits names asks. faultless (one_of_kinds asks.0);
  no_server = λ parts limits names options asks. faultless (one_of_kinds asks.0);
  no_load = λ parts limits names options asks. faultless (one_of_kinds asks.0);
  no_help = λ help. helpless (one_of_kinds help);
  no_version = λ version. versionless (one_of_kinds version);
}
  where
    faultless : HasKind [] error → ⊥
    faultless (inl memory) = not.0 memory
    faultless (inr among) = among

    helpless : HasKind (DisplayHelp ∷ []) error → ⊥
    helpless (inl memory) = not.0 memory
    helpless (inr (inl help)) = not.1 (inl help)
    helpless (inr (inr among)) = among

    versionless : HasKind (DisplayVersion ∷ []) error → ⊥
    versionless (inl memory) = not.0 memory
    versionless (inr (inl version)) = not.1 (inr version)
    versionless (inr (inr among)) = among

    one_of_kinds : {kinds : Kinds} → fault_of program words ≡ kinds → HasKind kinds error
    one_of_kinds e = subst (λ kinds. HasKind kinds error) e (has_kind app words error is faults)

-- an error that shows a text is that of the words
pub may_ask_for_text : (app : App) (words : List (List ℕ)) (error : Error) → app ≡ program
    → (is_simple_and_free app ≡ true → HasKind (fault_of app words) error) → IsText (kind_of error) → MayAskForText words
may_ask_for_text app words error is faults text = go (has_kind app words error is faults) text
  where
    no_memory : kind_of error ≡ OutOfMemory → IsText (kind_of error) → ⊥
    no_memory memory (inl help) = cc
    no_memory memory (inr version) = cc

    go : HasKind (fault_of program words) error → IsText (kind_of error) → MayAskForText words
    go (inl memory) shown = absurd (no_memory memory shown)
    go (inr among) (inl help) = inl (subst (λ k. IsAmong k (fault_of program words)) help among)
    go (inr among) (inr version) = inr (subst (λ k. IsAmong k (fault_of program words)) version among)

-- ---- the words that ask for help

pub program_help : AsksForHelp (codes "ramp" ∷ codes "--help" ∷ [])
unfolding clap_on_literals
program_help = refl

pub cell_help : AsksForHelp (codes "ramp" ∷ codes "cell" ∷ codes "--help" ∷ [])
unfolding clap_on_literals
cell_help = refl

pub serve_help : AsksForHelp (codes "ramp" ∷ codes "serve" ∷ codes "--help" ∷ [])
unfolding clap_on_literals
serve_help = refl

pub load_help : AsksForHelp (codes "ramp" ∷ codes "load" ∷ codes "--help" ∷ [])
unfolding clap_on_literals
load_help = refl

pub sim_help : AsksForHelp (codes "ramp" ∷ codes "sim" ∷ codes "--help" ∷ [])
unfolding clap_on_literals
sim_help = refl

-- ---- the words that ask for the version

pub program_version : AsksForVersion (codes "ramp" ∷ codes "--version" ∷ [])
unfolding clap_on_literals
program_version = refl
