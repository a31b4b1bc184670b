-- What the tests of a step come to, by what is held of its client: for the calls of `Sessions` that may refuse.
use Rattle.std.proofs.Common.{◌≡◌, ℕ, List, [], ◌∷◌, Bool, true, false, refl, ap, ◌∙◌, subst, cond, Option, Some, None, is_some}
use Rattle.std.specs.Prelude.{Result, Ok, Err, IfErr}
use Rattle.plain_store.specs.declared.answer.Answer.TheVariants.{Refused}
use Rattle.plain_store.specs.declared.refusal.Refusal.{Refusal}
use Rattle.plain_store.specs.declared.refusal.Refusal.TheVariants.{NoSession, RowsUsed, Stopped}
use Rattle.plain_store.specs.declared.step.Act.{Act}
use Rattle.plain_store.specs.Words.{Setup}
use Rattle.plain_store.specs.History.{Moment, moment, History, Session, Open, Closed, session, is_new, is_closed, Transaction, running}
use Rattle.plain_store.specs.Run.{Test, tests, after_tests, effect, moment_of}
use Rattle.tenant_sessions.specs.declared.running.Running.{Running}
use Rattle.tenant_sessions.specs.declared.session.ClientSession.{ClientSession}
use Rattle.tenant_sessions.specs.Content.{SessionsContent, client_in}
use Rattle.tenant_sessions.specs.Sessions.{MayRun, IsKnown, IsUnknown, ClientStands, StandsFor}

-- ---- what is held of a client

pub known_of : (setup : Setup) (history : History) (sessions : SessionsContent) (client : ℕ) (held : ClientSession) → StandsFor setup history sessions → client_in sessions client ≡ Some held → IsKnown setup history client held
known_of setup history sessions client held stands at = subst (λ (o : Option ClientSession). ClientStands setup history client o) at (stands.each client)

pub unknown_of : (setup : Setup) (history : History) (sessions : SessionsContent) (client : ℕ) → StandsFor setup history sessions → client_in sessions client ≡ None → IsUnknown history client
unknown_of setup history sessions client stands at = subst (λ (o : Option ClientSession). ClientStands setup history client o) at (stands.each client)

-- a transaction runs where one is held
pub runs_alike : (setup : Setup) (history : History) (client ticket : ℕ) (o : Option Transaction) (held : Option Running) → MayRun setup history client ticket o held → is_some o ≡ is_some held
runs_alike setup history client ticket None (Some running) runs = absurd runs
runs_alike setup history client ticket (Some transaction) None runs = absurd runs
runs_alike setup history client ticket _ _ runs = refl

-- ---- the tests, as one result

-- a test that is passed
abbrev pub is_passed : Result (Unit {0}) Refusal
is_passed = Ok tt

-- the refusal of the first test that fails
abbrev pub tested_by : List Test → Result (Unit {0}) Refusal
tested_by [] = is_passed
tested_by (test ∷ rest) = cond test.fails (Err test.refusal) (tested_by rest)

-- what the step is where its tests come to this
abbrev pub comes_of : Act → Moment → Result (Unit {0}) Refusal → Moment
comes_of act effect (Ok passed) = effect
comes_of act effect (Err why) = moment act (Refused why) []

after_is : (act : Act) (list : List Test) (effect : Moment) → after_tests act list effect ≡ comes_of act effect (tested_by list)
after_is act [] effect = refl
after_is act (test ∷ rest) effect = go test.fails (after_is act rest effect)
  where
    go : (b : Bool) → after_tests act rest effect ≡ comes_of act effect (tested_by rest)
        → cond b (moment act (Refused test.refusal) []) (after_tests act rest effect) ≡ comes_of act effect (cond b (Err test.refusal) (tested_by rest))
    go true e = refl
    go false e = e

pub comes_to : (setup : Setup) (history : History) (act : Act) (result : Result (Unit {0}) Refusal) → tested_by (tests setup history act) ≡ result → moment_of setup history act ≡ comes_of act (effect setup history act) result
unfolding moment_of
comes_to setup history act result is = after_is act (tests setup history act) (effect setup history act) ∙ ap (comes_of act (effect setup history act)) is

-- what a call refuses the step refuses
pub refuses_so : {X : Type 0} (setup : Setup) (history : History) (act : Act) (test : Result (Unit {0}) Refusal) → tested_by (tests setup history act) ≡ test → (answer : Result X Refusal)
    → IfErr answer (λ refusal. test ≡ Err refusal) → IfErr answer (λ refusal. moment_of setup history act ≡ moment act (Refused refusal) [])
refuses_so setup history act test is (Ok x) told = tt
refuses_so setup history act test is (Err refusal) told = comes_to setup history act (Err refusal) (is ∙ told)

-- what holds of a test's parts, where it is passed
pub passes : (b : Bool) (why : Refusal) (rest : Result (Unit {0}) Refusal) → cond b (Err why) rest ≡ is_passed → (b ≡ false) × (rest ≡ is_passed)
passes true why rest e = cc
passes false why rest e = (refl, e)

pub is_opened : (b : Bool) (rest : Result (Unit {0}) Refusal) → cond b rest (Err Stopped) ≡ is_passed → (b ≡ true) × (rest ≡ is_passed)
is_opened true rest e = (refl, e)
is_opened false rest e = cc

-- ---- the tests of a client's session, with what comes after them

abbrev pub by_session : Bool → Session → Result (Unit {0}) Refusal → Result (Unit {0}) Refusal
by_session used s rest = cond used (Err RowsUsed) (cond (is_new s) (Err NoSession) (cond (is_closed s) (Err Stopped) rest))

-- a client of which nothing is held has none
pub refused_unknown : (setup : Setup) (history : History) (sessions : SessionsContent) (act : Act) (client : ℕ) (used : Bool) (rest : Result (Unit {0}) Refusal) → StandsFor setup history sessions → client_in sessions client ≡ None
    → tested_by (tests setup history act) ≡ by_session used (session history client) rest → used ≡ false → moment_of setup history act ≡ moment act (Refused NoSession) []
refused_unknown setup history sessions act client used rest stands at is left =
    comes_to setup history act (Err NoSession) (is ∙ (λ i. by_session (left i) ((unknown_of setup history sessions client stands at).session i) rest))

-- of one that said hello it is open or closed
pub by_known : (setup : Setup) (history : History) (client : ℕ) (held : ClientSession) (used : Bool) (rest : Result (Unit {0}) Refusal) → IsKnown setup history client held → used ≡ false
    → by_session used (session history client) rest ≡ cond held.is_open rest (Err Stopped)
by_known setup history client held used rest known left = (λ i. by_session (left i) (known.session i) rest) ∙ go held.is_open
  where
    go : (b : Bool) → by_session false (cond b Open Closed) rest ≡ cond b rest (Err Stopped)
    go true = refl
    go false = refl
