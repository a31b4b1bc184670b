-- Transactions that may begin: for `Sessions::begin_put`, `begin_get` and `begin_find`, and `ClientSession::begin_put`.
use Rattle.std.proofs.Common.{◌≡◌, ℕ, ◌+◌, List, [], Bool, true, false, refl, sym, ap, ◌∙◌, subst, cond, length, Option, Some, None, is_some}
use Rattle.std.specs.Prelude.{Result, Ok, Err, IfOk, nat_le}
use Rattle.stamps.specs.Bounds.{IsClient, IsParts}
use Rattle.stamps.specs.Stamp.{stamp}
use Rattle.plain_store.specs.Words.{Item, Key, Tag, Setup}
use Rattle.plain_store.specs.declared.refusal.Refusal.{Refusal}
use Rattle.plain_store.specs.declared.refusal.Refusal.TheVariants.{Busy, BadItems, StampsUsed, Stopped}
use Rattle.plain_store.specs.declared.step.Act.{Act}
use Rattle.plain_store.specs.declared.step.Act.TheVariants.{Put, Get as GetAll, Find}
use Rattle.plain_store.specs.History.{History, Open, Closed, session, Intent, Writes, Gets, Finds, running, counter}
use Rattle.plain_store.specs.Writing.{keys_written}
use Rattle.plain_store.specs.Moves.{calls_of}
use Rattle.plain_store.specs.Run.{rows_are_used, are_bad, counter_limit, tests}
use Rattle.tenant_sessions.specs.declared.begin.Begin.{Begin}
use Rattle.tenant_sessions.specs.declared.session.ClientSession.{ClientSession}
use Rattle.tenant_sessions.specs.Content.{SessionsContent, client_in}
use Rattle.tenant_sessions.specs.Held.{test_idle, test_put, test_get}
use Rattle.tenant_sessions.specs.Running.{MayBegin}
use Rattle.tenant_sessions.specs.Sessions.{StandsFor, act_for, HasNextStamp, IsBegin, IsBeginOf}
use Rattle.tenant_sessions.proofs.Starting.{write_calls, read_calls, find_calls}
use Rattle.tenant_sessions.proofs.Refusing.{known_of, runs_alike, is_passed, tested_by, comes_to, passes, is_opened, by_session, by_known}

none_runs : {X : Type 0} (o : Option X) → is_some o ≡ false → o ≡ None
none_runs None e = refl
none_runs (Some x) e = cc

module _ (setup : Setup) (history : History) (sessions : SessionsContent) (client : ℕ) (held : ClientSession) (stands : StandsFor setup history sessions) (rows : rows_are_used history ≡ false) (at : client_in sessions client ≡ Some held) where
  alike : is_some (running history client) ≡ is_some held.running
  alike = let known = known_of setup history sessions client held stands at in runs_alike setup history client held.ticket (running history client) held.running known.runs

  -- the tests of a transaction's client, with what comes after them
  tested : (rest : Result (Unit {0}) Refusal) → by_session (rows_are_used history) (session history client) (cond (is_some (running history client)) (Err Busy) rest)
      ≡ cond held.is_open (cond (is_some held.running) (Err Busy) rest) (Err Stopped)
  tested rest =
      by_known setup history client held (rows_are_used history) _ (known_of setup history sessions client held stands at) rows
      ∙ ap (λ b. cond held.is_open (cond b (Err Busy) rest) (Err Stopped)) alike

  pub put_tested : (items : List Item) → tested_by (tests setup history (Put client items)) ≡ test_put held items
  put_tested items =
      tested (cond (are_bad (keys_written items)) (Err BadItems) (cond (nat_le counter_limit (counter history client)) (Err StampsUsed) is_passed))
      ∙ ap (λ n. cond held.is_open (cond (is_some held.running) (Err Busy) (cond (are_bad (keys_written items)) (Err BadItems) (cond (nat_le counter_limit n) (Err StampsUsed) is_passed))) (Err Stopped))
      (sym (known_of setup history sessions client held stands at).counter)

  pub get_tested : (keys : List Key) → tested_by (tests setup history (GetAll client keys)) ≡ test_get held keys
  get_tested keys = tested (cond (are_bad keys) (Err BadItems) is_passed)

  pub find_tested : (tag : Tag) → tested_by (tests setup history (Find client tag)) ≡ test_idle held
  find_tested tag = tested is_passed

  -- what passed the tests begins
  begins_so : (act : Act) (request : Intent) (begin : Begin) (calls : ℕ) (rest : Result (Unit {0}) Refusal) → IsClient client → IsBeginOf begin client request calls → act ≡ act_for client request
      → tested_by (tests setup history act) ≡ cond held.is_open (cond (is_some held.running) (Err Busy) rest) (Err Stopped) → cond held.is_open (cond (is_some held.running) (Err Busy) rest) (Err Stopped) ≡ is_passed
      → (rest ≡ is_passed → MayBegin request × HasNextStamp history client request × (calls ≡ length (calls_of setup false request []))) → IsBegin setup history act begin
  begins_so act request begin calls rest valid of asked is passed may =
      let o = is_opened held.is_open _ passed in
      let r = passes (is_some held.running) Busy rest o.1 in
      let m = may r.1 in
      let own = sym of.own in
      let known = known_of setup history sessions client held stands at in
      record {
        request = request;
        asked = subst (λ n. act ≡ act_for n request) own asked;
        kind = of.asked;
        fits = m.0;
        calls = of.count ∙ m.2;
        stamp = subst (λ n. HasNextStamp history n request) own m.1;
        client = subst IsClient own valid;
        session = ap (session history) of.own ∙ known.session ∙ ap (λ b. cond b Open Closed) o.0;
        idle = ap (running history) of.own ∙ none_runs (running history client) (alike ∙ r.0);
        effect = comes_to setup history act is_passed (is ∙ passed);
      }

  pub put_begins : (items : List Item) (begin : Begin) → IsClient client → test_put held items ≡ is_passed → IsBeginOf begin client (Writes (stamp (held.counter + 1) client) items) (length items) → IsBegin setup history (Put client items) begin
  put_begins items begin valid passed of =
      begins_so (Put client items) (Writes (stamp (held.counter + 1) client) items) begin (length items) _ valid of refl (put_tested items) passed
      (λ rest. let good = (passes (are_bad (keys_written items)) BadItems _ rest).0 in
      (good, ap (λ n. stamp (n + 1) client) (known_of setup history sessions client held stands at).counter, sym (write_calls setup (stamp (held.counter + 1) client) items good)))

  pub get_begins : (keys : List Key) (begin : Begin) → IsClient client → test_get held keys ≡ is_passed → IsBeginOf begin client (Gets keys) (length keys) → IsBegin setup history (GetAll client keys) begin
  get_begins keys begin valid passed of =
      begins_so (GetAll client keys) (Gets keys) begin (length keys) _ valid of refl (get_tested keys) passed
      (λ rest. let good = (passes (are_bad keys) BadItems is_passed rest).0 in (good, tt, sym (read_calls setup keys good)))

  pub find_begins : (tag : Tag) (begin : Begin) (parts : ℕ) → IsParts parts → setup.partitions ≡ parts → IsClient client → test_idle held ≡ is_passed → IsBeginOf begin client (Finds tag) parts → IsBegin setup history (Find client tag) begin
  find_begins tag begin parts range same valid passed of =
      begins_so (Find client tag) (Finds tag) begin parts is_passed valid of refl (find_tested tag) passed (λ rest. (tt, tt, sym (find_calls setup parts same tag range)))

-- what an answer says may be told in other words
pub ok_told : {X : Type 0} (P Q R : X → Type 0) → ((x : X) → P x → Q x → R x) → (answer : Result X Refusal) → IfOk answer P → IfOk answer Q → IfOk answer R
ok_told P Q R so (Ok x) p q = so x p q
ok_told P Q R so (Err refusal) p q = tt

-- one of two refusals
abbrev first_of : Bool → Refusal → Refusal → Result (Unit {0}) Refusal
first_of b refusal other = cond b (Err refusal) (Err other)

one_error : (b : Bool) (refusal other : Refusal) → first_of b refusal other ≡ Err (cond b refusal other)
one_error true refusal other = refl
one_error false refusal other = refl

-- ---- the tests of a write that an idle session begins

module _ (held : ClientSession) (idle : test_idle held ≡ is_passed) where
  is_idle : (held.is_open ≡ true) × (is_some held.running ≡ false)
  is_idle = let o = is_opened held.is_open _ idle in (o.0, (passes (is_some held.running) Busy is_passed o.1).0)

  pub none_held : held.running ≡ None
  none_held = none_runs held.running is_idle.1

  pub bad_put : (items : List Item) → are_bad (keys_written items) ≡ true → test_put held items ≡ Err BadItems
  bad_put items bad =
      (λ i. cond (is_idle.0 i) (cond (is_idle.1 i) (Err Busy) (cond (bad i) (Err BadItems) (cond (nat_le counter_limit held.counter) (Err StampsUsed) is_passed))) (Err Stopped))

  pub used_put : (items : List Item) → are_bad (keys_written items) ≡ false → nat_le counter_limit held.counter ≡ true → test_put held items ≡ Err StampsUsed
  used_put items good used =
      (λ i. cond (is_idle.0 i) (cond (is_idle.1 i) (Err Busy) (cond (good i) (Err BadItems) (cond (used i) (Err StampsUsed) is_passed))) (Err Stopped))

  pub spent_put : (items : List Item) → nat_le counter_limit held.counter ≡ true → test_put held items ≡ Err (cond (are_bad (keys_written items)) BadItems StampsUsed)
  spent_put items used =
      (λ i. cond (is_idle.0 i) (cond (is_idle.1 i) (Err Busy) (cond (are_bad (keys_written items)) (Err BadItems) (cond (used i) (Err StampsUsed) is_passed))) (Err Stopped))
      ∙ one_error (are_bad (keys_written items)) BadItems StampsUsed

  pub passes_put : (items : List Item) → are_bad (keys_written items) ≡ false → nat_le counter_limit held.counter ≡ false → test_put held items ≡ is_passed
  passes_put items good fits =
      (λ i. cond (is_idle.0 i) (cond (is_idle.1 i) (Err Busy) (cond (good i) (Err BadItems) (cond (fits i) (Err StampsUsed) is_passed))) (Err Stopped))
