-- What sessions stand for once a transaction has begun: for `Sessions::start` and the calls of `Begin`.
use Rattle.std.proofs.Common.{◌≡◌, ℕ, ◌+◌, ◌≤◌, ◌-◌, max, List, [], ◌∷◌, false, ◌==◌, refl, sym, ap, ◌∙◌, subst, cond, length, map, Option, Some, arith}
use Rattle.std.proofs.lemmas.Bool.{ltb-false}
use Rattle.std.proofs.lemmas.List.{length-map}
use Rattle.stamps.specs.Bounds.{IsClient, IsParts}
use Rattle.stamps.specs.Limits.{max_parts, max_rows}
use Rattle.stamps.specs.Stamp.{counter_of}
use Rattle.plain_store.specs.declared.answer.Answer.{Answer}
use Rattle.plain_store.specs.declared.answer.Answer.TheVariants.{PutBegun, GetBegun, FindBegun}
use Rattle.plain_store.specs.declared.answer.Rows.{Rows}
use Rattle.plain_store.specs.declared.message.Message.{Message}
use Rattle.plain_store.specs.declared.step.Act.{Act}
use Rattle.plain_store.specs.declared.step.Act.TheVariants.{Put}
use Rattle.plain_store.specs.Words.{Setup, IsAct}
use Rattle.plain_store.specs.History.{Moment, History, messages, Session, session, session_after, client_gained, clients_known, Intent, Writes, Gets, Finds, Transaction, begun_by, transaction_of, one_if_by, tickets, taken_in, ends, running_after, running, counter_gained, counter}
use Rattle.plain_store.specs.Moves.{calls_of}
use Rattle.plain_store.specs.Run.{rows_are_used, next_rows, call_message, begins, effect, moment_of}
use Rattle.plain_store.proofs.Steps.{happens}
use Rattle.plain_store.proofs.KeptLogs.{NewBegun}
use Rattle.plain_store.proofs.StepEffects.{turn_or_quiet}
use Rattle.tenant_sessions.specs.declared.begin.Begin.{Begin}
use Rattle.tenant_sessions.specs.declared.begin.Beginning.{Beginning}
use Rattle.tenant_sessions.specs.declared.begin.Beginning.TheVariants.{Put as BeginsPut}
use Rattle.tenant_sessions.specs.declared.running.Running.{Running}
use Rattle.tenant_sessions.specs.declared.session.ClientSession.{ClientSession}
use Rattle.tenant_sessions.specs.Content.{SessionsContent, client_in, HoldsSession}
use Rattle.tenant_sessions.specs.Held.{begins_as, request_begun, drawn_counter, next_ticket}
use Rattle.tenant_sessions.specs.Running.{waiting_calls, RunningStands, Starts}
use Rattle.tenant_sessions.specs.Sessions.{IsRun, waiting, MayRun, RunsAs, IsKnown, StandsFor, act_for, HasNextStamp, IsBegin, kind_answer, begin_answer}
use Rattle.tenant_sessions.proofs.Untouched.{touches, untouched}
use Rattle.tenant_sessions.proofs.Standing.{stands_after, own_client}
use Rattle.tenant_sessions.proofs.Refusing.{known_of}
use Rattle.plain_store.proofs.SearchesAsk.{taken_new}
use Rattle.tenant_sessions.proofs.DecidedKept.{Grounds}
use Rattle.tenant_sessions.proofs.RunningTransactions.{grounds_step, run_grounds}
use Rattle.tenant_sessions.proofs.Resending.{waiting_some}
use Rattle.tenant_sessions.proofs.Tickets.{tickets_few}

-- how the step is answered that begins a transaction
abbrev first_answer : Intent → Rows → Answer
first_answer (Writes stamp items) rows = PutBegun stamp rows
first_answer (Gets keys) rows = GetBegun rows
first_answer (Finds tag) rows = FindBegun rows

abbrev first_moment : Setup → History → ℕ → Intent → Moment
first_moment setup history client request = begins setup history (act_for client request) (first_answer request) client request

effect_is : (setup : Setup) (history : History) (client : ℕ) (request : Intent) → HasNextStamp history client request → effect setup history (act_for client request) ≡ first_moment setup history client request
unfolding effect
effect_is setup history client (Writes stamp items) is = ap (λ s. begins setup history (Put client items) (PutBegun s) client (Writes s items)) (sym is)
effect_is setup history client (Gets keys) is = refl
effect_is setup history client (Finds tag) is = refl

-- the same of what may begin
pub begin_is : (setup : Setup) (history : History) (act : Act) (begin : Begin) (b : IsBegin setup history act begin) → effect setup history act ≡ first_moment setup history begin.client b.request
begin_is setup history act begin b = ap (effect setup history) b.asked ∙ effect_is setup history begin.client b.request b.stamp

-- how many calls it sends, and how it is answered
pub begin_sends : (setup : Setup) (history : History) (act : Act) (begin : Begin) (b : IsBegin setup history act begin) → length (effect setup history act).sent ≡ begin.calls
begin_sends setup history act begin b =
    ap (λ (m : Moment). length m.sent) (begin_is setup history act begin b)
    ∙ length-map (calls_of setup false b.request []) (call_message begin.client (tickets history begin.client + 1)) ∙ sym b.calls

kind_answers : (kind : Beginning) (rows : Rows) → kind_answer kind rows ≡ first_answer (request_begun kind) rows
kind_answers (BeginsPut stamp items writes) rows = refl
kind_answers _ rows = refl

answers_so : (begin : Begin) (request : Intent) (rows : Rows) → request_begun begin.kind ≡ request → begin_answer begin rows ≡ first_answer request rows
answers_so begin request rows e = kind_answers begin.kind rows ∙ ap (λ r. first_answer r rows) e

first_told : (setup : Setup) (history : History) (client : ℕ) (request : Intent) → (first_moment setup history client request).answer ≡ first_answer request (next_rows history (length (first_moment setup history client request).sent))
first_told setup history client request =
    ap (λ n. first_answer request (next_rows history n)) (sym (length-map (calls_of setup false request []) (call_message client (tickets history client + 1))))

pub begin_told : (setup : Setup) (history : History) (act : Act) (begin : Begin) (rows : Rows) → IsBegin setup history act begin → rows ≡ next_rows history (length (effect setup history act).sent) → (effect setup history act).answer ≡ begin_answer begin rows
begin_told setup history act begin rows b e =
    let is = begin_is setup history act begin b in
    ap (λ (m : Moment). m.answer) is ∙ first_told setup history begin.client b.request
    ∙ ap (λ (m : Moment). first_answer b.request (next_rows history (length m.sent))) (sym is) ∙ ap (first_answer b.request) (sym e) ∙ sym (answers_so begin b.request rows b.kind)

-- ---- what the step leaves

valid_act : (client : ℕ) (request : Intent) → IsClient client → IsAct (act_for client request)
valid_act client (Writes stamp items) valid = valid
valid_act client _ valid = valid

-- by what it asks for
record First (history : History) (client : ℕ) (request : Intent) (rows : Rows) : Type 0 where
  own : (other : ℕ) → touches (act_for client request) (first_answer request rows) history other ≡ (client == other)
  session : (before : Session) → session_after (act_for client request) (first_answer request rows) client before ≡ before
  gained : client_gained (act_for client request) (first_answer request rows) history ≡ 0
  counter : counter_gained (act_for client request) (first_answer request rows) history client ≡ drawn_counter request
  begun : begun_by (act_for client request) (first_answer request rows) ≡ Some (client, request)

first : (history : History) (client : ℕ) (request : Intent) (rows : Rows) → First history client request rows
first history client (Writes stamp items) rows =
    record { own = λ other. refl; session = λ before. refl; gained = refl; counter = ap (λ b. cond b (counter_of stamp) 0) (own_client client); begun = refl }
first history client _ rows = record { own = λ other. refl; session = λ before. refl; gained = refl; counter = refl; begun = refl }

-- the transaction that begins
abbrev begun_of : History → ℕ → Intent → Transaction
begun_of history client request = record { client = client; ticket = tickets history client + 1; begun = length history; request = request }

first_running : (setup : Setup) (history : History) (client : ℕ) (request : Intent) → running (first_moment setup history client request ∷ history) client ≡ Some (begun_of history client request)
first_running setup history client request =
    let m = first_moment setup history client request in
    ap (λ o. running_after (transaction_of history o) (ends m.act m.answer history client) client (running history client)) (first history client request _).begun
    ∙ ap (λ b. cond b (Some (begun_of history client request)) (running history client)) (own_client client)

-- a ticket that a machine's number holds
few_tickets : (history : History) (n : ℕ) → rows_are_used history ≡ false → n ≤ length (messages history) → next_ticket n ≡ n + 1
few_tickets history n rows few = let l = ltb-false (max_rows - max_parts) (length (messages history)) rows in small n (length (messages history)) few l
  where
    small : (n k : ℕ) → n ≤ k → k ≤ max_rows - max_parts → next_ticket n ≡ n + 1
    small n k few l = omega arith

module _ (setup : Setup) (history : History) (act : Act) (old new : SessionsContent) (begin : Begin) (held : ClientSession) (ran : IsRun setup history) (stands : StandsFor setup history old) (rows : rows_are_used history ≡ false)
    (parts : IsParts old.parts) (b : IsBegin setup history act begin) (at : client_in old begin.client ≡ Some held)
    (made : Running) (starts : Starts setup (request_begun begin.kind) made) (holds : HoldsSession old new begin.client (begins_as held (drawn_counter (request_begun begin.kind)) made)) (same : length new.clients ≡ length old.clients) where
  grounds : Grounds setup history
  grounds = run_grounds setup history ran

  valid : IsAct act
  valid = subst (λ (a : Act). IsAct a) (sym b.asked) (valid_act begin.client b.request b.client)

  first_is : moment_of setup history act ≡ first_moment setup history begin.client b.request
  first_is = b.effect ∙ begin_is setup history act begin b

  grounds_after : Grounds setup (first_moment setup history begin.client b.request ∷ history)
  grounds_after = subst (λ (x : Moment). Grounds setup (x ∷ history)) first_is (grounds_step setup (moment_of setup history act) history grounds (happens setup history act valid) (turn_or_quiet setup history act))

  known : IsKnown setup history begin.client held
  known = known_of setup history old begin.client held stands at

  new_begun : NewBegun history (first_moment setup history begin.client b.request) (begun_of history begin.client b.request)
  new_begun = ((begin.client, b.request), (first history begin.client b.request _).begun, refl)

  nothing_taken : taken_in (first_moment setup history begin.client b.request ∷ history) (begun_of history begin.client b.request) ≡ []
  nothing_taken = taken_new setup (first_moment setup history begin.client b.request) history (begun_of history begin.client b.request) grounds.fresh new_begun

  ticket_is : next_ticket held.ticket ≡ tickets history begin.client + 1
  ticket_is =
      ap next_ticket known.ticket
      ∙ few_tickets history (tickets history begin.client) rows (tickets_few setup history begin.client ran (subst (λ n. IsParts n) stands.parts parts))

  starts_as : Starts setup b.request made
  starts_as = subst (λ (r : Intent). Starts setup r made) b.kind starts

  runs : RunsAs setup (first_moment setup history begin.client b.request ∷ history) begin.client (next_ticket held.ticket) (begun_of history begin.client b.request) made
  runs = record {
    own = refl;
    drawn = sym ticket_is;
    stands = subst (λ (ts : List Message). RunningStands setup b.request ts made) (sym nothing_taken) starts_as.stands;
  }

  now : IsKnown setup (first_moment setup history begin.client b.request ∷ history) begin.client (begins_as held (drawn_counter (request_begun begin.kind)) made)
  now = record {
    session = (first history begin.client b.request _).session (session history begin.client) ∙ known.session;
    counter = (λ i. max (drawn_counter (b.kind i)) (known.counter i)) ∙ ap (λ n. max n (counter history begin.client)) (sym (first history begin.client b.request _).counter);
    ticket = ticket_is ∙ sym (ap (λ o. one_if_by begin.client o + tickets history begin.client) (first history begin.client b.request _).begun ∙ ap (λ b. cond b 1 0 + tickets history begin.client) (own_client begin.client) ∙ one_more (tickets history begin.client));
    runs = subst (λ (o : Option Transaction). MayRun setup (first_moment setup history begin.client b.request ∷ history) begin.client (next_ticket held.ticket) o (Some made)) (sym (first_running setup history begin.client b.request)) runs;
  }
    where
      one_more : (n : ℕ) → 1 + n ≡ n + 1
      one_more n = omega arith

  counted : clients_known (first_moment setup history begin.client b.request ∷ history) ≡ length new.clients
  counted =
      let none = (first history begin.client b.request (next_rows history (length (calls_of setup false b.request [])))).gained in
      let before = stands.count in
      omega (arith, none, before, same)

  stands_first : StandsFor setup (first_moment setup history begin.client b.request ∷ history) new
  stands_first =
      stands_after setup (first_moment setup history begin.client b.request) history old new begin.client (begins_as held (drawn_counter (request_begun begin.kind)) made) stands holds counted
      (λ other apart. untouched (first_moment setup history begin.client b.request) history other ((first history begin.client b.request _).own other ∙ apart)) now

  sent_first : (first_moment setup history begin.client b.request).sent ≡ waiting setup (first_moment setup history begin.client b.request ∷ history) begin.client
  sent_first =
      sym (waiting_some setup (first_moment setup history begin.client b.request ∷ history) begin.client (begun_of history begin.client b.request) (first_running setup history begin.client b.request)
      (grounds_after.agreed begin.client (begun_of history begin.client b.request) (first_running setup history begin.client b.request))
      ∙ ap (λ (ts : List Message). map (call_message begin.client (tickets history begin.client + 1)) (waiting_calls setup b.request ts)) nothing_taken
      ∙ ap (map (call_message begin.client (tickets history begin.client + 1))) starts_as.calls)

  pub started : StandsFor setup (effect setup history act ∷ history) new × ((effect setup history act).sent ≡ waiting setup (effect setup history act ∷ history) begin.client)
  started =
      let P : Moment → Type 0 = λ x. StandsFor setup (x ∷ history) new × (x.sent ≡ waiting setup (x ∷ history) begin.client) in
      subst P (sym (begin_is setup history act begin b)) (stands_first, sent_first)
