-- Clients whose sessions a step leaves as they are: for the calls of `Sessions` that change them.
use Rattle.std.proofs.Common.{◌≡◌, ℕ, ◌+◌, max, List, [], ◌∷◌, ◌++◌, Bool, true, false, ◌&&◌, ◌==◌, refl, sym, ap, ◌∙◌, subst, cond, Option, Some, None, option_to_list, filter, length, append-nil, arith}
use Rattle.stamps.specs.Stamp.{counter_of}
use Rattle.plain_store.specs.Words.{Setup}
use Rattle.plain_store.specs.declared.answer.Answer.TheVariants.{Ready, PutBegun, GetBegun, FindBegun, Wait, Done, Stopped}
use Rattle.plain_store.specs.declared.answer.Answer.{Answer}
use Rattle.plain_store.specs.declared.message.Message.{Message}
use Rattle.plain_store.specs.declared.step.Act.TheVariants.{Hello, Put, Get as GetAll, Find, Deliver, Stop}
use Rattle.plain_store.specs.declared.step.Act.{Act}
use Rattle.plain_store.proofs.ListTests.{and-false}
use Rattle.plain_store.proofs.StaysTrue.{taken_more}
use Rattle.plain_store.specs.History.{Moment, History, message_at, Session, Open, Closed, session_after, session, client_gained, clients_known, Intent, Writes, Gets, Finds, Transaction, begun_by, one_if_by, transaction_of, tickets, is_move, is_last, took, is_of, taken_in, is_by, ends, running_after, running, counter_in, counter_taken, counter_gained, counter}
use Rattle.tenant_sessions.specs.declared.session.ClientSession.{ClientSession}
use Rattle.tenant_sessions.specs.declared.running.Running.{Running}
use Rattle.tenant_sessions.specs.Running.{RunningStands}
use Rattle.tenant_sessions.specs.Sessions.{is_quiet, MayRun, ClientStands}

-- the step leaves all that is known of the client
pub record Untouched (m : Moment) (older : History) (client : ℕ) : Type 0 where
  pub session : session (m ∷ older) client ≡ session older client
  pub counter : counter (m ∷ older) client ≡ counter older client
  pub ticket : tickets (m ∷ older) client ≡ tickets older client
  pub running : running (m ∷ older) client ≡ running older client
  pub taken : (transaction : Transaction) → transaction.client ≡ client → taken_in (m ∷ older) transaction ≡ taken_in older transaction

-- ---- a client that still stands

pub nothing : (n : ℕ) → 0 + n ≡ n
nothing n = omega arith

pub taken_same : (m : Moment) (older : History) (transaction : Transaction) → filter (is_of transaction) (option_to_list (took m.act m.answer older)) ≡ [] → taken_in (m ∷ older) transaction ≡ taken_in older transaction
taken_same m older transaction none = taken_more m older transaction ∙ ap (λ (ms : List Message). taken_in older transaction ++ ms) none ∙ append-nil (taken_in older transaction)

pub runs_still : (setup : Setup) (m : Moment) (older : History) (client ticket : ℕ) (o : Option Transaction) (held : Option Running)
    → ((transaction : Transaction) → transaction.client ≡ client → taken_in (m ∷ older) transaction ≡ taken_in older transaction)
    → MayRun setup older client ticket o held → MayRun setup (m ∷ older) client ticket o held
runs_still setup m older client ticket None None same runs = tt
runs_still setup m older client ticket None (Some running) same runs = runs
runs_still setup m older client ticket (Some transaction) None same runs = runs
runs_still setup m older client ticket (Some transaction) (Some running) same runs = record {
  own = runs.own;
  drawn = runs.drawn;
  stands = subst (λ (taken : List Message). RunningStands setup transaction.request taken running) (sym (same transaction runs.own)) runs.stands;
}

pub still_stands : (setup : Setup) (m : Moment) (older : History) (client : ℕ) (held : Option ClientSession) → Untouched m older client
    → ClientStands setup older client held → ClientStands setup (m ∷ older) client held
still_stands setup m older client None same stands = record {
  session = same.session ∙ stands.session;
  counter = same.counter ∙ stands.counter;
  ticket = same.ticket ∙ stands.ticket;
  idle = same.running ∙ stands.idle;
}
still_stands setup m older client (Some held) same stands = record {
  session = same.session ∙ stands.session;
  counter = stands.counter ∙ sym same.counter;
  ticket = stands.ticket ∙ sym same.ticket;
  runs = subst (λ (o : Option Transaction). MayRun setup (m ∷ older) client held.ticket o held.running) (sym same.running)
      (runs_still setup m older client held.ticket (running older client) held.running same.taken stands.runs);
}

-- ---- steps that leave a client as it was

-- whether the step is one that may change what is known of the client
abbrev pub touches : Act → Answer → History → ℕ → Bool
touches (Hello c base) (Ready counter) older client = c == client
touches (Put c items) (PutBegun stamp rows) older client = c == client
touches (GetAll c keys) (GetBegun rows) older client = c == client
touches (Find c tag) (FindBegun rows) older client = c == client
touches (Stop c) Stopped older client = c == client
touches (Deliver row) answer older client = is_move answer && is_by client (message_at older row)
touches act answer older client = false

record Leaves (act : Act) (answer : Answer) (older : History) (client : ℕ) : Type 0 where
  session : (before : Session) → session_after act answer client before ≡ before
  counter : counter_gained act answer older client ≡ 0
  ticket : one_if_by client (begun_by act answer) ≡ 0
  running : (before : Option Transaction) → running_after (transaction_of older (begun_by act answer)) (ends act answer older client) client before ≡ before
  taken : (transaction : Transaction) → transaction.client ≡ client → filter (is_of transaction) (option_to_list (took act answer older)) ≡ []

last_moves : (answer : Answer) → is_move answer ≡ false → is_last answer ≡ false
last_moves (Done stamp) q = cc
last_moves _ q = cc

counter_other : (client : ℕ) (o : Option Message) → is_by client o ≡ false → counter_taken client o ≡ 0
counter_other client None e = refl
counter_other client (Some message) e = ap (λ b. cond b (counter_in message.reply) 0) e

-- a message of another client is of no transaction of this one
other_message : (transaction : Transaction) (client : ℕ) (o : Option Message) → transaction.client ≡ client → is_by client o ≡ false → filter (is_of transaction) (option_to_list o) ≡ []
other_message transaction client None own e = refl
other_message transaction client (Some message) own e = ap (λ b. cond (b && (message.ticket == transaction.ticket)) (message ∷ []) []) (ap (λ c. message.client == c) own ∙ e)

delivered : (row : ℕ) (answer : Answer) (older : History) (client : ℕ) (b : Bool) → is_move answer ≡ b → (b && is_by client (message_at older row)) ≡ false → Leaves (Deliver row) answer older client
delivered row answer older client true moves e = record {
  session = λ before. refl;
  counter = ap (λ b. cond b (counter_taken client (message_at older row)) 0) moves ∙ counter_other client (message_at older row) e;
  ticket = refl;
  running = λ before. ap (λ b. running_after None b client before) (ap (λ b. is_last answer && b) e ∙ and-false (is_last answer));
  taken = λ transaction own. ap (λ b. filter (is_of transaction) (option_to_list (cond b (message_at older row) None))) moves ∙ other_message transaction client (message_at older row) own e;
}
delivered row answer older client false moves e = record {
  session = λ before. refl;
  counter = ap {B = ℕ} (λ b. cond b (counter_taken client (message_at older row)) 0) moves;
  ticket = refl;
  running = λ before. ap (λ b. running_after None (b && is_by client (message_at older row)) client before) (last_moves answer moves);
  taken = λ transaction own. ap (λ b. filter (is_of transaction) (option_to_list (cond b (message_at older row) None))) moves;
}

abbrev begun_as : History → ℕ → Intent → Option Transaction
begun_as older c request = Some (record { client = c; ticket = tickets older c + 1; begun = length older; request = request })

leaves : (act : Act) (answer : Answer) (older : History) (client : ℕ) → touches act answer older client ≡ false → Leaves act answer older client
leaves (Hello c base) (Ready counter) older client e =
    record { session = λ before. ap (λ b. cond b Open before) e; counter = ap (λ b. cond b base 0) e; ticket = refl; running = λ before. refl; taken = λ transaction own. refl }
leaves (Put c items) (PutBegun stamp rows) older client e =
    record { session = λ before. refl; counter = ap (λ b. cond b (counter_of stamp) 0) e; ticket = ap {B = ℕ} (λ b. cond b 1 0) e; running = λ before. ap (λ b. cond b (begun_as older c (Writes stamp items)) before) e; taken = λ transaction own. refl }
leaves (GetAll c keys) (GetBegun rows) older client e =
    record { session = λ before. refl; counter = refl; ticket = ap {B = ℕ} (λ b. cond b 1 0) e; running = λ before. ap (λ b. cond b (begun_as older c (Gets keys)) before) e; taken = λ transaction own. refl }
leaves (Find c tag) (FindBegun rows) older client e =
    record { session = λ before. refl; counter = refl; ticket = ap {B = ℕ} (λ b. cond b 1 0) e; running = λ before. ap (λ b. cond b (begun_as older c (Finds tag)) before) e; taken = λ transaction own. refl }
leaves (Stop c) Stopped older client e =
    record { session = λ before. ap (λ b. cond b Closed before) e; counter = refl; ticket = refl; running = λ before. ap (λ b. running_after None b client before) e; taken = λ transaction own. refl }
leaves (Deliver row) answer older client e = delivered row answer older client (is_move answer) refl e
leaves act answer older client e = record { session = λ before. refl; counter = refl; ticket = refl; running = λ before. refl; taken = λ transaction own. refl }

pub untouched : (m : Moment) (older : History) (client : ℕ) → touches m.act m.answer older client ≡ false → Untouched m older client
untouched m older client e =
    let l = leaves m.act m.answer older client e in
    record {
      session = l.session (session older client);
      counter = none_gained (counter_gained m.act m.answer older client) (counter older client) l.counter;
      ticket = ap (λ n. n + tickets older client) l.ticket ∙ nothing (tickets older client);
      running = l.running (running older client);
      taken = λ transaction own. taken_same m older transaction (l.taken transaction own);
    }
  where
    none_gained : (gained before : ℕ) → gained ≡ 0 → max gained before ≡ before
    none_gained gained before e = omega (arith, e)

-- ---- answers that leave all clients as they were

quiet_move : (answer : Answer) → is_quiet answer ≡ true → is_move answer ≡ false
quiet_move Wait q = cc
quiet_move _ q = cc

pub quiet_touches : (act : Act) (answer : Answer) (older : History) (client : ℕ) → is_quiet answer ≡ true → touches act answer older client ≡ false
quiet_touches (Hello c base) (Ready counter) older client q = cc
quiet_touches (Put c items) (PutBegun stamp rows) older client q = cc
quiet_touches (GetAll c keys) (GetBegun rows) older client q = cc
quiet_touches (Find c tag) (FindBegun rows) older client q = cc
quiet_touches (Stop c) Stopped older client q = cc
quiet_touches (Deliver row) answer older client q = ap (λ b. b && is_by client (message_at older row)) (quiet_move answer q)
quiet_touches act answer older client q = refl

quiet_gained : (act : Act) (answer : Answer) (older : History) → is_quiet answer ≡ true → client_gained act answer older ≡ 0
quiet_gained (Hello c base) (Ready counter) older q = cc
quiet_gained act answer older q = refl

pub quiet_known : (m : Moment) (older : History) → is_quiet m.answer ≡ true → clients_known (m ∷ older) ≡ clients_known older
quiet_known m older q = let none = quiet_gained m.act m.answer older q in omega (arith, none)
