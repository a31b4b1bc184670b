-- What sessions stand for after a step: for `Sessions::hello` and `stop`.
use Rattle.std.proofs.Common.{◌≡◌, ℕ, ◌+◌, ◌<◌, ◌≤◌, max, List, [], ◌∷◌, Bool, true, false, ◌&&◌, ◌==◌, nat_eq, refl, sym, ap, ◌∙◌, subst, cond, length, Option, Some, None, arith, eqb-true, eq-eqb}
use Rattle.std.specs.Prelude.{Result, Ok, Err, nat_le}
use Rattle.std.proofs.lemmas.Bool.{leb-true, leb-false}
use Rattle.plain_store.specs.declared.answer.Answer.{Answer}
use Rattle.plain_store.specs.declared.answer.Answer.TheVariants.{Refused, Ready, Stopped}
use Rattle.plain_store.specs.declared.message.Message.{Message}
use Rattle.plain_store.specs.declared.refusal.Refusal.{Refusal}
use Rattle.plain_store.specs.declared.refusal.Refusal.TheVariants.{NoSession, Busy, Stopped as IsStopped, ClientsFull, OutOfMemory}
use Rattle.plain_store.specs.declared.step.Act.{Act}
use Rattle.plain_store.specs.declared.step.Act.TheVariants.{Hello, Stop}
use Rattle.plain_store.specs.Words.{Setup}
use Rattle.plain_store.specs.History.{Moment, moment, History, Session, Open, Closed, session, is_new, is_open, clients_known, Transaction, tickets, running_after, running, counter}
use Rattle.plain_store.specs.Run.{effect, moment_of}
use Rattle.tenant_sessions.specs.declared.running.Running.{Running}
use Rattle.tenant_sessions.specs.declared.session.ClientSession.{ClientSession}
use Rattle.tenant_sessions.specs.Content.{SessionsContent, client_in, HoldsSession, IsAdded}
use Rattle.tenant_sessions.specs.Held.{test_open}
use Rattle.tenant_sessions.specs.Sessions.{is_quiet, greeting, stopping, MayRun, IsKnown, ClientStands, StandsFor}
use Rattle.tenant_sessions.proofs.Untouched.{Untouched, taken_same, runs_still, still_stands, quiet_touches, quiet_known, untouched, nothing}
use Rattle.tenant_sessions.proofs.Refusing.{known_of, unknown_of, is_passed, comes_of, comes_to, refused_unknown, by_known}

-- ---- one client's session changes

-- where all others stand as before, the sessions stand for the newer history
pub stands_with : (setup : Setup) (older newer : History) (old new : SessionsContent) (client : ℕ) (held : ClientSession) → StandsFor setup older old → HoldsSession old new client held → clients_known newer ≡ length new.clients
    → ((other : ℕ) → nat_eq client other ≡ false → (o : Option ClientSession) → ClientStands setup older other o → ClientStands setup newer other o) → IsKnown setup newer client held → StandsFor setup newer new
stands_with setup older newer old new client held stands holds count others known = record {
  parts = holds.parts ∙ stands.parts;
  limit = holds.limit ∙ stands.limit;
  count = count;
  each = λ other. subst (λ (o : Option ClientSession). ClientStands setup newer other o) (sym (holds.each other)) (go other (nat_eq client other) refl);
}
  where
    go : (other : ℕ) (b : Bool) → nat_eq client other ≡ b → ClientStands setup newer other (cond b (Some held) (client_in old other))
    go other true e = subst (λ c. IsKnown setup newer c held) (eqb-true client other e) known
    go other false e = others other e (client_in old other) (stands.each other)

-- a step that is the client's own
pub stands_after : (setup : Setup) (m : Moment) (older : History) (old new : SessionsContent) (client : ℕ) (held : ClientSession) → StandsFor setup older old → HoldsSession old new client held
    → clients_known (m ∷ older) ≡ length new.clients → ((other : ℕ) → nat_eq client other ≡ false → Untouched m older other) → IsKnown setup (m ∷ older) client held → StandsFor setup (m ∷ older) new
stands_after setup m older old new client held stands holds count others =
    stands_with setup older (m ∷ older) old new client held stands holds count (λ other apart o. still_stands setup m older other o (others other apart))

-- what holds the same stands for the same
pub same_stands : (setup : Setup) (history : History) (old new : SessionsContent) (client : ℕ) (held : ClientSession) → StandsFor setup history old → client_in old client ≡ Some held → HoldsSession old new client held → length new.clients ≡ length old.clients
    → StandsFor setup history new
same_stands setup history old new client held stands at holds same =
    stands_with setup history history old new client held stands holds (stands.count ∙ sym same) (λ other apart o is. is) (known_of setup history old client held stands at)

-- a step that leaves every session as it was
pub quiet_moment : (setup : Setup) (history : History) (sessions : SessionsContent) (m : Moment) → StandsFor setup history sessions → is_quiet m.answer ≡ true → StandsFor setup (m ∷ history) sessions
quiet_moment setup history sessions m stands q = record {
  parts = stands.parts;
  limit = stands.limit;
  count = quiet_known m history q ∙ stands.count;
  each = λ client. still_stands setup m history client (client_in sessions client) (untouched m history client (quiet_touches m.act m.answer history client q)) (stands.each client);
}

-- the same for a moment by its parts
pub quiet : (setup : Setup) (history : History) (sessions : SessionsContent) (act : Act) (answer : Answer) (sent : List Message) → StandsFor setup history sessions → is_quiet answer ≡ true → StandsFor setup (moment act answer sent ∷ history) sessions
quiet setup history sessions act answer sent = quiet_moment setup history sessions (moment act answer sent)

pub own_client : (client : ℕ) → (client == client) ≡ true
own_client client = eq-eqb client client refl

-- ---- hello

-- the step is as it is answered, and the sessions stand for it
abbrev pub Greets : Setup → History → ℕ → ℕ → Result ℕ Refusal → SessionsContent → Type 0
Greets setup history client base result new =
    (moment_of setup history (Hello client base) ≡ moment (Hello client base) (greeting result) []) × StandsFor setup (moment (Hello client base) (greeting result) [] ∷ history) new

-- what its tests come to, by the client's session
abbrev by_hello : Setup → History → Session → Result (Unit {0}) Refusal
by_hello setup history s = cond (is_open s) (Err Busy) (cond (is_new s && nat_le setup.room.clients (clients_known history)) (Err ClientsFull) is_passed)

module _ (setup : Setup) (history : History) (client base : ℕ) where
  hello_is : effect setup history (Hello client base) ≡ moment (Hello client base) (Ready (max (counter history client) base)) []
  unfolding effect
  hello_is = refl

  hello_ready : (answer : ℕ) → by_hello setup history (session history client) ≡ is_passed → answer ≡ max (counter history client) base → moment_of setup history (Hello client base) ≡ moment (Hello client base) (Ready answer) []
  hello_ready answer passed is = comes_to setup history (Hello client base) is_passed passed ∙ hello_is ∙ ap (λ n. moment (Hello client base) (Ready n) []) (sym is)

  hello_refused : (why : Refusal) (sessions : SessionsContent) → StandsFor setup history sessions → by_hello setup history (session history client) ≡ Err why → Greets setup history client base (Err why) sessions
  hello_refused why sessions stands is = (comes_to setup history (Hello client base) (Err why) is, quiet setup history sessions (Hello client base) (Refused why) [] stands refl)

  -- the client's session is opened
  hello_opens : (old new : SessionsContent) (n answer ticket : ℕ) (held : Option Running) → StandsFor setup history old → by_hello setup history (session history client) ≡ is_passed
      → n ≡ max base (counter history client) → answer ≡ max (counter history client) base → ticket ≡ tickets history client → MayRun setup history client ticket (running history client) held
      → HoldsSession old new client (record { is_open = true; counter = n; ticket = ticket; running = held }) → cond (is_new (session history client)) 1 0 + length old.clients ≡ length new.clients
      → Greets setup history client base (Ok answer) new
  hello_opens old new n answer ticket held stands passed counted told drawn runs holds count = (
    hello_ready answer passed told,
    stands_after setup m history old new client _ stands holds (ap (λ k. cond (is_new (session history client)) 1 0 + k) stands.count ∙ count) (λ other apart. untouched m history other apart) (record {
      session = ap (λ b. cond b Open (session history client)) (own_client client);
      counter = counted ∙ sym (ap (λ b. max (cond b base 0) (counter history client)) (own_client client));
      ticket = drawn ∙ sym (nothing (tickets history client));
      runs = runs_still setup m history client ticket (running history client) held (λ transaction own. taken_same m history transaction refl) runs;
    }),
  )
    where
      m : Moment
      m = moment (Hello client base) (Ready answer) []

  -- a client that said hello before
  pub hello_held : (old new : SessionsContent) (held after : ClientSession) (result : Result ℕ Refusal) → StandsFor setup history old → client_in old client ≡ Some held → HoldsSession old new client after
      → length new.clients ≡ length old.clients → result ≡ cond held.is_open (Err Busy) (Ok (max held.counter base))
      → after ≡ cond held.is_open held (record { is_open = true; counter = max base held.counter; ticket = held.ticket; running = held.running }) → Greets setup history client base result new
  hello_held old new held after result stands at holds same told is =
      subst (λ r. Greets setup history client base r new) (sym told) (go held.is_open refl (subst (λ (h : ClientSession). HoldsSession old new client h) is holds))
    where
      known : IsKnown setup history client held
      known = known_of setup history old client held stands at

      by : (b : Bool) → held.is_open ≡ b → session history client ≡ cond b Open Closed
      by b e = known.session ∙ ap (λ c. cond c Open Closed) e

      go : (b : Bool) → held.is_open ≡ b → HoldsSession old new client (cond b held (record { is_open = true; counter = max base held.counter; ticket = held.ticket; running = held.running }))
          → Greets setup history client base (cond b (Err Busy) (Ok (max held.counter base))) new
      go true e h = hello_refused Busy new (same_stands setup history old new client held stands at h same) (ap (by_hello setup history) (by true e))
      go false e h =
          hello_opens old new _ (max held.counter base) held.ticket held.running stands (ap (by_hello setup history) (by false e)) (ap (max base) known.counter) (ap (λ n. max n base) known.counter) known.ticket known.runs h
          (ap (λ s. cond (is_new s) 1 0 + length old.clients) (by false e) ∙ nothing (length old.clients) ∙ sym same)

  -- the tests of a hello of a new client
  new_tested : (sessions : SessionsContent) (b : Bool) → StandsFor setup history sessions → client_in sessions client ≡ None → nat_le sessions.limit (length sessions.clients) ≡ b
      → by_hello setup history (session history client) ≡ cond b (Err ClientsFull) is_passed
  new_tested sessions b stands at full =
      ap (by_hello setup history) (unknown_of setup history sessions client stands at).session
      ∙ ap (λ c. cond c (Err ClientsFull) is_passed) ((λ i. nat_le (sym stands.limit i) (stands.count i)) ∙ full)

  -- a new client
  pub hello_added : (old mid new : SessionsContent) (result : Result ℕ Refusal) → StandsFor setup history old → client_in old client ≡ None → mid ≡ old
      → (mid.limit ≤ length mid.clients → (result ≡ Err ClientsFull) × (new ≡ mid))
      → (client_in mid client ≡ None → length mid.clients < mid.limit → (result ≡ Err OutOfMemory → ⊥) → (result ≡ Ok base) × IsAdded mid new client (record { is_open = true; counter = base; ticket = 0; running = None }))
      → (result ≡ Err OutOfMemory → ⊥) → Greets setup history client base result new
  hello_added old mid new result stands at same full added memory = go (nat_le mid.limit (length mid.clients)) refl (subst Fresh (sym same) (stands, at))
    where
      Fresh : SessionsContent → Type 0
      Fresh c = StandsFor setup history c × (client_in c client ≡ None)

      go : (b : Bool) → nat_le mid.limit (length mid.clients) ≡ b → StandsFor setup history mid × (client_in mid client ≡ None) → Greets setup history client base result new
      go true e (s, none) =
          let f = full (leb-true mid.limit (length mid.clients) e) in
          subst (λ r. Greets setup history client base r new) (sym f.0) (hello_refused ClientsFull new (subst (λ (c : SessionsContent). StandsFor setup history c) (sym f.1) s) (new_tested mid true s none e))
      go false e (s, none) =
          let a = added none (leb-false mid.limit (length mid.clients) e) memory in
          let unknown = unknown_of setup history mid client s none in
          let zero : counter history client ≡ 0 = unknown.counter in
          subst (λ r. Greets setup history client base r new) (sym a.0)
          (hello_opens mid new base base 0 None s (new_tested mid false s none e) (omega (arith, zero)) (omega (arith, zero)) (sym unknown.ticket)
          (subst (λ (o : Option Transaction). MayRun setup history client 0 o None) (sym unknown.idle) tt) a.1.holds
          (ap (λ s. cond (is_new s) 1 0 + length mid.clients) unknown.session ∙ (let more = a.1.count in omega (arith, more))))

  -- a new client whose place was refused passed the tests
  pub hello_unplaced : (old mid new : SessionsContent) (result : Result ℕ Refusal) → StandsFor setup history old → client_in old client ≡ None → mid ≡ old
      → (mid.limit ≤ length mid.clients → (result ≡ Err ClientsFull) × (new ≡ mid)) → result ≡ Err OutOfMemory → moment_of setup history (Hello client base) ≡ moment (Hello client base) (Ready base) []
  hello_unplaced old mid new result stands at same full memory = go (nat_le mid.limit (length mid.clients)) refl
    where
      go : (b : Bool) → nat_le mid.limit (length mid.clients) ≡ b → moment_of setup history (Hello client base) ≡ moment (Hello client base) (Ready base) []
      go true e =
          let f = full (leb-true mid.limit (length mid.clients) e) in
          let both : Err ClientsFull ≡ Err OutOfMemory = sym f.0 ∙ memory in
          absurd cc
      go false e =
          let zero : counter history client ≡ 0 = (unknown_of setup history old client stands at).counter in
          hello_ready base (new_tested old false stands at (ap (λ (c : SessionsContent). nat_le c.limit (length c.clients)) (sym same) ∙ e)) (omega (arith, zero))

-- ---- stop

-- the step is as it is answered, and the sessions stand for it
abbrev pub Stops : Setup → History → ℕ → Result (Unit {0}) Refusal → SessionsContent → Type 0
Stops setup history client result new =
    (moment_of setup history (Stop client) ≡ moment (Stop client) (stopping result) []) × StandsFor setup (moment (Stop client) (stopping result) [] ∷ history) new

pub stop_unknown : (setup : Setup) (history : History) (sessions : SessionsContent) (client : ℕ) → StandsFor setup history sessions → client_in sessions client ≡ None → Stops setup history client (Err NoSession) sessions
stop_unknown setup history sessions client stands at =
    (refused_unknown setup history sessions (Stop client) client false is_passed stands at refl refl, quiet setup history sessions (Stop client) (Refused NoSession) [] stands refl)

stop_is : (setup : Setup) (history : History) (client : ℕ) → effect setup history (Stop client) ≡ moment (Stop client) Stopped []
unfolding effect
stop_is setup history client = refl

-- a client whose session is closed, or was
pub stop_held : (setup : Setup) (history : History) (old new : SessionsContent) (client : ℕ) (held after : ClientSession) (result : Result (Unit {0}) Refusal) → StandsFor setup history old → client_in old client ≡ Some held → HoldsSession old new client after
    → length new.clients ≡ length old.clients → result ≡ test_open held → after ≡ cond held.is_open (record { is_open = false; counter = held.counter; ticket = held.ticket; running = None }) held → Stops setup history client result new
stop_held setup history old new client held after result stands at holds same told is =
    subst (λ r. Stops setup history client r new) (sym told) (go held.is_open refl (subst (λ (h : ClientSession). HoldsSession old new client h) is holds))
  where
    m : Moment
    m = moment (Stop client) Stopped []

    known : IsKnown setup history client held
    known = known_of setup history old client held stands at

    ended : running (m ∷ history) client ≡ None
    ended = ap (λ b. running_after None b client (running history client)) (own_client client)

    least : (n : ℕ) → max 0 n ≡ n
    least n = omega arith

    tested : (b : Bool) → held.is_open ≡ b → moment_of setup history (Stop client) ≡ comes_of (Stop client) (effect setup history (Stop client)) (cond b is_passed (Err IsStopped))
    tested b e = comes_to setup history (Stop client) (cond b is_passed (Err IsStopped)) (by_known setup history client held false is_passed known refl ∙ ap (λ c. cond c is_passed (Err IsStopped)) e)

    go : (b : Bool) → held.is_open ≡ b → HoldsSession old new client (cond b (record { is_open = false; counter = held.counter; ticket = held.ticket; running = None }) held) → Stops setup history client (cond b (Ok tt) (Err IsStopped)) new
    go true e h = (
      tested true e ∙ stop_is setup history client,
      stands_after setup m history old new client _ stands h (nothing (clients_known history) ∙ stands.count ∙ sym same) (λ other apart. untouched m history other apart) (record {
        session = ap (λ b. cond b Closed (session history client)) (own_client client);
        counter = known.counter ∙ sym (least (counter history client));
        ticket = known.ticket ∙ sym (nothing (tickets history client));
        runs = subst (λ (o : Option Transaction). MayRun setup (m ∷ history) client held.ticket o None) (sym ended) tt;
      }),
    )
    go false e h = (tested false e, quiet setup history new (Stop client) (Refused IsStopped) [] (same_stands setup history old new client held stands at h same) refl)
