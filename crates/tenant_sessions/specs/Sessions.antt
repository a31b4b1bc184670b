-- What a tenant's sessions stand for after a history, and what they tell of the next step.
use Rattle.std.specs.Prelude.{◌≡◌, ℕ, ◌≤◌, ◌==◌, List, [], ◌∷◌, Bool, true, false, cond, map, length, All, Option, Some}
use Rattle.std.specs.Prelude.{None, Result, Ok, Err}
use Rattle.stamps.specs.Bounds.{IsClient}
use Rattle.stamps.specs.Limits.{max_keys}
use Rattle.plain_store.specs.declared.answer.Rows.{Rows}
use Rattle.plain_store.specs.declared.answer.Answer.{Answer}
use Rattle.plain_store.specs.declared.answer.Answer.TheVariants.{Refused, Ready, PutBegun, GetBegun, FindBegun, Replied}
use Rattle.plain_store.specs.declared.answer.Answer.TheVariants.{Ignored, Wait, Decided, Done, Ask, BeginsRead, Read}
use Rattle.plain_store.specs.declared.answer.Answer.TheVariants.{Listed, Restart, Ended, Lost, Stopped, Sent, Freed}
use Rattle.plain_store.specs.declared.answer.Answer.TheVariants.{Keeps}
use Rattle.plain_store.specs.declared.message.Message.{Message}
use Rattle.plain_store.specs.declared.refusal.Refusal.{Refusal}
use Rattle.plain_store.specs.declared.step.Act.{Act}
use Rattle.plain_store.specs.declared.step.Act.TheVariants.{Put, Get as GetAll, Find, Deliver}
use Rattle.plain_store.specs.Words.{Setup, IsAct}
use Rattle.plain_store.specs.History.{History, session, NeverOpened, Open, Closed, clients_known, Intent, Writes, Gets}
use Rattle.plain_store.specs.History.{Finds, Transaction, tickets, taken_in, running, counter}
use Rattle.plain_store.specs.Moves.{calls_of}
use Rattle.plain_store.specs.Run.{call_message, next_rows, next_stamp, unanswered, effect, moment_of, run}
use Rattle.tenant_sessions.specs.declared.begin.Beginning.{Beginning}
use Rattle.tenant_sessions.specs.declared.begin.Beginning.TheVariants.{Put as BeginsPut, Get as BeginsGet}
use Rattle.tenant_sessions.specs.declared.begin.Beginning.TheVariants.{Find as BeginsFind}
use Rattle.tenant_sessions.specs.declared.begin.Begin.{Begin}
use Rattle.tenant_sessions.specs.Moves.{Move}
use Rattle.tenant_sessions.specs.declared.running.Running.{Running}
use Rattle.tenant_sessions.specs.declared.session.ClientSession.{ClientSession}
use Rattle.tenant_sessions.specs.Content.{SessionsContent, client_in}
pub use Rattle.tenant_sessions.specs.Moves.{answer_of, sends_calls, ending}
use Rattle.tenant_sessions.specs.Held.{request_begun}
use Rattle.tenant_sessions.specs.Running.{RunningStands, MayBegin}

-- a history that valid steps leave
pub record IsRun (setup : Setup) (history : History) : Type 0 where
  pub acts : List Act
  pub valid : All IsAct acts
  pub is : history ≡ run setup [] acts

-- the client never said hello
abbrev pub IsNew : History → ℕ → Type 0
IsNew history client = session history client ≡ NeverOpened

-- ---- what is waited for

-- the messages of the calls of which a running transaction has taken no reply
unfoldable pub waiting_of : Setup → History → Option Transaction → List Message
waiting_of setup history None = []
waiting_of setup history (Some transaction) =
    map (call_message transaction.client transaction.ticket) (unanswered setup history transaction)

unfoldable pub waiting : Setup → History → ℕ → List Message
waiting setup history client = waiting_of setup history (running history client)

-- ---- answers

-- whether a step that is answered so leaves every session as it was
abbrev pub is_quiet : Answer → Bool
is_quiet (Refused refusal) = true
is_quiet (Replied row reply) = true
is_quiet Ignored = true
is_quiet Lost = true
is_quiet (Sent rows) = true
is_quiet (Freed count) = true
is_quiet (Keeps keep) = true
is_quiet (Ready counter) = false
is_quiet (PutBegun stamp rows) = false
is_quiet (GetBegun rows) = false
is_quiet (FindBegun rows) = false
is_quiet Wait = false
is_quiet (Decided stamp rows) = false
is_quiet (Done stamp) = false
is_quiet (Ask rows) = false
is_quiet (BeginsRead rows) = false
is_quiet (Read readings) = false
is_quiet (Listed readings) = false
is_quiet (Restart key floor) = false
is_quiet (Ended refusal rows) = false
is_quiet Stopped = false

-- what a hello is answered
abbrev pub greeting : Result ℕ Refusal → Answer
greeting (Ok counter) = Ready counter
greeting (Err refusal) = Refused refusal

-- what a stop is answered
abbrev pub stopping : Result (Unit {0}) Refusal → Answer
stopping (Ok done) = Stopped
stopping (Err refusal) = Refused refusal

-- what is answered where so many calls are sent again
abbrev pub resent : ℕ → Rows → Answer
resent count rows = cond (count == 0) (Sent None) (Sent (Some rows))

-- what is answered where a transaction begins, and these rows were sent
abbrev pub kind_answer : Beginning → Rows → Answer
kind_answer (BeginsPut stamp items writes) rows = PutBegun stamp rows
kind_answer (BeginsGet keys) rows = GetBegun rows
kind_answer (BeginsFind tag) rows = FindBegun rows

-- the same of what may begin
abbrev pub begin_answer : Begin → Rows → Answer
begin_answer begin rows = kind_answer begin.kind rows

-- ---- what one client's session begins

-- what may begin is this client's, for this request, and it sends so many calls
pub record IsBeginOf (begin : Begin) (client : ℕ) (request : Intent) (calls : ℕ) : Type 0 where
  pub own : begin.client ≡ client
  pub asked : request_begun begin.kind ≡ request
  pub count : begin.calls ≡ calls

-- ---- sessions

-- the client's transaction that runs, with its ticket, and what is held of it
pub record RunsAs (setup : Setup) (history : History) (client ticket : ℕ) (transaction : Transaction)
    (running : Running) : Type 0 where
  pub own : transaction.client ≡ client
  pub drawn : transaction.ticket ≡ ticket
  pub stands : RunningStands setup transaction.request (taken_in history transaction) running

-- a transaction runs exactly where one is held
abbrev pub MayRun : Setup → History → ℕ → ℕ → Option Transaction → Option Running → Type 0
MayRun setup history client ticket None None = Unit {0}
MayRun setup history client ticket (Some transaction) (Some running) =
    RunsAs setup history client ticket transaction running
MayRun setup history client ticket None (Some running) = ⊥
MayRun setup history client ticket (Some transaction) None = ⊥

-- what is held of a client that said hello
pub record IsKnown (setup : Setup) (history : History) (client : ℕ) (held : ClientSession) : Type 0 where
  pub session : session history client ≡ cond held.is_open Open Closed
  pub counter : held.counter ≡ counter history client
  pub ticket : held.ticket ≡ tickets history client
  pub runs : MayRun setup history client held.ticket (running history client) held.running

-- a client that never said hello
pub record IsUnknown (history : History) (client : ℕ) : Type 0 where
  pub session : session history client ≡ NeverOpened
  pub counter : counter history client ≡ 0
  pub ticket : tickets history client ≡ 0
  pub idle : running history client ≡ None

abbrev pub ClientStands : Setup → History → ℕ → Option ClientSession → Type 0
ClientStands setup history client None = IsUnknown history client
ClientStands setup history client (Some held) = IsKnown setup history client held

-- the sessions of the tenant after its history
pub record StandsFor (setup : Setup) (history : History) (sessions : SessionsContent) : Type 0 where
  pub parts : sessions.parts ≡ setup.partitions
  pub limit : sessions.limit ≡ setup.room.clients
  pub count : clients_known history ≡ length sessions.clients
  pub each : (client : ℕ) → ClientStands setup history client (client_in sessions client)

-- ---- a transaction that may begin

-- the act that begins a transaction
abbrev pub act_for : ℕ → Intent → Act
act_for client (Writes stamp items) = Put client items
act_for client (Gets keys) = GetAll client keys
act_for client (Finds tag) = Find client tag

-- a write has its client's next stamp
abbrev pub HasNextStamp : History → ℕ → Intent → Type 0
HasNextStamp history client (Writes stamp items) = stamp ≡ next_stamp history client
HasNextStamp history client (Gets keys) = Unit {0}
HasNextStamp history client (Finds tag) = Unit {0}

-- no test of the act fails, and what begins is the act's transaction
pub record IsBegin (setup : Setup) (history : History) (act : Act) (begin : Begin) : Type 0 where
  pub request : Intent
  pub asked : act ≡ act_for begin.client request
  pub kind : request_begun begin.kind ≡ request
  pub fits : MayBegin request
  pub calls : begin.calls ≡ length (calls_of setup false request [])
  pub stamp : HasNextStamp history begin.client request
  pub client : IsClient begin.client
  pub session : session history begin.client ≡ Open
  pub idle : running history begin.client ≡ None
  pub effect : moment_of setup history act ≡ effect setup history act

-- ---- a reply that is handed to its client

-- the sessions answer the delivery of the row's reply as the history does, tell what it sends,
-- and stand for the history with it
pub record IsTaken (setup : Setup) (history : History) (row : ℕ) (message : Message) (move : Move)
    (new : SessionsContent) : Type 0 where
  pub answer : (effect setup history (Deliver row)).answer
      ≡ answer_of move (next_rows history (length (effect setup history (Deliver row)).sent))
  pub sent : (effect setup history (Deliver row)).sent
      ≡ cond (sends_calls move) (waiting setup (effect setup history (Deliver row) ∷ history) message.client)
      (map (call_message message.client message.ticket) (ending move))
  pub few : length (effect setup history (Deliver row)).sent ≤ max_keys
  pub stands : StandsFor setup (effect setup history (Deliver row) ∷ history) new
