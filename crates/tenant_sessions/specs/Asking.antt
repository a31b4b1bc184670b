-- What the calls that begin a transaction, put a call and take a reply ask for, and what they promise.
use Rattle.std.specs.Prelude.{◌≡◌, ◌≢◌, ℕ, ◌+◌, ◌≤◌, Bool, true, false, is_some, List, []}
use Rattle.std.specs.Prelude.{Some, None, Result, Ok, Err, IfOk, IfErr, OnOk, OnErr, IsSome}
use Rattle.std.specs.Prelude.{cond, length, slice_get}
use Rattle.stamps.specs.Limits.{max_parts}
use Rattle.plain_store.specs.declared.answer.Answer.TheVariants.{Refused}
use Rattle.plain_store.specs.declared.message.Message.{Message}
use Rattle.plain_store.specs.declared.reading.Reading.{Reading}
use Rattle.plain_store.specs.declared.refusal.Refusal.{Refusal}
use Rattle.plain_store.specs.declared.step.Act.{Act}
use Rattle.plain_store.specs.History.{History, Intent, message_at, moment}
use Rattle.plain_store.specs.Run.{moment_of, rows_are_used}
use Rattle.plain_store.specs.Words.{Setup}
use Rattle.plain_store.specs.Writing.{Outgoing}
use Rattle.tenant_sessions.specs.declared.begin.Begin.{Begin}
use Rattle.tenant_sessions.specs.declared.moves.MoveKind.{MoveKind}
use Rattle.tenant_sessions.specs.declared.moves.MoveKind.TheVariants.{Ignored}
use Rattle.tenant_sessions.specs.declared.running.Running.{Running}
use Rattle.tenant_sessions.specs.declared.session.ClientSession.{ClientSession}
use Rattle.tenant_sessions.specs.Begins.{HasBegun}
use Rattle.tenant_sessions.specs.Content.{SessionsContent}
use Rattle.tenant_sessions.specs.CallsLeft.{calls_left, calls_sent, calls_waiting}
use Rattle.tenant_sessions.specs.Held.{TakesReply}
use Rattle.tenant_sessions.specs.Moves.{Move, moved, is_last}
use Rattle.tenant_sessions.specs.Parts.{outgoing_of}
use Rattle.tenant_sessions.specs.Running.{IsReplyTo, RunningStands, is_reply_of}
use Rattle.tenant_sessions.specs.Sessions.{IsBegin, IsBeginOf, IsRun, IsTaken, StandsFor}
use Rattle.tenant_sessions.specs.Sending.{SendsSo, waiting_of}
use Rattle.tenant_sessions.specs.Showing.{IsShown, Shows}

-- ---- what they promise

-- The call at this place, where one stands there, was put over a message, of which nothing but the partition and the call
-- changed.
pub record PutsCall (calls : List Outgoing) (place : ℕ) (is_put : Bool) (old new : Message) : Type 0 where
  pub told : cond is_put (Some (outgoing_of new)) None ≡ slice_get calls place
  pub rest : new ≡ record old { partition = new.partition; call = new.call }
  pub unchanged : is_put ≡ false → new ≡ old

-- These calls are waited for, where they are as many as there may be; whatever they are, no more than so many.
pub record Awaits (sent : List Outgoing) (most : ℕ) (waiting : List Outgoing) : Type 0 where
  pub calls : length sent ≤ max_parts → waiting ≡ sent
  pub few : length waiting ≤ most

-- what may begin is this request's transaction, which sends so many calls first; it is refused for what the test reports
pub record BeginsIf (test : Result (Unit {0}) Refusal) (client : ℕ) (request : Intent) (calls : ℕ)
    (result : Result Begin Refusal)
    : Type 0 where
  pub refused : IfErr result (λ refusal. test ≡ Err refusal)
  pub passed : IfOk result (λ begin. test ≡ Ok tt)
  pub begun : IfOk result (λ begin. IsBeginOf begin client request calls)

-- the request's transaction began, in a store of so many partitions; where the test reports a refusal, nothing changed
pub record StartsIf (test : Result (Unit {0}) Refusal) (parts : ℕ) (request : Intent) (old new : ClientSession)
    (result : Result (Unit {0}) Refusal) : Type 0 where
  pub refused : IfErr result (λ refusal. test ≡ Err refusal)
  pub unchanged : OnErr result (new ≡ old)
  pub passed : OnOk result (test ≡ Ok tt)
  pub begun : OnOk result (HasBegun parts request old new)
  pub still_open : new.is_open ≡ old.is_open

-- What a session does when a message comes. Where no transaction runs, where the message's ticket is another one, and
-- where its reply is of another kind than its call, it ignores it, and nothing changes. A reply to what runs is taken
-- as the plain store takes it. Whatever the message is: what runs is forgotten where the answer ends it, and else goes
-- on; what is answered was shown by the replies, what is sent with it and may be asked for after it is no more than
-- what might be before, and a write that is decided sends COMMITs of its stamp and a read GETs.
pub record TakesIn (message : Message) (old : ClientSession) (kind : MoveKind) (readings : List Reading)
    (new : ClientSession)
    : Type 0 where
  pub idle : old.running ≡ None → (kind ≡ Ignored) × (new ≡ old)
  pub late : message.ticket ≢ old.ticket → (kind ≡ Ignored) × (new ≡ old)
  pub foreign : is_reply_of message.call message.reply ≡ false → (kind ≡ Ignored) × (new ≡ old)
  pub ended : is_last (moved kind readings) ≡ true → new.running ≡ None
  pub goes_on : is_last (moved kind readings) ≡ false → is_some new.running ≡ is_some old.running
  pub taken : (setup : Setup) (request : Intent) (taken : List Message) (running : Running) → message.ticket ≡ old.ticket
      → old.running ≡ Some running → RunningStands setup request taken running → IsReplyTo setup request taken message
      → TakesReply setup request taken message old (moved kind readings) new
  pub shown : (setup : Setup) (request : Intent) (taken : List Message) → IsShown setup request taken old.running
      → Shows setup request taken message (moved kind readings) (λ replies. IsShown setup request replies new.running)
  pub calls : calls_sent (moved kind readings) (calls_waiting new.running) + calls_left new.running ≤ calls_left old.running
  pub sent : SendsSo (moved kind readings) (waiting_of new.running)
  pub counter : old.counter ≤ new.counter
  pub still_open : new.is_open ≡ old.is_open

-- ---- what the sessions of a tenant promise

-- this holds after each run that they stand for
abbrev pub AfterItsRun : SessionsContent → (Setup → History → Type 0) → Type 0
AfterItsRun sessions P =
    (setup : Setup) (history : History) → IsRun setup history → StandsFor setup history sessions → P setup history

-- or after each that left rows
abbrev pub WithRowsLeft : SessionsContent → (Setup → History → Type 0) → Type 0
WithRowsLeft sessions P =
    (setup : Setup) (history : History) → IsRun setup history → StandsFor setup history sessions
    → rows_are_used history ≡ false → P setup history

-- the plain store refuses the act so
abbrev pub IsRefused : Setup → History → Act → Refusal → Type 0
IsRefused setup history act refusal = moment_of setup history act ≡ moment act (Refused refusal) []

-- what may begin is the act's transaction; where none may, the plain store refuses the act so
pub record BeginsAct (act : Act) (sessions : SessionsContent) (result : Result Begin Refusal) : Type 0 where
  pub refused : WithRowsLeft sessions (λ setup history. IfErr result (λ refusal. IsRefused setup history act refusal))
  pub ready : WithRowsLeft sessions (λ setup history. IfOk result (λ begin. IsBegin setup history act begin))

-- the reply in a row is taken as the plain store takes its delivery
abbrev pub TakesRow : Message → SessionsContent → Move → SessionsContent → Type 0
TakesRow message old move new =
    (setup : Setup) (history : History) (row : ℕ) → IsRun setup history → StandsFor setup history old
    → message_at history row ≡ Some message → IsSome message.reply → IsTaken setup history row message move new
