-- What each tenant can rely on, whatever the others do.
use Rattle.std.specs.Prelude.{◌≡◌, ◌⊎◌, ℕ, ◌≤◌, List, length, ◌++◌, take, slice_get, Some, IsSome, Result, IfOk}
use Rattle.std.specs.FinMap.{get}
use Rattle.stamps.specs.Limits.{max_parts}
use Rattle.plain_store.specs.Words.{◌∈◌, Stamp, Record, Setup, setup_of}
use Rattle.plain_store.specs.declared.calls.Call.TheVariants.{Discard}
use Rattle.plain_store.specs.declared.step.Act.{Act}
use Rattle.plain_store.specs.declared.step.Act.TheVariants.{Deliver}
use Rattle.plain_store.specs.declared.answer.Answer.{Answer}
use Rattle.plain_store.specs.declared.answer.Answer.TheVariants.{Refused, Ignored}
use Rattle.plain_store.specs.declared.refusal.Refusal.TheVariants.{RowsUsed}
use Rattle.plain_store.specs.declared.message.Message.{Message}
use Rattle.plain_store.specs.declared.step.Step.{Step}
use Rattle.stamps.specs.declared.bounds.Limits.{Limits}
use Rattle.plain_store.specs.declared.out_of_memory.OutOfMemory.{OutOfMemory}
use Rattle.plain_store.specs.History.{History, Transaction, transactions, decided, message_at, log_at}
use Rattle.plain_store.specs.Log.{kept}
use Rattle.plain_store.specs.Marks.{discarded}
use Rattle.plain_store.specs.Run.{answer_to, answers, sent_by}
use Rattle.plain_store.specs.Tenants.{only, own}
use Rattle.plain_store.specs.Laws.{IsFalse, IsAtomicAnswer, IsFreshAnswer, IsRightRestart, IsAtHome, IsTakenBack}
use Rattle.plain_store.specs.Newest.{IsNewestAnswer}
use Rattle.plain_store.specs.Told.{IsToldAnswer, IsIgnoredAnswer}
use Rattle.plain_store.specs.Partitions.{IsPartitionsAnswer, IsFullAnswer}
use Rattle.plain_store.specs.Counts.{WasRetried, SendsOnce}
use Rattle.world.specs.declared.tenant.Tenant.{Tenant}
use Rattle.world.specs.Content.{WorldContent, parts_of, limits_of}
use Rattle.world.specs.Standing.{history_of, StandsFor}

-- a reply to a DISCARD that is delivered is ignored, unless the rows are used up; nothing is said of other steps
abbrev pub IsDiscardIgnored : History → Act → Answer → Type 0
IsDiscardIgnored history (Deliver row) answer =
    (message : Message) (stamp : Stamp) → message_at history row ≡ Some message → message.call ≡ Discard stamp
    → IsSome message.reply → (answer ≡ Ignored) ⊎ (answer ≡ Refused RowsUsed)
IsDiscardIgnored history act answer = Unit {0}

-- what is promised of the answer to an act, in the light of what its tenant was asked before
pub record IsPromised (setup : Setup) (history : History) (act : Act) (answer : Answer) : Type 0 where
  -- the answer is the one that its tenant's own steps give
  pub alone : answer ≡ answer_to setup history act
  -- what is read or listed is read atomic
  pub atomic : IsAtomicAnswer history act answer
  -- no version is unknown, no write clashes, and no reply is inconsistent
  pub truthful : IsFalse answer → ⊥
  -- who begins to read after a write was done reads nothing older at the keys that it wrote
  pub fresh : IsFreshAnswer history act answer
  -- who read keys first puts above all that was done at them before it began to read
  pub newest : IsNewestAnswer history act answer
  -- a reader restarts only where its partition's floor rose above the stamp that it asked for
  pub restarts : IsRightRestart setup history act answer
  -- what a reader gets rests on the replies that it took, each its partition's reply to a call of its own
  pub told : IsToldAnswer setup history act answer
  -- a reply is ignored only where its transaction does not run, or took one in its place
  pub ignored : IsIgnoredAnswer history act answer
  -- what a partition answers is the reply after its own log
  pub served : IsPartitionsAnswer setup history act answer
  -- want of slots or items is answered only where the tenant's own cell is full
  pub full : IsFullAnswer setup history act answer
  -- a put that ends for want of slots or items sends one DISCARD to each home of its keys, and nothing else
  pub taken_back : IsTakenBack setup history act answer
  -- and no transaction is waiting for the replies to these
  pub discard_ignored : IsDiscardIgnored history act answer
  -- no more messages are sent than there may be partitions
  pub rows : length (sent_by setup history act) ≤ max_parts

-- so is the answer to a step that follows these, in the light of its own tenant's
abbrev pub IsPromisedAfter : ℕ → List Limits → List Step → Step → Answer → Type 0
IsPromisedAfter partitions limits before step answer =
    (its : Limits) → slice_get limits step.tenant ≡ Some its
    → IsPromised (setup_of partitions its) (history_of (setup_of partitions its) step.tenant before) step.act answer

-- so is what a step is answered, whatever steps the world stood for
abbrev pub StepIsPromised : WorldContent → Step → Result Answer OutOfMemory → Type 0
StepIsPromised world step result =
    IfOk result (λ answer. (before : List Step) → StandsFor world before
    → IsPromisedAfter (parts_of world) (limits_of world) before step answer)

-- what is promised of the answers to steps that follow these, of which there may be fewer than steps
pub record ArePromised (partitions : ℕ) (limits : List Limits) (before steps : List Step)
    (told : List Answer) : Type 0 where
  -- each tenant is answered as if its own steps were all
  pub alone : (tenant : ℕ) (its : Limits) → slice_get limits tenant ≡ Some its
      → (let setup = setup_of partitions its in
      let answered = take (length told) steps in
      own tenant answered told ≡ answers setup (history_of setup tenant before) (only tenant answered))
  -- each answer is promised after the steps before it
  pub each : (n : ℕ) (step : Step) (answer : Answer) → slice_get steps n ≡ Some step → slice_get told n ≡ Some answer
      → IsPromisedAfter partitions limits (before ++ take n steps) step answer

-- what is promised of the calls that a world holds, which stands for these steps
pub record AreCallsOf (world : WorldContent) (steps : List Step) : Type 0 where
  -- each message is of a call that its transaction makes, and goes to the home of that call's key
  pub home : (number : ℕ) (tenant : Tenant) (row : ℕ) (message : Message)
      → slice_get world.tenants number ≡ Some tenant → get tenant.table.live row ≡ Some message
      → (let setup = setup_of (parts_of world) tenant.limits in
      IsAtHome setup (history_of setup number steps) message)
  -- no stamp that was decided is discarded
  pub undecided : (number : ℕ) (tenant : Tenant) (row : ℕ) (message : Message) (stamp : Stamp)
      → slice_get world.tenants number ≡ Some tenant → get tenant.table.live row ≡ Some message
      → message.call ≡ Discard stamp
      → stamp ∈ decided (history_of (setup_of (parts_of world) tenant.limits) number steps) → ⊥
  -- once a DISCARD of a stamp counted at a partition, no version of the stamp is kept there
  pub dropped : (number : ℕ) (tenant : Tenant) (partition : ℕ) (stamp : Stamp) (version : Record)
      → slice_get world.tenants number ≡ Some tenant
      → (let setup = setup_of (parts_of world) tenant.limits in
      let log = log_at setup (history_of setup number steps) partition in
      stamp ∈ discarded log → version ∈ kept log → version.stamp ≡ stamp → ⊥)
  -- a put that was not retried sends one PREPARE for each item and at most one COMMIT and one DISCARD to each
  -- partition, and a get at most two GETs of each key
  pub few : (number : ℕ) (tenant : Tenant) (transaction : Transaction) → slice_get world.tenants number ≡ Some tenant
      → (let history = history_of (setup_of (parts_of world) tenant.limits) number steps in
      transaction ∈ transactions history → (WasRetried history transaction → ⊥)
      → SendsOnce history transaction transaction.request)
