-- Steps that leave every partition's log as it was: for `Tenant::deliver` and `Tenant::step`.
use Rattle.std.proofs.Common.{◌≡◌, ℕ, ◌+◌, length, List, [], ◌∷◌, ◌++◌, Bool, true, false, refl, cond, map, Option, Some, None}
use Rattle.plain_store.specs.declared.answer.Rows.{Rows}
use Rattle.plain_store.specs.declared.answer.Answer.TheVariants.{PutBegun, GetBegun, FindBegun, Decided, Ask, BeginsRead, Sent, Ended, Refused, Ignored}
use Rattle.plain_store.specs.declared.step.Act.{Act}
use Rattle.plain_store.specs.declared.step.Act.TheVariants.{Put, Get as GetAll, Find, Deliver, Retry, Collect as CollectAt}
use Rattle.plain_store.specs.declared.answer.Answer.{Answer}
use Rattle.plain_store.specs.declared.refusal.Refusal.{Refusal}
use Rattle.plain_store.specs.Words.{Setup}
use Rattle.plain_store.specs.declared.message.Message.{Message}
use Rattle.plain_store.specs.History.{Intent, Writes, Gets, Finds, tickets, Moment, moment, History, keep_in, collection, log_at, Transaction, running, taken_in}
use Rattle.plain_store.specs.Writing.{Outgoing}
use Rattle.plain_store.specs.Moves.{Move, Decides, Asks, Begins, Fails, move_of, calls_of}
use Rattle.plain_store.proofs.FreshLogs.{no_replies}
use Rattle.plain_store.proofs.StepEffects.{after}
use Rattle.plain_store.specs.Run.{begins, next_rows, next_stamp, call_message, tests, effect, moment_of, moves, takes, is_wanted, unanswered, resends, retries}

-- the moment adds nothing to the partition's log
abbrev pub IsSilent : Setup → History → ℕ → Moment → Type 0
IsSilent setup history partition m = log_at setup (m ∷ history) partition ≡ log_at setup history partition

-- the acts of clients' sessions, the loss of messages, and what sets how many versions collections keep
abbrev pub IsOffShelf : Act → Type 0
IsOffShelf (Deliver row) = ⊥
IsOffShelf (CollectAt p) = ⊥
IsOffShelf act = Unit {0}

module _ (setup : Setup) (history : History) (partition : ℕ) where
  sends_silent : (act : Act) (answer : Answer) (client ticket : ℕ) (calls : List Outgoing) → collection (keep_in setup history) partition act answer ≡ []
      → IsSilent setup history partition (moment act answer (map (call_message client ticket) calls))
  sends_silent act answer client ticket calls none = λ i. none i ++ (no_replies partition client ticket calls i ++ log_at setup history partition)

  no_collection : (act : Act) (why : Refusal) → collection (keep_in setup history) partition act (Refused why) ≡ []
  no_collection (CollectAt partition) why = refl
  no_collection act why = refl

  pub refused_silent : (act : Act) (why : Refusal) → IsSilent setup history partition (moment act (Refused why) [])
  refused_silent act why = sends_silent act (Refused why) 0 0 [] (no_collection act why)

  retries_silent : (client : ℕ) (o : Option Transaction) → IsSilent setup history partition (retries setup history (Retry client) o)
  retries_silent client None = refl
  retries_silent client (Some transaction) = go (unanswered setup history transaction)
    where
      go : (outs : List Outgoing) → IsSilent setup history partition (resends history (Retry client) transaction outs)
      go [] = refl
      go (out ∷ outs) = sends_silent (Retry client) (Sent (Some (next_rows history (length (out ∷ outs))))) transaction.client transaction.ticket (out ∷ outs) refl

  moves_silent : (row : ℕ) (transaction : Transaction) (move : Move) → IsSilent setup history partition (moves history (Deliver row) transaction move)
  moves_silent row transaction (Decides stamp calls) = sends_silent (Deliver row) (Decided stamp (next_rows history (length calls))) transaction.client transaction.ticket calls refl
  moves_silent row transaction (Asks calls) = sends_silent (Deliver row) (Ask (next_rows history (length calls))) transaction.client transaction.ticket calls refl
  moves_silent row transaction (Begins calls) = sends_silent (Deliver row) (BeginsRead (next_rows history (length calls))) transaction.client transaction.ticket calls refl
  moves_silent row transaction (Fails why []) = refl
  moves_silent row transaction (Fails why (out ∷ outs)) = sends_silent (Deliver row) (Ended why (Some (next_rows history (length (out ∷ outs))))) transaction.client transaction.ticket (out ∷ outs) refl
  moves_silent row transaction _ = refl

  pub takes_silent : (row : ℕ) (message : Message) (o : Option Transaction) → IsSilent setup history partition (takes setup history (Deliver row) message o)
  takes_silent row message None = refl
  takes_silent row message (Some transaction) = go (is_wanted history transaction message)
    where
      go : (b : Bool) → IsSilent setup history partition
          (cond b (moves history (Deliver row) transaction (move_of setup transaction.request (taken_in history transaction ++ message ∷ []) message)) (moment (Deliver row) Ignored []))
      go true = moves_silent row transaction (move_of setup transaction.request (taken_in history transaction ++ message ∷ []) message)
      go false = refl

  begins_silent : (act : Act) (answer : Rows → Answer) (client : ℕ) (request : Intent) → ((rows : Rows) → collection (keep_in setup history) partition act (answer rows) ≡ [])
      → IsSilent setup history partition (begins setup history act answer client request)
  begins_silent act answer client request none =
      let calls = calls_of setup false request [] in
      sends_silent act (answer (next_rows history (length calls))) client (tickets history client + 1) calls (none (next_rows history (length calls)))

  effect_silent : (act : Act) → IsOffShelf act → IsSilent setup history partition (effect setup history act)
  unfolding effect
  effect_silent (Put client items) off = begins_silent (Put client items) (PutBegun (next_stamp history client)) client (Writes (next_stamp history client) items) (λ rows. refl)
  effect_silent (GetAll client keys) off = begins_silent (GetAll client keys) GetBegun client (Gets keys) (λ rows. refl)
  effect_silent (Find client tag) off = begins_silent (Find client tag) FindBegun client (Finds tag) (λ rows. refl)
  effect_silent (Retry client) off = retries_silent client (running history client)
  effect_silent (Deliver row) off = absurd off
  effect_silent (CollectAt p) off = absurd off
  effect_silent act off = refl

  pub off_shelf_silent : (act : Act) → IsOffShelf act → IsSilent setup history partition (moment_of setup history act)
  unfolding moment_of
  off_shelf_silent act off = after act (tests setup history act) (effect setup history act) (IsSilent setup history partition) (λ why. refused_silent act why) (λ pass. effect_silent act off)
