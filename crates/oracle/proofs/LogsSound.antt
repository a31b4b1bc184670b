-- Each log of a run has the replies of the definitions.
use Rattle.std.proofs.Common.{◌≡◌, ℕ, ◌+◌, ◌==◌, Bool, true, false, cond, List, [], ◌∷◌, ◌++◌, map, Option, Some, None, eqb-true, refl, ◌∙◌, ap}
use Rattle.std.specs.List.{cons_option, filter_map}
use Rattle.plain_store.specs.declared.calls.Call.TheVariants.{Collect}
use Rattle.plain_store.specs.declared.calls.Reply.{Reply}
use Rattle.plain_store.specs.declared.calls.Reply.TheVariants.{Freed as ToCollect}
use Rattle.plain_store.specs.declared.step.Act.{Act}
use Rattle.plain_store.specs.declared.step.Act.TheVariants.{Hello, Put, Get as GetAll, Find, Deliver, Lose, Retry, Stop, Collect as CollectAt, Keep as SetKeep}
use Rattle.plain_store.specs.declared.message.Message.{Message}
use Rattle.plain_store.specs.declared.refusal.Refusal.{Refusal}
use Rattle.plain_store.specs.declared.refusal.Refusal.TheVariants.{NoMessage}
use Rattle.plain_store.specs.declared.answer.Answer.TheVariants.{Refused, Ignored, Freed}
use Rattle.plain_store.specs.Words.{Room, Setup}
use Rattle.plain_store.specs.Log.{Log}
use Rattle.plain_store.specs.Replies.{IsSound, reply_after}
use Rattle.plain_store.specs.History.{Moment, moment, History, message_at, exchange_of, keep_in, collection, log_at, running, Transaction, tickets, taken_in, Writes, Gets, Finds}
use Rattle.plain_store.specs.Writing.{Outgoing}
use Rattle.plain_store.specs.Moves.{Move, Waits, Decides, Finishes, Asks, Begins, Reads, Lists, Restarts, Fails, move_of, calls_of}
use Rattle.plain_store.specs.Run.{Test, after_tests, tests, call_message, moves, is_wanted, takes, serves, delivers, delivers_row, unanswered, resends, retries, next_stamp, count_freed, effect, moment_of, run}
use Rattle.oracle.specs.Words.{LogsAreSound}

collect_is : (room : Room) (log : Log) (keep : ℕ) → ToCollect (count_freed (reply_after room log (Collect keep))) ≡ reply_after room log (Collect keep)
unfolding reply_after
collect_is room log keep = refl

module _ (setup : Setup) (history : History) (sound : LogsAreSound setup history) where
  -- a step that makes no exchange
  still : (m : Moment) → ((p : ℕ) → collection (keep_in setup history) p m.act m.answer ≡ []) → ((p : ℕ) → filter_map (λ (q : Message). exchange_of p q q.reply) m.sent ≡ []) → LogsAreSound setup (m ∷ history)
  still m none silent p = rw (none p, silent p) (sound p)

  silent_calls : (client ticket : ℕ) (calls : List Outgoing) (p : ℕ) → filter_map (λ (q : Message). exchange_of p q q.reply) (map (call_message client ticket) calls) ≡ []
  silent_calls client ticket [] p = refl
  silent_calls client ticket (out ∷ outs) p = silent_calls client ticket outs p

  refused_none : (act : Act) (why : Refusal) (p : ℕ) → collection (keep_in setup history) p act (Refused why) ≡ []
  refused_none (Hello client base) why p = refl
  refused_none (Put client items) why p = refl
  refused_none (GetAll client keys) why p = refl
  refused_none (Find client tag) why p = refl
  refused_none (Deliver row) why p = refl
  refused_none (Lose row) why p = refl
  refused_none (Retry client) why p = refl
  refused_none (Stop client) why p = refl
  refused_none (CollectAt partition) why p = refl
  refused_none (SetKeep keep) why p = refl

  refused_still : (act : Act) (why : Refusal) → LogsAreSound setup (moment act (Refused why) [] ∷ history)
  refused_still act why = still (moment act (Refused why) []) (refused_none act why) (λ p. refl)

  tested : (act : Act) (ts : List Test) (effect : Moment) → LogsAreSound setup (effect ∷ history) → LogsAreSound setup (after_tests act ts effect ∷ history)
  tested act [] effect after = after
  tested act (t ∷ ts) effect after = by t.fails (tested act ts effect after)
    where
      by : (b : Bool) → LogsAreSound setup (after_tests act ts effect ∷ history) → LogsAreSound setup (cond b (moment act (Refused t.refusal) []) (after_tests act ts effect) ∷ history)
      by true more = refused_still act t.refusal
      by false more = more

  moves_still : (row : ℕ) (transaction : Transaction) (move : Move) → LogsAreSound setup (moves history (Deliver row) transaction move ∷ history)
  moves_still row transaction Waits = still (moves history (Deliver row) transaction Waits) (λ p. refl) (λ p. refl)
  moves_still row transaction (Decides stamp calls) = still (moves history (Deliver row) transaction (Decides stamp calls)) (λ p. refl) (silent_calls transaction.client transaction.ticket calls)
  moves_still row transaction (Finishes stamp) = still (moves history (Deliver row) transaction (Finishes stamp)) (λ p. refl) (λ p. refl)
  moves_still row transaction (Asks calls) = still (moves history (Deliver row) transaction (Asks calls)) (λ p. refl) (silent_calls transaction.client transaction.ticket calls)
  moves_still row transaction (Begins calls) = still (moves history (Deliver row) transaction (Begins calls)) (λ p. refl) (silent_calls transaction.client transaction.ticket calls)
  moves_still row transaction (Reads readings) = still (moves history (Deliver row) transaction (Reads readings)) (λ p. refl) (λ p. refl)
  moves_still row transaction (Lists readings) = still (moves history (Deliver row) transaction (Lists readings)) (λ p. refl) (λ p. refl)
  moves_still row transaction (Restarts key floor) = still (moves history (Deliver row) transaction (Restarts key floor)) (λ p. refl) (λ p. refl)
  moves_still row transaction (Fails refusal []) = still (moves history (Deliver row) transaction (Fails refusal [])) (λ p. refl) (λ p. refl)
  moves_still row transaction (Fails refusal (out ∷ outs)) = still (moves history (Deliver row) transaction (Fails refusal (out ∷ outs))) (λ p. refl) (silent_calls transaction.client transaction.ticket (out ∷ outs))

  takes_still : (row : ℕ) (message : Message) (o : Option Transaction) → LogsAreSound setup (takes setup history (Deliver row) message o ∷ history)
  takes_still row message None = still (takes setup history (Deliver row) message None) (λ p. refl) (λ p. refl)
  takes_still row message (Some transaction) = by (is_wanted history transaction message)
    where
      by : (b : Bool) → LogsAreSound setup (cond b (moves history (Deliver row) transaction (move_of setup transaction.request (taken_in history transaction ++ message ∷ []) message)) (moment (Deliver row) Ignored []) ∷ history)
      by true = moves_still row transaction (move_of setup transaction.request (taken_in history transaction ++ message ∷ []) message)
      by false = still (moment (Deliver row) Ignored []) (λ p. refl) (λ p. refl)

  -- a call that gets its reply is one more exchange of its partition
  serves_sound : (row : ℕ) (message : Message) → LogsAreSound setup (serves history (Deliver row) message (reply_after setup.room (log_at setup history message.partition) message.call) ∷ history)
  serves_sound row message p = by (message.partition == p) refl
    where
      by : (b : Bool) → (message.partition == p) ≡ b
          → IsSound setup.room (cons_option (cond b (Some (record { call = message.call; reply = reply_after setup.room (log_at setup history message.partition) message.call })) None) [] ++ log_at setup history p)
      by true e = let here = eqb-true message.partition p e in (ap (λ at. reply_after setup.room (log_at setup history at) message.call) here, sound p)
      by false e = sound p

  delivers_sound : (row : ℕ) (message : Message) (o : Option Reply) → LogsAreSound setup (delivers setup history (Deliver row) message o ∷ history)
  delivers_sound row message None = serves_sound row message
  delivers_sound row message (Some reply) = takes_still row message (running history message.client)

  row_sound : (row : ℕ) (o : Option Message) → LogsAreSound setup (delivers_row setup history (Deliver row) o ∷ history)
  row_sound row None = refused_still (Deliver row) NoMessage
  row_sound row (Some message) = delivers_sound row message message.reply

  resends_still : (client : ℕ) (transaction : Transaction) (calls : List Outgoing) → LogsAreSound setup (resends history (Retry client) transaction calls ∷ history)
  resends_still client transaction [] = still (resends history (Retry client) transaction []) (λ p. refl) (λ p. refl)
  resends_still client transaction (out ∷ outs) = still (resends history (Retry client) transaction (out ∷ outs)) (λ p. refl) (silent_calls transaction.client transaction.ticket (out ∷ outs))

  retries_still : (client : ℕ) (o : Option Transaction) → LogsAreSound setup (retries setup history (Retry client) o ∷ history)
  retries_still client None = still (retries setup history (Retry client) None) (λ p. refl) (λ p. refl)
  retries_still client (Some transaction) = resends_still client transaction (unanswered setup history transaction)

  -- so is a collection
  collect_sound : (partition : ℕ) (reply : Reply) → reply ≡ reply_after setup.room (log_at setup history partition) (Collect (keep_in setup history))
      → LogsAreSound setup (moment (CollectAt partition) (Freed (count_freed reply)) [] ∷ history)
  collect_sound partition reply is p = by (partition == p) refl
    where
      by : (b : Bool) → (partition == p) ≡ b
          → IsSound setup.room (cond b (record { call = Collect (keep_in setup history); reply = ToCollect (count_freed reply) } ∷ []) [] ++ log_at setup history p)
      by true e =
          let here = eqb-true partition p e in
          let at = λ (place : ℕ). reply_after setup.room (log_at setup history place) (Collect (keep_in setup history)) in
          (ap (λ (r : Reply). ToCollect (count_freed r)) is ∙ collect_is setup.room (log_at setup history partition) (keep_in setup history) ∙ ap at here, sound p)
      by false e = sound p

  pub effect_sound : (act : Act) → LogsAreSound setup (effect setup history act ∷ history)
  unfolding effect
  effect_sound (Hello client base) = still (effect setup history (Hello client base)) (λ p. refl) (λ p. refl)
  effect_sound (Put client items) = still (effect setup history (Put client items)) (λ p. refl) (silent_calls client (tickets history client + 1) (calls_of setup false (Writes (next_stamp history client) items) []))
  effect_sound (GetAll client keys) = still (effect setup history (GetAll client keys)) (λ p. refl) (silent_calls client (tickets history client + 1) (calls_of setup false (Gets keys) []))
  effect_sound (Find client tag) = still (effect setup history (Find client tag)) (λ p. refl) (silent_calls client (tickets history client + 1) (calls_of setup false (Finds tag) []))
  effect_sound (Deliver row) = row_sound row (message_at history row)
  effect_sound (Lose row) = still (effect setup history (Lose row)) (λ p. refl) (λ p. refl)
  effect_sound (Retry client) = retries_still client (running history client)
  effect_sound (Stop client) = still (effect setup history (Stop client)) (λ p. refl) (λ p. refl)
  effect_sound (CollectAt partition) = collect_sound partition (reply_after setup.room (log_at setup history partition) (Collect (keep_in setup history))) refl
  effect_sound (SetKeep keep) = still (effect setup history (SetKeep keep)) (λ p. refl) (λ p. refl)

  pub step_sound : (act : Act) → LogsAreSound setup (moment_of setup history act ∷ history)
  unfolding moment_of
  step_sound act = tested act (tests setup history act) (effect setup history act) (effect_sound act)

pub run_sound : (setup : Setup) (history : History) (acts : List Act) → LogsAreSound setup history → LogsAreSound setup (run setup history acts)
run_sound setup history [] sound = sound
run_sound setup history (act ∷ acts) sound = run_sound setup (moment_of setup history act ∷ history) acts (step_sound setup history sound act)
