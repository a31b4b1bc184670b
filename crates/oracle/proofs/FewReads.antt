-- For the evaluator's run: whoever takes a reply reads no more than `max_found` keys.
use Rattle.std.proofs.Common.{◌≡◌, ℕ, ◌≤◌, List, [], ◌∷◌, ◌++◌, ◌⊎◌, inl, inr, refl, sym, subst, length, true, Option, Some, None, is_some, arith}
use Rattle.std.specs.Prelude.{All}
use Rattle.stamps.specs.Limits.{max_keys}
use Rattle.plain_store.specs.Words.{◌∈◌, Key, Stamp, Setup, IsAct}
use Rattle.plain_store.specs.declared.calls.Call.{Call}
use Rattle.plain_store.specs.declared.calls.Call.TheVariants.{Prepare, Commit, Get, Found, Collect, Discard}
use Rattle.plain_store.specs.declared.calls.Reply.{Reply}
use Rattle.plain_store.specs.declared.step.Act.{Act}
use Rattle.plain_store.specs.declared.message.Message.{Message}
use Rattle.plain_store.specs.History.{History, message_at, Intent, Writes, Gets, Finds, Transaction, taken_in, running}
use Rattle.plain_store.specs.Run.{is_wanted, run}
use Rattle.plain_store.specs.Finding.{all_found, all_keys_found}
use Rattle.plain_store.proofs.StaysTrue.{at_is, running_is}
use Rattle.plain_store.proofs.KeptLogs.{is_of_wanted}
use Rattle.plain_store.proofs.LawRuns.{Known, accepted_are, known_run}
use Rattle.plain_store.proofs.Members.{in_cases}
use Rattle.plain_store.proofs.SearchesAsk.{IsReplied, IsDue, replied_by, get_tells_none, total_push, keys_few}
use Rattle.plain_store.proofs.Searches.{all_replied}
use Rattle.plain_store.proofs.Served.{partitions_reply}
use Rattle.oracle.specs.Words.{IsFew, ReadsFew, ReadersAreFew}

found_few : (keys : List Key) (call : Call) → ((key : Key) (stamp : Option Stamp) → call ≡ Get key stamp → length keys ≤ max_keys) → IsFew keys call
found_few keys (Get key stamp) few = few key stamp refl
found_few keys (Prepare version) few = tt
found_few keys (Commit stamp) few = tt
found_few keys (Found tag) few = tt
found_few keys (Collect keep) few = tt
found_few keys (Discard stamp) few = tt

reads_few : (setup : Setup) (history : History) (row : ℕ) (message : Message) (reply : Reply) (transaction : Transaction) → Known setup history → message_at history row ≡ Some message → message.reply ≡ Some reply
    → running history message.client ≡ Some transaction → is_wanted history transaction message ≡ true → (request : Intent) → transaction.request ≡ request
    → ReadsFew request (taken_in history transaction ++ message ∷ []) message.call
reads_few setup history row message reply transaction known at e r wanted (Writes stamp items) asks = tt
reads_few setup history row message reply transaction known at e r wanted (Gets keys) asks =
    found_few keys message.call (λ key stamp c. (accepted_are keys (known.accepted transaction keys (running_is history message.client transaction r).0 asks)).0)
reads_few setup history row message reply transaction known at e r wanted (Finds tag) asks = found_few (all_keys_found replies) message.call few
  where
    replies : List Message
    replies = taken_in history transaction ++ message ∷ []

    is : IsReplied message
    is = replied_by setup history message (partitions_reply setup history message known.logged (at_is history row message at) (reply, e))

    all : (q : Message) → q ∈ replies → IsReplied q
    all q h = go (in_cases (taken_in history transaction) (message ∷ []) q h)
      where
        go : (q ∈ taken_in history transaction) ⊎ (q ∈ (message ∷ [])) → IsReplied q
        go (inl k) = all_replied setup history transaction known.logged known.replied q k
        go (inr (inl s)) = subst IsReplied (sym s) is
        go (inr (inr n)) = absurd n

    few : (key : Key) (stamp : Option Stamp) → message.call ≡ Get key stamp → length (all_keys_found replies) ≤ max_keys
    few key stamp c =
        let own = (running_is history message.client transaction r).0 in
        let d = known.due transaction message own (at_is history row message at) (is_of_wanted history message transaction r wanted) in
        let told : all_found setup (taken_in history transaction) ≡ true =
        subst (λ (call : Call). IsDue setup (Finds tag) (taken_in history transaction) call) c (subst (λ (q : Intent). IsDue setup q (taken_in history transaction) message.call) asks d) in
        let before = known.few_told message.client transaction tag r asks told in
        let none = (get_tells_none message key stamp is c).0 in
        omega (arith, before, none, total_push (taken_in history transaction) message, keys_few replies all)

-- whoever takes a reply in a run reads no more than `max_found` keys
pub readers_few : (setup : Setup) (steps : List Act) → All IsAct steps → ReadersAreFew (run setup [] steps)
readers_few setup steps valid row message at replied transaction r wanted = go message.reply refl replied
  where
    go : (o : Option Reply) → message.reply ≡ o → is_some o ≡ true → ReadsFew transaction.request (taken_in (run setup [] steps) transaction ++ message ∷ []) message.call
    go None e t = cc
    go (Some reply) e t = reads_few setup (run setup [] steps) row message reply transaction (known_run setup steps valid) at e r wanted transaction.request refl
