-- A write that ends for want of room takes back what it prepared.
use Rattle.std.proofs.Common.{◌≡◌, ℕ, List, [], ◌∷◌, ◌++◌, refl, sym, ap, ◌∙◌, subst, map, ◌==◌, take, Some}
use Rattle.plain_store.specs.Words.{◌∈◌, Key, Stamp, Item, Discard, Act, Deliver, Message, Refusal, NoSlot, NoItem, Answer, Ended, Setup, home}
use Rattle.plain_store.specs.History.{Moment, History, message_at, Transaction, Writes, taken_in, running}
use Rattle.plain_store.specs.Writing.{Outgoing, keys_written, discard_calls, partitions_written}
use Rattle.plain_store.specs.Moves.{Move, Fails}
use Rattle.plain_store.specs.Run.{call_message, moves, moment_of, answer_to, run}
use Rattle.plain_store.specs.Laws.{running_for, EachStep, TakesBack, IsTakenBack}
use Rattle.plain_store.proofs.Members.{in_map}
use Rattle.plain_store.proofs.Counting.{count_by-map}
use Rattle.plain_store.proofs.Counts.{discards_each}
use Rattle.plain_store.proofs.Sound.{written_home}
use Rattle.plain_store.proofs.Steps.{Happens, moved, Moving, waits, decides, finishes, asks, begins_reading, reads, lists, lists_none, restarts, fails, Failing, no_slot, no_item, was_discarded, too_many, clashed, torn_first, torn_second, torn_found, happens, moment_act}
use Rattle.plain_store.proofs.Runs.{act_at}

-- what the step's answer says of what it sent
abbrev Back : Setup → History → Act → List Message → Answer → Type 0
Back setup history act sent (Ended NoSlot rows) = TakesBack setup history act sent
Back setup history act sent (Ended NoItem rows) = TakesBack setup history act sent
Back setup history act sent answer = Unit {0}

-- the DISCARDs of a write, as a step that ends it sends them
discards_sent : (setup : Setup) (older : History) (row : ℕ) (message : Message) (transaction : Transaction) (stamp : Stamp) (items : List Item) → message_at older row ≡ Some message
    → running older message.client ≡ Some transaction → transaction.request ≡ Writes stamp items
    → TakesBack setup older (Deliver row) (map (call_message transaction.client transaction.ticket) (discard_calls setup stamp items))
discards_sent setup older row message transaction stamp items at r writes = record {
  writer = transaction;
  stamp = stamp;
  items = items;
  runs = ap (running_for older) at ∙ r;
  writes = writes;
  each = λ q h.
      let i = in_map (call_message transaction.client transaction.ticket) (discard_calls setup stamp items) q h in
      let j = in_map (λ (p : ℕ). record { partition = p; call = Discard stamp }) (partitions_written setup items) i.0 i.1 in
      subst IsDiscard (sym i.2)
      (subst (λ (out : Outgoing). IsDiscard (call_message transaction.client transaction.ticket out)) (sym j.2) (refl, written_home setup items j.0 j.1));
  one = λ key k.
      count_by-map (λ (q : Message). q.partition == home setup key) (call_message transaction.client transaction.ticket) (discard_calls setup stamp items)
      ∙ discards_each setup stamp items key k;
}
  where
    IsDiscard : Message → Type 0
    IsDiscard q = (q.call ≡ Discard stamp) × ((key : Key) × (key ∈ keys_written items) × (q.partition ≡ home setup key))

pub back_step : (setup : Setup) (older : History) (m : Moment) → Happens setup older m → Back setup older m.act m.sent m.answer
back_step setup older m (moved row message reply transaction move at e r wanted how) = go move how
  where
    IsBack : Move → Type 0
    IsBack move = Back setup older (moves older (Deliver row) transaction move).act (moves older (Deliver row) transaction move).sent (moves older (Deliver row) transaction move).answer

    slot : (calls : List Outgoing) → TakesBack setup older (Deliver row) (map (call_message transaction.client transaction.ticket) calls) → IsBack (Fails NoSlot calls)
    slot [] back = back
    slot (out ∷ outs) back = back

    item : (calls : List Outgoing) → TakesBack setup older (Deliver row) (map (call_message transaction.client transaction.ticket) calls) → IsBack (Fails NoItem calls)
    item [] back = back
    item (out ∷ outs) back = back

    fell : (why : Refusal) (calls : List Outgoing) → Failing setup transaction.request (taken_in older transaction ++ message ∷ []) message why calls → IsBack (Fails why calls)
    fell why calls (no_slot version stamp items c q) = slot (discard_calls setup stamp items) (discards_sent setup older row message transaction stamp items at r q)
    fell why calls (no_item version stamp items c q) = item (discard_calls setup stamp items) (discards_sent setup older row message transaction stamp items at r q)
    fell why calls (was_discarded version stamp items c t q) = tt
    fell why calls too_many = tt
    fell why calls (clashed version c t) = tt
    fell why calls (torn_first key told c t f) = tt
    fell why calls (torn_second key stamp told c t f) = tt
    fell why calls (torn_found tag told c t f) = tt

    go : (move : Move) → Moving setup transaction.request (taken_in older transaction ++ message ∷ []) message move → IsBack move
    go move waits = tt
    go move (decides stamp items q a) = tt
    go move (finishes stamp items q a) = tt
    go move (asks keys) = tt
    go move (begins_reading keys) = tt
    go move (reads keys readable) = tt
    go move (lists tag keys readable) = tt
    go move lists_none = tt
    go move (restarts key stamp floor c f over) = tt
    go move (fails why calls failing) = fell why calls failing
back_step setup older m _ = tt

-- what was sent is what the act sends
told : (setup : Setup) (history : History) (act : Act) (answer : Answer) → Back setup history act (moment_of setup history act).sent answer → IsTakenBack setup history act answer
told setup history act (Ended NoSlot rows) back = back
told setup history act (Ended NoItem rows) back = back
told setup history act answer back = tt

pub taken_back : (setup : Setup) (steps : List Act) → EachStep (IsTakenBack setup) setup steps
unfolding answer_to
taken_back setup steps valid n act at =
    let history = run setup [] (take n steps) in
    let m = moment_of setup history act in
    told setup history act m.answer (subst (λ (a : Act). Back setup history a m.sent m.answer) (moment_act setup history act) (back_step setup history m (happens setup history act (act_at steps n act valid at))))
