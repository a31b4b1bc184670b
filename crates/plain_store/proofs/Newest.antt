-- Who has read keys writes above all that was done at them before the read began.
use Rattle.std.proofs.Common.{◌≡◌, ℕ, ◌<◌, ◌≤◌, List, [], ◌∷◌, ◌++◌, Bool, true, false, ◌==◌, ◌⊎◌, inl, inr, refl, sym, ap, ◌∙◌, subst, cond, not, Option, Some, None, is_some, option_to_list, eq-eqb, arith}
use Rattle.stamps.specs.Stamp.{counter_of}
use Rattle.plain_store.specs.Words.{◌∈◌, Key, Stamp, Item, Record, Call, Get, ReadReply, Version, Initial, Collected, Unknown, Reply, ToGet, Act, Put, Deliver, Message, Read, Restart, Refused, Answer, Setup, Torn}
use Rattle.plain_store.specs.History.{Moment, History, Gets, Transaction, taken, took, taken_in, message_at, is_of, is_move, counter, counter_in, counter_gained, counter_taken}
use Rattle.plain_store.specs.Writing.{keys_written}
use Rattle.plain_store.specs.Rounds.{seen_first, round_one_complete, round_two_complete, is_shown, readings, second_calls, is_false_first}
use Rattle.plain_store.specs.Moves.{Move, Waits, Asks, Reads, Restarts, Fails, first_move, read_move, move_of}
use Rattle.plain_store.specs.Run.{moves, next_stamp}
use Rattle.plain_store.specs.Laws.{Wrote, DoneBefore, running_for, receiver}
use Rattle.plain_store.specs.Newest.{EndsRead, WasRead, HasRead, IsNewest, IsNewestAnswer}
use Rattle.plain_store.proofs.Members.{in_cases, all_at}
use Rattle.plain_store.proofs.Cells.{stamp_shown}
use Rattle.plain_store.proofs.Steps.{Happens, refused, put_begun, moved}
use Rattle.plain_store.proofs.StaysTrue.{at_is, running_is, taken_sent, taken_in_is, taken_more}
use Rattle.plain_store.proofs.Seen.{seen_first_shows}
use Rattle.plain_store.proofs.ShownMore.{complete_more}
use Rattle.plain_store.proofs.Sound.{of_transaction}
use Rattle.plain_store.proofs.KeptLogs.{is_of_wanted}
use Rattle.plain_store.proofs.FreshLogs.{Fresh}
use Rattle.plain_store.proofs.StepEffects.{IsTurn, IsQuiet}
use Rattle.plain_store.proofs.SearchesAsk.{IsDue, IsDueSecond, Due, due_more, turn_taken}

-- ---- who was reported what it read has taken the whole first round

abbrev EndsMove : Move → Type 0
EndsMove (Reads rs) = Unit {0}
EndsMove (Restarts key floor) = Unit {0}
EndsMove move = ⊥

first_complete : (setup : Setup) (keys : List Key) (replies : List Message) (key : Key) (reply : ReadReply) → EndsMove (first_move setup keys replies Reads key reply) → round_one_complete keys replies ≡ true
first_complete setup keys replies key reply h = go (is_false_first key reply) h
  where
    whole : (b : Bool) → EndsMove (cond (not b) Waits (cond (round_two_complete keys replies) (Reads (readings keys replies)) (Asks (second_calls setup keys replies)))) → b ≡ true
    whole true k = refl
    whole false k = absurd k

    go : (b : Bool) → EndsMove (cond b (Fails Torn []) (cond (not (round_one_complete keys replies)) Waits (cond (round_two_complete keys replies) (Reads (readings keys replies)) (Asks (second_calls setup keys replies)))))
        → round_one_complete keys replies ≡ true
    go true k = absurd k
    go false k = whole (round_one_complete keys replies) k

read_complete : (setup : Setup) (keys : List Key) (replies : List Message) (call : Call) (reply : Option Reply) → IsDueSecond (round_one_complete keys replies) call → EndsMove (read_move setup keys replies Reads call reply)
    → round_one_complete keys replies ≡ true
read_complete setup keys replies (Get key None) (Some (ToGet reply)) due h = first_complete setup keys replies key reply h
read_complete setup keys replies (Get key (Some stamp)) (Some (ToGet reply)) due h = due
read_complete setup keys replies call reply due h = absurd h

ends_move : (older : History) (act : Act) (transaction : Transaction) (move : Move) → EndsRead (moves older act transaction move).answer → EndsMove move
ends_move older act transaction (Reads rs) h = tt
ends_move older act transaction (Restarts key floor) h = tt
ends_move older act transaction (Fails why []) h = absurd h
ends_move older act transaction (Fails why (out ∷ outs)) h = absurd h
ends_move older act transaction _ h = absurd h

moves_act : (older : History) (act : Act) (transaction : Transaction) (move : Move) → (moves older act transaction move).act ≡ act
moves_act older act transaction (Fails why []) = refl
moves_act older act transaction (Fails why (out ∷ outs)) = refl
moves_act older act transaction _ = refl

-- whoever was reported what it read took a reply of the first round for each key
abbrev pub ReadWhole : History → Type 0
ReadWhole history = (reader : Transaction) (keys : List Key) → WasRead history reader → reader.request ≡ Gets keys → round_one_complete keys (taken_in history reader) ≡ true

quiet_ends : (answer : Answer) → is_move answer ≡ false → EndsRead answer → ⊥
quiet_ends (Read readings) q h = cc
quiet_ends (Restart key floor) q h = cc
quiet_ends answer q h = absurd h

turn_whole : (setup : Setup) (older : History) (m : Moment) (reader : Transaction) (keys : List Key) → Due setup older → IsTurn setup older m → receiver older m.act ≡ Some reader → EndsRead m.answer → reader.request ≡ Gets keys
    → round_one_complete keys (taken_in (m ∷ older) reader) ≡ true
turn_whole setup older m reader keys due (row, message, reply, transaction, at, e, r, wanted, same) runs ends asks =
    subst (λ (t : Transaction). round_one_complete keys (taken_in (m ∷ older) t) ≡ true) it
    (subst (λ (qs : List Message). round_one_complete keys qs ≡ true) (sym (turn_taken older m row message transaction move at of same)) whole)
  where
    all : List Message
    all = taken_in older transaction ++ message ∷ []

    move : Move
    move = move_of setup transaction.request all message

    of : is_of transaction message ≡ true
    of = is_of_wanted older message transaction r wanted

    it : transaction ≡ reader
    it =
        let acts : m.act ≡ Deliver row = ap (λ (x : Moment). x.act) same ∙ moves_act older (Deliver row) transaction move in
        let both : Some transaction ≡ Some reader = sym r ∙ ap (running_for older) (sym at) ∙ ap (receiver older) (sym acts) ∙ runs in
        cc

    keys_asked : transaction.request ≡ Gets keys
    keys_asked = ap (λ (t : Transaction). t.request) it ∙ asks

    due_now : IsDue setup (Gets keys) all message.call
    due_now =
        due_more setup (Gets keys) (taken_in older transaction) (message ∷ []) message.call
        (subst (λ q. IsDue setup q (taken_in older transaction) message.call) keys_asked (due transaction message (running_is older message.client transaction r).0 (at_is older row message at) of))

    ends_now : EndsMove (read_move setup keys all Reads message.call message.reply)
    ends_now =
        subst (λ q. EndsMove (move_of setup q all message)) keys_asked
        (ends_move older (Deliver row) transaction move (subst (λ (x : Moment). EndsRead x.answer) same ends))

    whole : round_one_complete keys all ≡ true
    whole = read_complete setup keys all message.call message.reply due_now ends_now

pub whole_step : (setup : Setup) (older : History) (m : Moment) → Due setup older → IsQuiet m ⊎ IsTurn setup older m → ReadWhole older → ReadWhole (m ∷ older)
whole_step setup older m due way whole reader keys (inl told) asks = go way
  where
    go : IsQuiet m ⊎ IsTurn setup older m → round_one_complete keys (taken_in (m ∷ older) reader) ≡ true
    go (inl quiet) = absurd (quiet_ends m.answer quiet told.1)
    go (inr turn) = turn_whole setup older m reader keys due turn told.0 told.1 asks
whole_step setup older m due way whole reader keys (inr was) asks =
    subst (λ (qs : List Message). round_one_complete keys qs ≡ true) (sym (taken_more m older reader)) (complete_more keys (taken_in older reader) _ (whole reader keys was asks))

-- ---- counters

-- a client's counter is no less than that of a reply that it took
taken_counter : (history : History) (message : Message) → message ∈ taken history → counter_in message.reply ≤ counter history message.client
taken_counter [] message h = absurd h
taken_counter (m ∷ older) message h = go (in_cases (taken older) (option_to_list (took m.act m.answer older)) message h) (taken_counter older message)
  where
    shown : (o : Option Message) → message ∈ option_to_list o → counter_in message.reply ≤ counter_taken message.client o
    shown None k = absurd k
    shown (Some q) (inl same) =
        let own : (q.client == message.client) ≡ true = eq-eqb q.client message.client (ap (λ (x : Message). x.client) (sym same)) in
        let is : counter_taken message.client (Some q) ≡ counter_in message.reply = ap (λ b. cond b (counter_in q.reply) 0) own ∙ ap (λ (x : Message). counter_in x.reply) (sym same) in
        omega (arith, is)
    shown (Some q) (inr k) = absurd k

    of_row : (row : ℕ) (b : Bool) → message ∈ option_to_list (cond b (message_at older row) None) → counter_in message.reply ≤ cond b (counter_taken message.client (message_at older row)) 0
    of_row row true k = shown (message_at older row) k
    of_row row false k = absurd k

    now : (act : Act) (answer : Answer) → message ∈ option_to_list (took act answer older) → counter_in message.reply ≤ counter_gained act answer older message.client
    now (Deliver row) answer k = of_row row (is_move answer) k
    now act answer k = absurd k

    go : (message ∈ taken older) ⊎ (message ∈ option_to_list (took m.act m.answer older)) → (message ∈ taken older → counter_in message.reply ≤ counter older message.client) → counter_in message.reply ≤ counter (m ∷ older) message.client
    go (inl k) rest = let l = rest k in omega arith
    go (inr k) rest = let l = now m.act m.answer k in omega arith

shown_counter : (reply : ReadReply) → counter_of (stamp_shown reply) ≤ counter_in (Some (ToGet reply))
shown_counter (Version version) = omega arith
shown_counter Initial = omega arith
shown_counter (Collected floor) = omega arith
shown_counter Unknown = omega arith

counters_rise : (s t : Stamp) → s ≤ t → counter_of s ≤ counter_of t
counters_rise s t h = omega arith

below_next : (older : History) (client : ℕ) (done : Stamp) → counter_of done ≤ counter older client → done < next_stamp older client
below_next older client done l = omega (arith, l)

-- ---- a put

module _ (setup : Setup) (history : History) (fresh : Fresh setup history) (whole : ReadWhole history) where
  complete : (reader : Transaction) (keys : List Key) → HasRead history reader keys → round_one_complete keys (taken_in history reader) ≡ true
  complete reader keys (own, asks, inl told) = whole reader keys told asks
  complete reader keys (own, asks, inr all) = all

  -- the counter of a client that has read a key is no less than that of what was done there before
  reader_counts : (reader : Transaction) (keys : List Key) (key : Key) (done : Stamp) (items : List Item) → HasRead history reader keys → key ∈ keys → DoneBefore history reader.begun done → Wrote history done items → key ∈ keys_written items
      → counter_of done ≤ counter history reader.client
  reader_counts reader keys key done items read k d w i = go (seen_first (taken_in history reader) key) refl (all_at (is_shown (taken_in history reader)) keys key (complete reader keys read) k)
    where
      counted : (message : Message) (shown : ReadReply) → message ∈ taken_in history reader → message.call ≡ Get key None → message.reply ≡ Some (ToGet shown) → counter_of done ≤ counter history reader.client
      counted message shown h c e =
          let t = taken_in_is history reader message h in
          let mine = of_transaction reader message t.1 in
          let l : done ≤ stamp_shown shown = fresh.fresh reader.begun done items key message shown d (fresh.since reader message read.0 (taken_sent history message t.0) t.1) c e w i in
          let above = counters_rise done (stamp_shown shown) l in
          let told : counter_of (stamp_shown shown) ≤ counter_in message.reply = subst (λ o. counter_of (stamp_shown shown) ≤ counter_in o) (sym e) (shown_counter shown) in
          let kept : counter_in message.reply ≤ counter history reader.client = subst (λ c. counter_in message.reply ≤ counter history c) mine.0 (taken_counter history message t.0) in
          omega arith

      go : (o : Option (Option Record)) → seen_first (taken_in history reader) key ≡ o → is_some o ≡ true → counter_of done ≤ counter history reader.client
      go None e t = cc
      go (Some seen) e t =
          let f = seen_first_shows (taken_in history reader) key seen e in
          let h = f.2 in
          counted f.0 h.0 f.1 h.1 h.2

  pub newest : (client : ℕ) → IsNewest history client (next_stamp history client)
  newest client reader keys key done items read of k d w i =
      below_next history client done (subst (λ c. counter_of done ≤ counter history c) of (reader_counts reader keys key done items read k d w i))

pub step_newest : (setup : Setup) (older : History) (m : Moment) → Fresh setup older → ReadWhole older → Happens setup older m → IsNewestAnswer older m.act m.answer
step_newest setup older m fresh whole (refused act why) = go act
  where
    go : (act : Act) → IsNewestAnswer older act (Refused why)
    go (Put client items) = tt
    go act = tt
step_newest setup older m fresh whole (put_begun client items valid idle good) = newest setup older fresh whole client
step_newest setup older m fresh whole (moved row message reply transaction move at e r wanted how) = go move
  where
    go : (move : Move) → IsNewestAnswer older (moves older (Deliver row) transaction move).act (moves older (Deliver row) transaction move).answer
    go (Fails why []) = tt
    go (Fails why (out ∷ outs)) = tt
    go _ = tt
step_newest setup older m fresh whole _ = tt
