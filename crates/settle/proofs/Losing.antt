-- A store that lost messages answers as one that lost none, while no step is of a message that it lost.
use Rattle.std.proofs.Common.{◌≡◌, ℕ, ◌+◌, ◌-◌, max, List, [], ◌∷◌, ◌++◌, Bool, true, false, ◌&&◌, ◌||◌, ◌==◌, cond, not, length, map, filter, slice_get, Option, Some, None, is_some, is_none, refl, sym, ap, ◌∙◌, subst, append-nil, arith, eq-eqb, inl, inr, Bor}
use Rattle.std.specs.Prelude.{nat_eq, nat_lt, nat_le, option_to_list}
use Rattle.std.specs.Option.{option_copied}
use Rattle.std.specs.List.{list_any, filter_map}
use Rattle.std.proofs.lemmas.List.Folds.{list_any-append}
use Rattle.std.proofs.lemmas.Bool.{cases_Bool, eqb-true}
use Rattle.stamps.specs.Limits.{max_parts, max_rows}
use Rattle.stamps.specs.Stamp.{stamp}
use Rattle.plain_store.specs.Words.{Setup}
use Rattle.settle.specs.Words.{Act, Hello, Put, GetAll, Find, Deliver, Lose, Retry, Stop, CollectAt, SetKeep, Collect, Message, Reply}
use Rattle.settle.specs.Words.{Busy, ClientsFull, BadItems, StampsUsed, NoSession, IsStopped, RowsUsed, NoMessage}
use Rattle.settle.specs.Words.{Refusal, Sent, Answer, Refused, Ready, PutBegun, GetBegun, FindBegun, Replied, Ignored, Decided, Ask, BeginsRead, Ended, Lost, Stopped, Freed, Rows}
use Rattle.plain_store.specs.Replies.{reply_after}
use Rattle.plain_store.specs.History.{Moment, moment, History, messages, row_lost, lost_rows, message_at, exchange_of, keep_after, collection, session_after, is_new, is_open, is_closed, client_gained, Intent, Writes, Gets, Finds, Transaction, begun_by, one_if_by, tickets, transaction_of, is_move, is_last, took, taken, taken_in, is_by, ends, running_after, running, counter_taken, counter_gained, counter, stamp_decided}
use Rattle.plain_store.specs.Writing.{Outgoing, keys_written}
use Rattle.plain_store.specs.Moves.{Move, Waits, Decides, Finishes, Asks, Begins, Reads, Lists, Restarts, Fails, move_of, calls_of, is_answered}
use Rattle.plain_store.specs.Run.{◌⇒◌, counter_limit, are_bad, begin_tests, tests, after_tests, next_rows, call_message, sends, moves, takes, with_reply, delivers, delivers_row, is_decided, unanswered, resends, retries, count_freed, effect, moment_of, answer_to}
use Rattle.plain_store.proofs.Steps.{moment_act}
use Rattle.settle.specs.Losing.{is_lost, IsSameTransaction, RunsAlike, HasLostMore, StillHas, is_delivery, is_delivered, KeepsUndelivered}

same_self : (t : Transaction) → IsSameTransaction t t
same_self t = record { client = refl; ticket = refl; request = refl }

runs_self : (running : Option Transaction) → RunsAlike running running
runs_self None = tt
runs_self (Some t) = same_self t

-- a history has lost no more than itself
pub lost_no_more : (setup : Setup) (history : History) → HasLostMore setup history history
lost_no_more setup history = record {
  sent = refl;
  lost = λ row none. none;
  keep = refl;
  logs = λ partition. refl;
  sessions = λ client. refl;
  clients = refl;
  begun = λ client. refl;
  replies = refl;
  runs = λ client. runs_self (running history client);
  counters = λ client. refl;
  stamps = refl;
}

neither : (a b : Bool) → (a || b) ≡ false → a ≡ false
neither true b bad = bad
neither false b none = refl

none_is : {X : Type 0} (o : Option X) → is_none o ≡ true → o ≡ None
none_is None is = refl
none_is (Some x) is = let bad : false ≡ true = is in cc

-- what was delivered last was delivered
pub delivered_last : (acts : List Act) (row : ℕ) → is_delivered (acts ++ Deliver row ∷ []) row ≡ true
delivered_last acts row = list_any-append (is_delivery row) acts (Deliver row ∷ []) ∙ (λ i. is_delivered acts row || (eq-eqb row row refl i || false)) ∙ last (is_delivered acts row)
  where
    last : (b : Bool) → (b || true) ≡ true
    last true = refl
    last false = refl

-- ---- a step taken after both

module _ (setup : Setup) (own history : History) (more : HasLostMore setup own history) where
  -- ---- its tests

  busy_alike : (one other : Option Transaction) → RunsAlike one other → is_some one ≡ is_some other
  busy_alike None None alike = refl
  busy_alike None (Some t) alike = absurd alike
  busy_alike (Some t) None alike = absurd alike
  busy_alike (Some t) (Some u) alike = refl

  begin_tests_alike : (client : ℕ) → begin_tests own client ≡ begin_tests history client
  begin_tests_alike client = λ i. (nat_lt (max_rows - max_parts) (length (more.sent i)) ⇒ RowsUsed) ∷ (is_new (more.sessions client i) ⇒ NoSession)
      ∷ (is_closed (more.sessions client i) ⇒ IsStopped) ∷ (busy_alike (running own client) (running history client) (more.runs client) i ⇒ Busy) ∷ []

  tests_alike : (act : Act) → StillHas own history act → tests setup own act ≡ tests setup history act
  tests_alike (Hello client base) has = λ i. (is_open (more.sessions client i) ⇒ Busy) ∷ ((is_new (more.sessions client i) && nat_le setup.room.clients (more.clients i)) ⇒ ClientsFull) ∷ []
  tests_alike (Put client items) has = λ i. begin_tests_alike client i ++ (are_bad (keys_written items) ⇒ BadItems) ∷ (nat_le counter_limit (more.counters client i) ⇒ StampsUsed) ∷ []
  tests_alike (GetAll client keys) has = λ i. begin_tests_alike client i ++ (are_bad keys ⇒ BadItems) ∷ []
  tests_alike (Find client tag) has = begin_tests_alike client
  tests_alike (Deliver row) has = λ i. (nat_lt (max_rows - max_parts) (length (more.sent i)) ⇒ RowsUsed) ∷ (is_none (has i) ⇒ NoMessage) ∷ []
  tests_alike (Lose row) has = λ i. (is_none (has i) ⇒ NoMessage) ∷ []
  tests_alike (Retry client) has = λ i. (nat_lt (max_rows - max_parts) (length (more.sent i)) ⇒ RowsUsed) ∷ (is_new (more.sessions client i) ⇒ NoSession) ∷ (is_closed (more.sessions client i) ⇒ IsStopped) ∷ []
  tests_alike (Stop client) has = λ i. (is_new (more.sessions client i) ⇒ NoSession) ∷ (is_closed (more.sessions client i) ⇒ IsStopped) ∷ []
  tests_alike (CollectAt partition) has = refl
  tests_alike (SetKeep keep) has = refl

  -- ---- what it sends

  rows_alike : (n : ℕ) → next_rows own n ≡ next_rows history n
  rows_alike n = λ i. record { first = length (more.sent i) + 1; last = length (more.sent i) + n }

  sends_alike : (act : Act) (answer : Rows → Answer) (client client' ticket ticket' : ℕ) → client ≡ client' → ticket ≡ ticket' → (calls : List Outgoing) → sends own act answer client ticket calls ≡ sends history act answer client' ticket' calls
  sends_alike act answer client client' ticket ticket' c t calls = λ i. moment act (answer (rows_alike (length calls) i)) (map (call_message (c i) (t i)) calls)

  -- ---- a reply that its client takes

  module _ (one other : Transaction) (same : IsSameTransaction one other) where
    moves_alike : (act : Act) (move : Move) → moves own act one move ≡ moves history act other move
    moves_alike act Waits = refl
    moves_alike act (Decides stamp calls) = sends_alike act (Decided stamp) one.client other.client one.ticket other.ticket same.client same.ticket calls
    moves_alike act (Finishes stamp) = refl
    moves_alike act (Asks calls) = sends_alike act Ask one.client other.client one.ticket other.ticket same.client same.ticket calls
    moves_alike act (Begins calls) = sends_alike act BeginsRead one.client other.client one.ticket other.ticket same.client same.ticket calls
    moves_alike act (Reads readings) = refl
    moves_alike act (Lists readings) = refl
    moves_alike act (Restarts key floor) = refl
    moves_alike act (Fails refusal []) = refl
    moves_alike act (Fails refusal (out ∷ outs)) = sends_alike act (λ rows. Ended refusal (Some rows)) one.client other.client one.ticket other.ticket same.client same.ticket (out ∷ outs)

    taken_alike : taken_in own one ≡ taken_in history other
    unfolding taken_in
    taken_alike = λ i. filter (λ (m : Message). (m.client == same.client i) && (m.ticket == same.ticket i)) (more.replies i)

    wanted_taken : (act : Act) (message : Message) → takes setup own act message (Some one) ≡ takes setup history act message (Some other)
    wanted_taken act message =
        let move : move_of setup one.request (taken_in own one ++ message ∷ []) message ≡ move_of setup other.request (taken_in history other ++ message ∷ []) message = λ i. move_of setup (same.request i) (taken_alike i ++ message ∷ []) message in
        let moved : moves own act one (move_of setup one.request (taken_in own one ++ message ∷ []) message) ≡ moves history act other (move_of setup other.request (taken_in history other ++ message ∷ []) message) =
        ap (moves own act one) move ∙ moves_alike act (move_of setup other.request (taken_in history other ++ message ∷ []) message) in
        λ i. cond ((message.ticket == same.ticket i) && not (is_answered (taken_alike i) message.partition message.call)) (moved i) (moment act Ignored [])

    resends_alike : (act : Act) (calls : List Outgoing) → resends own act one calls ≡ resends history act other calls
    resends_alike act [] = refl
    resends_alike act (out ∷ outs) = sends_alike act (λ rows. Sent (Some rows)) one.client other.client one.ticket other.ticket same.client same.ticket (out ∷ outs)

    decided_alike : (request : Intent) → is_decided own request ≡ is_decided history request
    decided_alike (Writes stamp items) = λ i. list_any (nat_eq stamp) (more.stamps i)
    decided_alike (Gets keys) = refl
    decided_alike (Finds tag) = refl

    unanswered_alike : unanswered setup own one ≡ unanswered setup history other
    unanswered_alike =
        let decides : is_decided own one.request ≡ is_decided history other.request = decided_alike one.request ∙ ap (is_decided history) same.request in
        λ i. filter (λ (out : Outgoing). not (is_answered (taken_alike i) out.partition out.call)) (calls_of setup (decides i) (same.request i) (taken_alike i))

    resent : (act : Act) → retries setup own act (Some one) ≡ retries setup history act (Some other)
    resent act = ap (resends own act one) unanswered_alike ∙ resends_alike act (unanswered setup history other)

  takes_alike : (act : Act) (message : Message) (one other : Option Transaction) → RunsAlike one other → takes setup own act message one ≡ takes setup history act message other
  takes_alike act message None None alike = refl
  takes_alike act message None (Some other) alike = absurd alike
  takes_alike act message (Some one) None alike = absurd alike
  takes_alike act message (Some one) (Some other) alike = wanted_taken one other alike act message

  retries_alike : (act : Act) (one other : Option Transaction) → RunsAlike one other → retries setup own act one ≡ retries setup history act other
  retries_alike act None None alike = refl
  retries_alike act None (Some other) alike = absurd alike
  retries_alike act (Some one) None alike = absurd alike
  retries_alike act (Some one) (Some other) alike = resent one other alike act

  -- ---- its effect

  delivers_alike : (act : Act) (message : Message) (reply : Option Reply) → delivers setup own act message reply ≡ delivers setup history act message reply
  delivers_alike act message None = λ i. moment act (Replied (length (more.sent i) + 1) (reply_after setup.room (more.logs message.partition i) message.call)) (with_reply message (reply_after setup.room (more.logs message.partition i) message.call) ∷ [])
  delivers_alike act message (Some reply) = takes_alike act message (running own message.client) (running history message.client) (more.runs message.client)

  row_alike : (act : Act) (message : Option Message) → delivers_row setup own act message ≡ delivers_row setup history act message
  row_alike act None = refl
  row_alike act (Some message) = delivers_alike act message message.reply

  effect_alike : (act : Act) → StillHas own history act → effect setup own act ≡ effect setup history act
  unfolding effect
  effect_alike (Hello client base) has = λ i. moment (Hello client base) (Ready (max (more.counters client i) base)) []
  effect_alike (Put client items) has =
      λ i. let next = stamp (more.counters client i + 1) client in
      let calls = calls_of setup false (Writes next items) [] in
      moment (Put client items) (PutBegun next (rows_alike (length calls) i)) (map (call_message client (more.begun client i + 1)) calls)
  effect_alike (GetAll client keys) has = sends_alike (GetAll client keys) GetBegun client client _ _ refl (λ i. more.begun client i + 1) (calls_of setup false (Gets keys) [])
  effect_alike (Find client tag) has = sends_alike (Find client tag) FindBegun client client _ _ refl (λ i. more.begun client i + 1) (calls_of setup false (Finds tag) [])
  effect_alike (Deliver row) has = ap (delivers_row setup own (Deliver row)) has ∙ row_alike (Deliver row) (message_at history row)
  effect_alike (Lose row) has = refl
  effect_alike (Retry client) has = retries_alike (Retry client) (running own client) (running history client) (more.runs client)
  effect_alike (Stop client) has = refl
  effect_alike (CollectAt partition) has = λ i. moment (CollectAt partition) (Freed (count_freed (reply_after setup.room (more.logs partition i) (Collect (more.keep i))))) []
  effect_alike (SetKeep keep) has = refl

  -- the same step is taken after both
  pub moment_alike : (act : Act) → StillHas own history act → moment_of setup own act ≡ moment_of setup history act
  unfolding moment_of
  moment_alike act has = λ i. after_tests act (tests_alike act has i) (effect_alike act has i)

  -- and is answered alike
  pub answer_alike : (act : Act) → StillHas own history act → answer_to setup own act ≡ answer_to setup history act
  unfolding answer_to
  answer_alike act has = ap (λ (m : Moment). m.answer) (moment_alike act has)

  -- ---- what it leaves

  gained_alike : (act : Act) (answer : Answer) → client_gained act answer own ≡ client_gained act answer history
  gained_alike (Hello client base) (Ready counter) = λ i. cond (is_new (more.sessions client i)) 1 0
  gained_alike act answer = refl

  took_alike : (act : Act) (answer : Answer) → StillHas own history act → took act answer own ≡ took act answer history
  took_alike (Deliver row) answer has = λ i. cond (is_move answer) (has i) None
  took_alike act answer has = refl

  ends_alike : (act : Act) (answer : Answer) (client : ℕ) → StillHas own history act → ends act answer own client ≡ ends act answer history client
  ends_alike (Deliver row) answer client has = λ i. is_last answer && is_by client (has i)
  ends_alike (Stop c) Stopped client has = refl
  ends_alike act answer client has = refl

  counted_alike : (act : Act) (answer : Answer) (client : ℕ) → StillHas own history act → counter_gained act answer own client ≡ counter_gained act answer history client
  counted_alike (Deliver row) answer client has = λ i. cond (is_move answer) (counter_taken client (has i)) 0
  counted_alike (Hello c base) (Ready counter) client has = refl
  counted_alike (Put c items) (PutBegun stamp rows) client has = refl
  counted_alike act answer client has = refl

  transaction_alike : (begun : ℕ × Intent) → IsSameTransaction (record { client = begun.0; ticket = tickets own begun.0 + 1; begun = length own; request = begun.1 }) (record { client = begun.0; ticket = tickets history begun.0 + 1; begun = length history; request = begun.1 })
  transaction_alike begun = record { client = refl; ticket = λ i. more.begun begun.0 i + 1; request = refl }

  running_alike : (begun : Option (ℕ × Intent)) (ended : Bool) (client : ℕ) (one other : Option Transaction) → RunsAlike one other → RunsAlike (running_after (transaction_of own begun) ended client one) (running_after (transaction_of history begun) ended client other)
  running_alike None true client one other alike = tt
  running_alike None false client one other alike = alike
  running_alike (Some begun) ended client one other alike = go (begun.0 == client)
    where
      go : (b : Bool) → RunsAlike (cond b (transaction_of own (Some begun)) one) (cond b (transaction_of history (Some begun)) other)
      go true = transaction_alike begun
      go false = alike

  lost_same : (row : ℕ) (now : List ℕ) → is_lost own row ≡ is_lost history row → list_any (λ l. l == row) (now ++ lost_rows own) ≡ list_any (λ l. l == row) (now ++ lost_rows history)
  lost_same row [] same = same
  lost_same row (l ∷ now) same = ap (λ b. (l == row) || b) (lost_same row now same)

  none_lost : (row : ℕ) (now : List ℕ) → list_any (λ l. l == row) (now ++ lost_rows own) ≡ false → list_any (λ l. l == row) (now ++ lost_rows history) ≡ false
  none_lost row [] none = more.lost row none
  none_lost row (l ∷ now) none = go (l == row) none (none_lost row now)
    where
      go : (b : Bool) → (b || list_any (λ k. k == row) (now ++ lost_rows own)) ≡ false → (list_any (λ k. k == row) (now ++ lost_rows own) ≡ false → list_any (λ k. k == row) (now ++ lost_rows history) ≡ false)
          → (b || list_any (λ k. k == row) (now ++ lost_rows history)) ≡ false
      go true bad later = bad
      go false rest later = later rest

  next_alike : (m : Moment) → StillHas own history m.act → HasLostMore setup (m ∷ own) (m ∷ history)
  next_alike m has = record {
    sent = λ i. more.sent i ++ m.sent;
    lost = λ row. none_lost row (row_lost m.act m.answer);
    keep = λ i. keep_after m.act (more.keep i);
    logs = λ partition i. collection (more.keep i) partition m.act m.answer ++ (filter_map (λ (message : Message). exchange_of partition message message.reply) m.sent ++ more.logs partition i);
    sessions = λ client i. session_after m.act m.answer client (more.sessions client i);
    clients = λ i. gained_alike m.act m.answer i + more.clients i;
    begun = λ client i. one_if_by client (begun_by m.act m.answer) + more.begun client i;
    replies = λ i. more.replies i ++ option_to_list (took_alike m.act m.answer has i);
    runs = λ client. subst (λ b. RunsAlike (running (m ∷ own) client) (running_after (transaction_of history (begun_by m.act m.answer)) b client (running history client))) (ends_alike m.act m.answer client has)
        (running_alike (begun_by m.act m.answer) (ends m.act m.answer own client) client (running own client) (running history client) (more.runs client));
    counters = λ client i. max (counted_alike m.act m.answer client has i) (more.counters client i);
    stamps = λ i. stamp_decided m.answer ++ more.stamps i;
  }

  still_has : (act : Act) → StillHas own history act → StillHas own history (moment_of setup own act).act
  still_has act has = subst (StillHas own history) (sym (moment_act setup own act)) has

  -- and it leaves as much
  pub step_alike : (act : Act) → StillHas own history act → HasLostMore setup (moment_of setup own act ∷ own) (moment_of setup history act ∷ history)
  step_alike act has = subst (λ m. HasLostMore setup (moment_of setup own act ∷ own) (m ∷ history)) (moment_alike act has) (next_alike (moment_of setup own act) (still_has act has))

  -- where no more was lost before, no more is then
  pub lost_alike : (act : Act) → StillHas own history act → lost_rows own ≡ lost_rows history → lost_rows (moment_of setup own act ∷ own) ≡ lost_rows (moment_of setup history act ∷ history)
  lost_alike act has none =
      λ i. row_lost (moment_alike act has i).act (moment_alike act has i).answer ++ none i

  -- of what was not delivered no more is lost then
  pub undelivered_alike : (acts : List Act) (act : Act) → StillHas own history act → KeepsUndelivered acts own history
      → KeepsUndelivered (acts ++ act ∷ []) (moment_of setup own act ∷ own) (moment_of setup history act ∷ history)
  undelivered_alike acts act has kept row none =
      lost_same row (row_lost (moment_of setup own act).act (moment_of setup own act).answer) (kept row (neither (is_delivered acts row) (is_delivered (act ∷ []) row) (sym (list_any-append (is_delivery row) acts (act ∷ [])) ∙ none)))
      ∙ ap (λ m. is_lost (m ∷ history) row) (moment_alike act has)

  -- ---- a message that is lost

  refusal_lost : (row : ℕ) (why : Refusal) → HasLostMore setup (moment (Lose row) (Refused why) [] ∷ own) history
  refusal_lost row why = record {
    sent = append-nil (messages own) ∙ more.sent;
    lost = more.lost;
    keep = more.keep;
    logs = more.logs;
    sessions = more.sessions;
    clients = omega (arith, more.clients);
    begun = λ client. omega (arith, more.begun client);
    replies = append-nil (taken own) ∙ more.replies;
    runs = more.runs;
    counters = λ client. omega (arith, more.counters client);
    stamps = more.stamps;
  }

  lost_now : (row r : ℕ) → list_any (λ l. l == r) (row ∷ lost_rows own) ≡ false → list_any (λ l. l == r) (lost_rows history) ≡ false
  lost_now row r none = go (row == r) none
    where
      go : (b : Bool) → (b || list_any (λ l. l == r) (lost_rows own)) ≡ false → list_any (λ l. l == r) (lost_rows history) ≡ false
      go true bad = let wrong : true ≡ false = bad in cc
      go false rest = more.lost r rest

  now_lost : (row : ℕ) → HasLostMore setup (moment (Lose row) Lost [] ∷ own) history
  now_lost row = record {
    sent = append-nil (messages own) ∙ more.sent;
    lost = lost_now row;
    keep = more.keep;
    logs = more.logs;
    sessions = more.sessions;
    clients = omega (arith, more.clients);
    begun = λ client. omega (arith, more.begun client);
    replies = append-nil (taken own) ∙ more.replies;
    runs = more.runs;
    counters = λ client. omega (arith, more.counters client);
    stamps = more.stamps;
  }

  -- the loss of a message changes nothing else
  pub loses_alike : (row : ℕ) → HasLostMore setup (moment_of setup own (Lose row) ∷ own) history
  unfolding moment_of effect
  loses_alike row = go (is_none (message_at own row))
    where
      go : (b : Bool) → HasLostMore setup (cond b (moment (Lose row) (Refused NoMessage) []) (moment (Lose row) Lost []) ∷ own) history
      go true = refusal_lost row NoMessage
      go false = now_lost row

  -- it is not there any more
  pub gone_now : (row : ℕ) → message_at (moment_of setup own (Lose row) ∷ own) row ≡ None
  unfolding message_at moment_of effect
  gone_now row = go (is_none (message_at own row)) refl
    where
      with_row : (zero_row : Bool) (x : Option Message) → cond (zero_row || true) None x ≡ None
      with_row true x = refl
      with_row false x = refl

      go : (b : Bool) → is_none (message_at own row) ≡ b → message_at (cond b (moment (Lose row) (Refused NoMessage) []) (moment (Lose row) Lost []) ∷ own) row ≡ None
      go true none = ap (λ ms. cond ((row == 0) || is_lost own row) None (slice_get ms (row - 1))) (append-nil (messages own)) ∙ none_is (message_at own row) none
      go false there = ap (λ b. cond ((row == 0) || (b || is_lost own row)) None (slice_get (messages own ++ []) (row - 1))) (eq-eqb row row refl) ∙ with_row (row == 0) (slice_get (messages own ++ []) (row - 1))

  -- and of what was not delivered no more is lost, where it was
  pub undelivered_kept : (acts : List Act) (row : ℕ) → is_delivered acts row ≡ true → KeepsUndelivered acts own history → KeepsUndelivered acts (moment_of setup own (Lose row) ∷ own) history
  unfolding moment_of effect
  undelivered_kept acts row delivered kept r none = go (is_none (message_at own row))
    where
      apart : (row == r) ≡ false
      apart = elim (cases_Bool (row == r)) [
        | inl h ↦ let bad : true ≡ false = sym delivered ∙ ap (is_delivered acts) (eqb-true row r h) ∙ none in cc
        | inr h ↦ h
      ]

      go : (b : Bool) → is_lost (cond b (moment (Lose row) (Refused NoMessage) []) (moment (Lose row) Lost []) ∷ own) r ≡ is_lost history r
      go true = kept r none
      go false = ap (λ b. b || is_lost own r) apart ∙ kept r none

  -- ---- which messages are there

  -- one that is still there after the losses is there without them
  pub still_there : (row : ℕ) (message : Message) → message_at own row ≡ Some message → message_at own row ≡ message_at history row
  unfolding message_at
  still_there row message at = go (row == 0) (list_any (λ l. l == row) (lost_rows own)) refl at
    where
      go : (zero_row lost : Bool) → list_any (λ l. l == row) (lost_rows own) ≡ lost → cond (zero_row || lost) None (slice_get (messages own) (row - 1)) ≡ Some message
          → cond (zero_row || lost) None (slice_get (messages own) (row - 1)) ≡ cond (zero_row || list_any (λ l. l == row) (lost_rows history)) None (slice_get (messages history) (row - 1))
      go true lost is there = let bad : None ≡ Some message = there in cc
      go false true is there = let bad : None ≡ Some message = there in cc
      go false false is there = ap (λ ms. slice_get ms (row - 1)) more.sent ∙ ap (λ b. cond b None (slice_get (messages history) (row - 1))) (sym (more.lost row is))

  pub found_there : (row : ℕ) (found : Option (Bor Message)) (missing : Bool) → option_copied found ≡ message_at own row → is_some found ≡ not missing → missing ≡ false → message_at own row ≡ message_at history row
  found_there row None missing at test is = let bad : false ≡ true = test ∙ ap not is in cc
  found_there row (Some message) missing at test is = still_there row message.now (sym at)

  -- where no more was lost, each is
  pub all_there : lost_rows own ≡ lost_rows history → (row : ℕ) → message_at own row ≡ message_at history row
  unfolding message_at
  all_there none row = λ i. cond ((row == 0) || list_any (λ l. l == row) (none i)) None (slice_get (more.sent i) (row - 1))
