-- A reader's answer rests on the replies that it took.
use Rattle.std.proofs.Common.{◌≡◌, ℕ, List, [], ◌∷◌, ◌++◌, Bool, true, false, ◌&&◌, ◌==◌, ◌⊎◌, inl, inr, refl, sym, ap, ◌∙◌, subst, cond, not, nat_lt, Option, Some, None}
use Rattle.std.specs.List.{list_any}
use Rattle.std.proofs.lemmas.Bool.{and_parts}
use Rattle.stamps.specs.Limits.{max_found}
use Rattle.plain_store.specs.Words.{◌∈◌, Key, Tag, Stamp, Item, Call, Prepare, Commit, Get, Found, Prepared, FullSlots, FullItems, Clash, Discarded, ReadReply, Version, Initial, Collected, Unknown, Reply, ToPrepare, ToCommit, ToGet, ToFound, Act, Deliver, Message, Refusal, NoSlot, NoItem, Torn, TooMany, Reading, Answer, Read, Listed, Restart, Setup, home}
use Rattle.plain_store.specs.History.{Moment, History, messages, message_at, log_at, Intent, Writes, Gets, Finds, Transaction, transactions, is_move, is_of, taken_in, running}
use Rattle.plain_store.specs.Writing.{Outgoing, all_prepared, all_committed, commit_calls}
use Rattle.plain_store.specs.Rounds.{first_calls, second_calls, round_one_complete, round_two_complete, readings, is_false_first, is_false_second}
use Rattle.plain_store.specs.Finding.{all_found, total_found, all_keys_found, carrying}
use Rattle.plain_store.specs.Moves.{Move, Waits, Decides, Finishes, Asks, Begins, Reads, Lists, Restarts, Fails, write_move, first_move, second_move, read_move, search_move, find_move, move_of}
use Rattle.plain_store.specs.Run.{moves}
use Rattle.plain_store.specs.Laws.{running_for, IsCallOf}
use Rattle.plain_store.specs.Told.{replies_with, IsReadersCall, IsPartitionsReply, MovesBy, AreReadings, IsToldAnswer}
use Rattle.plain_store.specs.Partitions.{IsRefusedByFull, WasFull, IsFullAnswer}
use Rattle.plain_store.proofs.Members.{in_right, in_cases}
use Rattle.plain_store.proofs.Steps.{Happens, refused, greeted, put_begun, get_begun, find_begun, served, ignored, moved, lost, not_resent, resent, stopped, keep_set, collected}
use Rattle.plain_store.proofs.StaysTrue.{at_is, taken_sent, taken_in_is, running_is}
use Rattle.plain_store.proofs.KeptLogs.{Kept, is_of_wanted}
use Rattle.plain_store.proofs.StepEffects.{IsTurn, IsQuiet, moves_is_move}
use Rattle.plain_store.proofs.Owned.{Owned}
use Rattle.plain_store.proofs.Served.{Logged, TakenReplies, partitions_reply, reply_full}

-- ---- who reads, lists and restarts, and who wants room

-- what a move says of its request: a put does not read, a get reads what its replies show, and want of room answers the reply that says so
abbrev Says : Setup → Intent → List Message → Message → Move → Type 0
Says setup (Writes stamp items) replies message (Reads told) = ⊥
Says setup (Writes stamp items) replies message (Lists told) = ⊥
Says setup (Writes stamp items) replies message (Restarts key floor) = ⊥
Says setup (Gets keys) replies message (Reads told) = AreReadings keys replies told
Says setup (Gets keys) replies message (Lists told) = ⊥
Says setup (Finds tag) replies message (Reads told) = ⊥
Says setup request replies message (Fails NoSlot calls) = message.reply ≡ Some (ToPrepare FullSlots)
Says setup request replies message (Fails NoItem calls) = message.reply ≡ Some (ToPrepare FullItems)
Says setup request replies message move = Unit {0}

write_says : (setup : Setup) (stamp : Stamp) (items : List Item) (replies : List Message) (message : Message) (call : Call) (reply : Option Reply) → message.reply ≡ reply
    → Says setup (Writes stamp items) replies message (write_move setup stamp items replies call reply)
write_says setup stamp items replies message (Prepare version) (Some (ToPrepare Prepared)) e = go (all_prepared stamp items replies)
  where
    go : (b : Bool) → Says setup (Writes stamp items) replies message (cond b (Decides stamp (commit_calls setup stamp items)) Waits)
    go true = tt
    go false = tt
write_says setup stamp items replies message (Prepare version) (Some (ToPrepare FullSlots)) e = e
write_says setup stamp items replies message (Prepare version) (Some (ToPrepare FullItems)) e = e
write_says setup stamp items replies message (Prepare version) (Some (ToPrepare Clash)) e = tt
write_says setup stamp items replies message (Prepare version) (Some (ToPrepare Discarded)) e = tt
write_says setup stamp items replies message (Commit s) (Some (ToCommit count)) e = go (all_committed setup stamp items replies)
  where
    go : (b : Bool) → Says setup (Writes stamp items) replies message (cond b (Finishes stamp) Waits)
    go true = tt
    go false = tt
write_says setup stamp items replies message call reply e = tt

-- what a reader's moves say, whoever it is
abbrev Reader : Setup → Intent → List Key → List Message → Message → (List Reading → Move) → Type 0
Reader setup request keys replies message tells =
    (round_one_complete keys replies ≡ true → round_two_complete keys replies ≡ true → Says setup request replies message (tells (readings keys replies))) × Says setup request replies message Waits × ((calls : List Outgoing) → Says setup request replies message (Asks calls))
    × ((key : Key) (floor : Stamp) → Says setup request replies message (Restarts key floor)) × Says setup request replies message (Fails Torn [])

first_says : (setup : Setup) (request : Intent) (keys : List Key) (replies : List Message) (message : Message) (tells : List Reading → Move) (key : Key) (reply : ReadReply) → Reader setup request keys replies message tells
    → Says setup request replies message (first_move setup keys replies tells key reply)
first_says setup request keys replies message tells key reply says = go (is_false_first key reply)
  where
    late : (b : Bool) → round_one_complete keys replies ≡ true → round_two_complete keys replies ≡ b → Says setup request replies message (cond b (tells (readings keys replies)) (Asks (second_calls setup keys replies)))
    late true one two = says.0 one two
    late false one two = says.2 (second_calls setup keys replies)

    whole : (b : Bool) → round_one_complete keys replies ≡ b → Says setup request replies message (cond (not b) Waits (cond (round_two_complete keys replies) (tells (readings keys replies)) (Asks (second_calls setup keys replies))))
    whole true one = late (round_two_complete keys replies) one refl
    whole false one = says.1

    go : (b : Bool) → Says setup request replies message (cond b (Fails Torn [])
        (cond (not (round_one_complete keys replies)) Waits (cond (round_two_complete keys replies) (tells (readings keys replies)) (Asks (second_calls setup keys replies)))))
    go true = says.4
    go false = whole (round_one_complete keys replies) refl

second_says : (setup : Setup) (request : Intent) (keys : List Key) (replies : List Message) (message : Message) (tells : List Reading → Move) (key : Key) (stamp : Stamp) (reply : ReadReply)
    → Reader setup request keys replies message tells → Says setup request replies message (second_move keys replies tells key stamp reply)
second_says setup request keys replies message tells key stamp (Version version) says = go (is_false_second replies key stamp (Version version))
  where
    whole : (b : Bool) → (round_one_complete keys replies && round_two_complete keys replies) ≡ b → Says setup request replies message (cond b (tells (readings keys replies)) Waits)
    whole true e = let p = and_parts (round_one_complete keys replies) (round_two_complete keys replies) e in says.0 p.0 p.1
    whole false e = says.1

    go : (b : Bool) → Says setup request replies message (cond b (Fails Torn []) (cond (round_one_complete keys replies && round_two_complete keys replies) (tells (readings keys replies)) Waits))
    go true = says.4
    go false = whole (round_one_complete keys replies && round_two_complete keys replies) refl
second_says setup request keys replies message tells key stamp (Collected floor) says = go (nat_lt stamp floor)
  where
    go : (b : Bool) → Says setup request replies message (cond b (Restarts key floor) (Fails Torn []))
    go true = says.3 key floor
    go false = says.4
second_says setup request keys replies message tells key stamp Initial says = says.4
second_says setup request keys replies message tells key stamp Unknown says = says.4

reader_says : (setup : Setup) (request : Intent) (keys : List Key) (replies : List Message) (message : Message) (tells : List Reading → Move) (call : Call) (reply : Option Reply)
    → Reader setup request keys replies message tells → Says setup request replies message (read_move setup keys replies tells call reply)
reader_says setup request keys replies message tells (Get key None) (Some (ToGet reply)) says = first_says setup request keys replies message tells key reply says
reader_says setup request keys replies message tells (Get key (Some stamp)) (Some (ToGet reply)) says = second_says setup request keys replies message tells key stamp reply says
reader_says setup request keys replies message tells call reply says = says.1

find_says : (setup : Setup) (tag : Tag) (replies : List Message) (message : Message) (partition : ℕ) (call : Call) (reply : Option Reply) → Says setup (Finds tag) replies message (find_move setup tag replies partition call reply)
find_says setup tag replies message partition (Found g) (Some (ToFound told)) = go (list_any (λ key. not (home setup key == partition)) told.keys)
  where
    searched : (a b : Bool) → Says setup (Finds tag) replies message (cond a (Fails TooMany []) (cond b (Lists []) (Begins (first_calls setup (all_keys_found replies)))))
    searched true b = tt
    searched false true = tt
    searched false false = tt

    whole : (b : Bool) → Says setup (Finds tag) replies message (cond b (search_move setup (total_found replies) (all_keys_found replies)) Waits)
    whole true = searched (nat_lt max_found (total_found replies)) (total_found replies == 0)
    whole false = tt

    go : (b : Bool) → Says setup (Finds tag) replies message (cond b (Fails Torn []) (cond (all_found setup replies) (search_move setup (total_found replies) (all_keys_found replies)) Waits))
    go true = tt
    go false = whole (all_found setup replies)
find_says setup tag replies message partition call reply =
    reader_says setup (Finds tag) (all_keys_found replies) replies message (λ rs. Lists (carrying tag rs)) call reply ((λ one two. tt), tt, (λ calls. tt), (λ key floor. tt), tt)

move_says : (setup : Setup) (request : Intent) (replies : List Message) (message : Message) → Says setup request replies message (move_of setup request replies message)
move_says setup (Writes stamp items) replies message = write_says setup stamp items replies message message.call message.reply refl
move_says setup (Gets keys) replies message = reader_says setup (Gets keys) keys replies message Reads message.call message.reply ((λ one two. (one, two, refl)), tt, (λ calls. tt), (λ key floor. tt), tt)
move_says setup (Finds tag) replies message = find_says setup tag replies message message.partition message.call message.reply

-- ---- the answer of a turn

-- a reader that runs, the reply that it takes, and what is known then
pub record Turn (setup : Setup) (older : History) : Type 0 where
  pub row : ℕ
  pub message : Message
  pub reply : Reply
  pub transaction : Transaction
  pub at : message_at older row ≡ Some message
  pub is : message.reply ≡ Some reply
  pub runs : running older message.client ≡ Some transaction
  pub own : (q : Message) → q ∈ replies_with older transaction message → IsCallOf setup transaction.request q.partition q.call × IsPartitionsReply setup older q

abbrev replies_in : (setup : Setup) (older : History) → Turn setup older → List Message
replies_in setup older t = replies_with older t.transaction t.message

-- a request that reads
abbrev IsReader : Intent → Type 0
IsReader (Writes stamp items) = ⊥
IsReader (Gets keys) = Unit {0}
IsReader (Finds tag) = Unit {0}

readers_call : (setup : Setup) (request : Intent) (partition : ℕ) (call : Call) → IsReader request → IsCallOf setup request partition call → IsReadersCall setup request partition call
readers_call setup (Writes stamp items) partition call reads goes = absurd reads
readers_call setup (Gets keys) partition call reads goes = goes
readers_call setup (Finds tag) partition call reads goes = goes

moves_by : (setup : Setup) (older : History) (t : Turn setup older) (move : Move) → IsReader t.transaction.request → move_of setup t.transaction.request (replies_in setup older t) t.message ≡ move → MovesBy setup older (Deliver t.row) move
moves_by setup older t move reads e = record {
  reader = t.transaction;
  last = t.message;
  runs = ap (running_for older) t.at ∙ t.runs;
  comes = t.at;
  moves = e;
  asked = λ q h. readers_call setup t.transaction.request q.partition q.call reads (t.own q h).0;
  replied = λ q h. (t.own q h).1;
}

told_turn : (setup : Setup) (older : History) (t : Turn setup older) (move : Move) → move_of setup t.transaction.request (replies_in setup older t) t.message ≡ move
    → IsToldAnswer setup older (moves older (Deliver t.row) t.transaction move).act (moves older (Deliver t.row) t.transaction move).answer
unfolding moves_by
told_turn setup older t move e = go move e (subst (λ x. Says setup t.transaction.request (replies_in setup older t) t.message x) e (move_says setup t.transaction.request (replies_in setup older t) t.message))
  where
    reads : (request : Intent) (told : List Reading) → Says setup request (replies_in setup older t) t.message (Reads told) → IsReader request × ((keys : List Key) × (request ≡ Gets keys) × AreReadings keys (replies_in setup older t) told)
    reads (Writes stamp items) told s = absurd s
    reads (Gets keys) told s = (tt, (keys, refl, s))
    reads (Finds tag) told s = absurd s

    lists : (request : Intent) (told : List Reading) → Says setup request (replies_in setup older t) t.message (Lists told) → IsReader request
    lists (Writes stamp items) told s = s
    lists (Gets keys) told s = tt
    lists (Finds tag) told s = tt

    restarts : (request : Intent) (key : Key) (floor : Stamp) → Says setup request (replies_in setup older t) t.message (Restarts key floor) → IsReader request
    restarts (Writes stamp items) key floor s = s
    restarts (Gets keys) key floor s = tt
    restarts (Finds tag) key floor s = tt

    go : (move : Move) → move_of setup t.transaction.request (replies_in setup older t) t.message ≡ move → Says setup t.transaction.request (replies_in setup older t) t.message move
        → IsToldAnswer setup older (moves older (Deliver t.row) t.transaction move).act (moves older (Deliver t.row) t.transaction move).answer
    go (Reads told) e s = let r = reads t.transaction.request told s in (moves_by setup older t (Reads told) r.0 e, r.1.0, r.1.1, r.1.2)
    go (Lists told) e s = moves_by setup older t (Lists told) (lists t.transaction.request told s) e
    go (Restarts key floor) e s = moves_by setup older t (Restarts key floor) (restarts t.transaction.request key floor s) e
    go (Fails why []) e s = tt
    go (Fails why (out ∷ outs)) e s = tt
    go _ e s = tt

-- a turn of a run
turn_of : (setup : Setup) (older : History) (m : Moment) → Kept setup older → Owned setup older → Logged setup older → TakenReplies older → IsTurn setup older m
    → (t : Turn setup older) × (m ≡ moves older (Deliver t.row) t.transaction (move_of setup t.transaction.request (replies_in setup older t) t.message))
turn_of setup older m kept owned logged replied (row, message, reply, transaction, at, e, r, wanted, same) =
    (record { row = row; message = message; reply = reply; transaction = transaction; at = at; is = e; runs = r; own = own }, same)
  where
    here : transaction ∈ transactions older
    here = (running_is older message.client transaction r).0

    each : (q : Message) → q ∈ messages older → is_of transaction q ≡ true → (x : Reply) × (q.reply ≡ Some x) → IsCallOf setup transaction.request q.partition q.call × IsPartitionsReply setup older q
    each q h of has = (owned transaction q here h of, partitions_reply setup older q logged h has)

    own : (q : Message) → q ∈ replies_with older transaction message → IsCallOf setup transaction.request q.partition q.call × IsPartitionsReply setup older q
    own q h = go (in_cases (taken_in older transaction) (message ∷ []) q h)
      where
        go : (q ∈ taken_in older transaction) ⊎ (q ∈ (message ∷ [])) → IsCallOf setup transaction.request q.partition q.call × IsPartitionsReply setup older q
        go (inl k) = let i = taken_in_is older transaction q k in each q (taken_sent older q i.0) i.1 (replied q i.0)
        go (inr (inl s)) =
            each q (subst (λ (x : Message). x ∈ messages older) (sym s) (at_is older row message at)) (ap (is_of transaction) s ∙ is_of_wanted older message transaction r wanted) (reply, ap (λ (x : Message). x.reply) s ∙ e)
        go (inr (inr n)) = absurd n

quiet_told : (setup : Setup) (older : History) (act : Act) (answer : Answer) → is_move answer ≡ false → IsToldAnswer setup older act answer
quiet_told setup older act (Read told) q = cc
quiet_told setup older act (Listed told) q = cc
quiet_told setup older act (Restart key bound) q = cc
quiet_told setup older act answer q = tt

pub step_told : (setup : Setup) (older : History) (m : Moment) → Kept setup older → Owned setup older → Logged setup older → TakenReplies older → IsQuiet m ⊎ IsTurn setup older m → IsToldAnswer setup older m.act m.answer
step_told setup older m kept owned logged replied (inl quiet) = quiet_told setup older m.act m.answer quiet
step_told setup older m kept owned logged replied (inr turn) =
    let t = turn_of setup older m kept owned logged replied turn in
    subst (λ (x : Moment). IsToldAnswer setup older x.act x.answer) (sym t.1) (told_turn setup older t.0 _ refl)

-- ---- want of room

was_full : (setup : Setup) (older : History) (t : Turn setup older) (reply : Reply) → t.message.reply ≡ Some reply → IsPartitionsReply setup older t.message → WasFull setup older (Deliver t.row) reply
was_full setup older t reply e p =
    let both : Some p.reply ≡ Some reply = sym p.carries ∙ e in
    let same : p.reply ≡ reply = cc in
    record {
      message = t.message;
      later = p.later;
      earlier = p.earlier;
      comes = t.at;
      stands = p.stands ∙ ap (λ r. p.later ++ record { call = t.message.call; reply = r } ∷ p.earlier) same;
      full = subst (λ r. IsRefusedByFull setup p.earlier t.message.call r) (sym p.answers ∙ same) (reply_full setup p.earlier t.message.call);
    }

full_turn : (setup : Setup) (older : History) (t : Turn setup older) (move : Move) → IsPartitionsReply setup older t.message → Says setup t.transaction.request (replies_in setup older t) t.message move
    → IsFullAnswer setup older (moves older (Deliver t.row) t.transaction move).act (moves older (Deliver t.row) t.transaction move).answer
full_turn setup older t Waits p s = tt
full_turn setup older t (Decides stamp calls) p s = tt
full_turn setup older t (Finishes stamp) p s = tt
full_turn setup older t (Asks calls) p s = tt
full_turn setup older t (Begins calls) p s = tt
full_turn setup older t (Reads told) p s = tt
full_turn setup older t (Lists told) p s = tt
full_turn setup older t (Restarts key floor) p s = tt
full_turn setup older t (Fails why calls) p s = go why calls s
  where
    slot : (calls : List Outgoing) (request : Intent) → Says setup request (replies_in setup older t) t.message (Fails NoSlot calls) → t.message.reply ≡ Some (ToPrepare FullSlots)
    slot calls (Writes stamp items) s = s
    slot calls (Gets keys) s = s
    slot calls (Finds tag) s = s

    item : (calls : List Outgoing) (request : Intent) → Says setup request (replies_in setup older t) t.message (Fails NoItem calls) → t.message.reply ≡ Some (ToPrepare FullItems)
    item calls (Writes stamp items) s = s
    item calls (Gets keys) s = s
    item calls (Finds tag) s = s

    go : (why : Refusal) (calls : List Outgoing) → Says setup t.transaction.request (replies_in setup older t) t.message (Fails why calls)
        → IsFullAnswer setup older (moves older (Deliver t.row) t.transaction (Fails why calls)).act (moves older (Deliver t.row) t.transaction (Fails why calls)).answer
    go NoSlot [] s = was_full setup older t (ToPrepare FullSlots) (slot [] t.transaction.request s) p
    go NoSlot (out ∷ outs) s = was_full setup older t (ToPrepare FullSlots) (slot (out ∷ outs) t.transaction.request s) p
    go NoItem [] s = was_full setup older t (ToPrepare FullItems) (item [] t.transaction.request s) p
    go NoItem (out ∷ outs) s = was_full setup older t (ToPrepare FullItems) (item (out ∷ outs) t.transaction.request s) p
    go why [] s = tt
    go why (out ∷ outs) s = tt

pub step_full : (setup : Setup) (older : History) (m : Moment) → Kept setup older → Owned setup older → Logged setup older → TakenReplies older → Happens setup older m → IsQuiet m ⊎ IsTurn setup older m → IsFullAnswer setup older m.act m.answer
step_full setup older m kept owned logged replied how (inr turn) =
    let t = turn_of setup older m kept owned logged replied turn in
    let here : t.0.message ∈ replies_in setup older t.0 = in_right (taken_in older t.0.transaction) (t.0.message ∷ []) t.0.message (inl refl) in
    subst (λ (x : Moment). IsFullAnswer setup older x.act x.answer) (sym t.1)
    (full_turn setup older t.0 (move_of setup t.0.transaction.request (replies_in setup older t.0) t.0.message) (t.0.own t.0.message here).1
    (move_says setup t.0.transaction.request (replies_in setup older t.0) t.0.message))
step_full setup older m kept owned logged replied (refused act why) (inl quiet) = tt
step_full setup older m kept owned logged replied (greeted client base) (inl quiet) = tt
step_full setup older m kept owned logged replied (put_begun client items valid idle good) (inl quiet) = tt
step_full setup older m kept owned logged replied (get_begun client keys idle) (inl quiet) = tt
step_full setup older m kept owned logged replied (find_begun client tag idle) (inl quiet) = tt
step_full setup older m kept owned logged replied (served row message at r) (inl quiet) = (message, at, reply_full setup (log_at setup older message.partition) message.call)
step_full setup older m kept owned logged replied (ignored row message at) (inl quiet) = tt
step_full setup older m kept owned logged replied (moved row message reply transaction move at e r wanted how) (inl quiet) = let t = moves_is_move older (Deliver row) transaction move in cc
step_full setup older m kept owned logged replied (lost row) (inl quiet) = tt
step_full setup older m kept owned logged replied (not_resent client) (inl quiet) = tt
step_full setup older m kept owned logged replied (resent client transaction out outs r u) (inl quiet) = tt
step_full setup older m kept owned logged replied (stopped client) (inl quiet) = tt
step_full setup older m kept owned logged replied (keep_set keep) (inl quiet) = tt
step_full setup older m kept owned logged replied (collected partition n) (inl quiet) = tt
