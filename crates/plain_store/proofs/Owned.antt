-- Each message of a transaction is of a call that its request makes.
use Rattle.std.proofs.Common.{◌≡◌, ℕ, zero, suc, ◌+◌, ◌<◌, ◌≤◌, List, [], ◌∷◌, ◌++◌, Bool, true, false, ◌&&◌, ◌==◌, ◌⊎◌, inl, inr, refl, sym, ap, ◌∙◌, subst, cond, not, map, length, nat_lt, Option, Some, None, option_to_list, arith}
use Rattle.std.specs.List.{list_any}
use Rattle.plain_store.specs.Words.{◌∈◌, Key, Tag, Stamp, Item, Record, Call, Prepare, Commit, Get, Found, Discard, Prepared, FullSlots, FullItems, Clash, Discarded, ReadReply, Version, Initial, Collected, Unknown, Reply, ToPrepare, ToCommit, ToGet, ToFound, Act, Put, GetAll, Find, Deliver, Message, Refusal, NoSlot, NoItem, Torn, TooMany, Reading, Rows, Answer, PutBegun, GetBegun, FindBegun, Setup, home}
use Rattle.plain_store.specs.History.{Moment, History, messages, Intent, Writes, Gets, Finds, Transaction, transactions, begun_by, transaction_of, is_of, taken_in, tickets}
use Rattle.plain_store.specs.Writing.{Outgoing, prepare_call, prepare_calls, commit_calls, discard_calls, partitions_written, all_prepared, all_committed}
use Rattle.plain_store.specs.Rounds.{first_calls, second_calls, reading_calls, needed, is_late, late_keys, round_one_complete, round_two_complete, readings, is_false_first, is_false_second}
use Rattle.plain_store.specs.Finding.{found_calls, all_found, all_keys_found, total_found, below, carrying}
use Rattle.plain_store.specs.Moves.{Move, Waits, Decides, Finishes, Asks, Begins, Reads, Lists, Restarts, Fails, write_move, first_move, second_move, read_move, search_move, find_move, move_of, calls_of, is_answered}
use Rattle.plain_store.specs.Run.{call_message, with_reply, begins, next_stamp, is_decided}
use Rattle.plain_store.proofs.Members.{in_left, in_right, in_cases, in_map, map_in, in_filter}
use Rattle.std.proofs.lemmas.Bool.{cases_lt}
use Rattle.stamps.specs.Limits.{max_found}
use Rattle.plain_store.proofs.Steps.{Happens, refused, greeted, put_begun, get_begun, find_begun, served, ignored, moved, lost, not_resent, resent, stopped, keep_set, collected}
use Rattle.plain_store.proofs.StaysTrue.{at_is, running_is, transaction_stays}
use Rattle.plain_store.proofs.Sound.{of_transaction, written_home}
use Rattle.plain_store.specs.Laws.{IsWritersCall, IsFindersCall, IsCallOf, IsAtHome}
use Rattle.plain_store.proofs.KeptLogs.{Kept, NewBegun}
use Rattle.plain_store.proofs.FreshLogs.{Fresh}
use Rattle.plain_store.proofs.StepEffects.{IsTurn, IsQuiet, calls_made, moves_sent, moves_is_move}

-- the calls are those of the request
abbrev pub AreOwn : Setup → Intent → List Outgoing → Type 0
AreOwn setup request calls = (out : Outgoing) → out ∈ calls → IsCallOf setup request out.partition out.call

in_below : (n p : ℕ) → p ∈ below n → p < n
in_below zero p h = absurd h
in_below (suc n) p h = go (in_cases (below n) (n ∷ []) p h) (in_below n p)
  where
    go : (p ∈ below n) ⊎ (p ∈ (n ∷ [])) → (p ∈ below n → p < n) → p < suc n
    go (inl k) less = let l = less k in omega (arith, l)
    go (inr (inl e)) less = omega (arith, e)
    go (inr (inr k)) less = absurd k

pub below_in : (n p : ℕ) → p < n → p ∈ below n
below_in zero p h = absurd (omega arith)
below_in (suc n) p h = elim (cases_lt p n) [ inl k ↦ in_left (below n) (n ∷ []) p (below_in n p k) | inr k ↦ in_right (below n) (n ∷ []) p (inl (omega arith)) ]

-- ---- the calls of a request

pub none_own : (setup : Setup) (request : Intent) (calls : List Outgoing) → calls ≡ [] → AreOwn setup request calls
none_own setup request calls e out h = absurd (subst (λ (outs : List Outgoing). out ∈ outs) e h)

prepare_own : (setup : Setup) (stamp : Stamp) (items : List Item) → AreOwn setup (Writes stamp items) (prepare_calls setup stamp items)
prepare_own setup stamp items out h =
    let i = in_map (prepare_call setup stamp items) items out h in
    subst (λ (o : Outgoing). IsWritersCall setup stamp items o.partition o.call) (sym i.2) (map_in (λ (item : Item). item.key) items i.0 i.1, refl, refl)

commit_own : (setup : Setup) (stamp : Stamp) (items : List Item) → AreOwn setup (Writes stamp items) (commit_calls setup stamp items)
commit_own setup stamp items out h =
    let i = in_map (λ (partition : ℕ). record { partition = partition; call = Commit stamp }) (partitions_written setup items) out h in
    subst (λ (o : Outgoing). IsWritersCall setup stamp items o.partition o.call) (sym i.2) (refl, written_home setup items i.0 i.1)

discard_own : (setup : Setup) (stamp : Stamp) (items : List Item) → AreOwn setup (Writes stamp items) (discard_calls setup stamp items)
discard_own setup stamp items out h =
    let i = in_map (λ (partition : ℕ). record { partition = partition; call = Discard stamp }) (partitions_written setup items) out h in
    subst (λ (o : Outgoing). IsWritersCall setup stamp items o.partition o.call) (sym i.2) (refl, written_home setup items i.0 i.1)

-- a request that may read these keys
abbrev MayRead : Setup → Intent → List Key → Type 0
MayRead setup request keys = (key : Key) (stamp : Option Stamp) → key ∈ keys → IsCallOf setup request (home setup key) (Get key stamp)

first_own : (setup : Setup) (request : Intent) (keys : List Key) → MayRead setup request keys → AreOwn setup request (first_calls setup keys)
first_own setup request keys may out h =
    let i = in_map (λ (key : Key). record { partition = home setup key; call = Get key None }) keys out h in
    subst (λ (o : Outgoing). IsCallOf setup request o.partition o.call) (sym i.2) (may i.0 None i.1)

second_own : (setup : Setup) (request : Intent) (keys : List Key) (replies : List Message) → MayRead setup request keys → AreOwn setup request (second_calls setup keys replies)
second_own setup request keys replies may out h =
    let i = in_map (λ (key : Key). record { partition = home setup key; call = Get key (Some (needed keys replies key)) }) (late_keys keys replies) out h in
    subst (λ (o : Outgoing). IsCallOf setup request o.partition o.call) (sym i.2) (may i.0 (Some (needed keys replies i.0)) (in_filter (is_late keys replies) keys i.0 i.1).0)

reading_own : (setup : Setup) (request : Intent) (keys : List Key) (replies : List Message) → MayRead setup request keys → AreOwn setup request (reading_calls setup keys replies)
reading_own setup request keys replies may = go (round_one_complete keys replies)
  where
    go : (b : Bool) → AreOwn setup request (cond b (second_calls setup keys replies) (first_calls setup keys))
    go true = second_own setup request keys replies may
    go false = first_own setup request keys may

found_own : (setup : Setup) (tag : Tag) → AreOwn setup (Finds tag) (found_calls setup tag)
found_own setup tag out h =
    let i = in_map (λ (partition : ℕ). record { partition = partition; call = Found tag }) (below setup.partitions) out h in
    subst (λ (o : Outgoing). IsFindersCall setup tag o.partition o.call) (sym i.2) (refl, in_below setup.partitions i.0 i.1)

-- a search may read whatever it found
may_find : (setup : Setup) (tag : Tag) (keys : List Key) → MayRead setup (Finds tag) keys
may_find setup tag keys key stamp h = refl

pub calls_own : (setup : Setup) (decides : Bool) (request : Intent) (replies : List Message) → AreOwn setup request (calls_of setup decides request replies)
calls_own setup true (Writes stamp items) replies = commit_own setup stamp items
calls_own setup false (Writes stamp items) replies = prepare_own setup stamp items
calls_own setup decides (Gets keys) replies = reading_own setup (Gets keys) keys replies (λ key stamp h. (h, refl))
calls_own setup decides (Finds tag) replies = go (all_found setup replies)
  where
    go : (b : Bool) → AreOwn setup (Finds tag) (cond b (reading_calls setup (all_keys_found replies) replies) (found_calls setup tag))
    go true = reading_own setup (Finds tag) (all_keys_found replies) replies (may_find setup tag (all_keys_found replies))
    go false = found_own setup tag

-- ---- the calls of a move

-- a writer's move sends nothing, or its COMMITs once all is prepared, or its DISCARDs when it ends
abbrev pub WriterSends : Setup → Stamp → List Item → List Message → Call → Move → Type 0
WriterSends setup stamp items replies call move =
    (calls_made move ≡ []) ⊎ ((version : Record) × (call ≡ Prepare version) × (all_prepared stamp items replies ≡ true) × (calls_made move ≡ commit_calls setup stamp items))
    ⊎ ((version : Record) × (call ≡ Prepare version) × (why : Refusal) × (move ≡ Fails why (discard_calls setup stamp items)))

pub writer_sends : (setup : Setup) (stamp : Stamp) (items : List Item) (replies : List Message) (call : Call) (reply : Option Reply) → WriterSends setup stamp items replies call (write_move setup stamp items replies call reply)
writer_sends setup stamp items replies (Prepare version) (Some (ToPrepare Prepared)) = go (all_prepared stamp items replies) refl
  where
    go : (b : Bool) → all_prepared stamp items replies ≡ b → WriterSends setup stamp items replies (Prepare version) (cond b (Decides stamp (commit_calls setup stamp items)) Waits)
    go true e = inr (inl (version, refl, e, refl))
    go false e = inl refl
writer_sends setup stamp items replies (Prepare version) (Some (ToPrepare FullSlots)) = inr (inr (version, refl, NoSlot, refl))
writer_sends setup stamp items replies (Prepare version) (Some (ToPrepare FullItems)) = inr (inr (version, refl, NoItem, refl))
writer_sends setup stamp items replies (Prepare version) (Some (ToPrepare Clash)) = inl refl
writer_sends setup stamp items replies (Prepare version) (Some (ToPrepare Discarded)) = inl refl
writer_sends setup stamp items replies (Commit s) (Some (ToCommit count)) = go (all_committed setup stamp items replies)
  where
    go : (b : Bool) → WriterSends setup stamp items replies (Commit s) (cond b (Finishes stamp) Waits)
    go true = inl refl
    go false = inl refl
writer_sends setup stamp items replies call reply = inl refl

-- a reader's move sends nothing, or its second round once the first is complete
abbrev pub ReaderSends : Setup → List Key → List Message → Call → List Outgoing → Type 0
ReaderSends setup keys replies call calls = (calls ≡ []) ⊎ ((key : Key) × (call ≡ Get key None) × (round_one_complete keys replies ≡ true) × (calls ≡ second_calls setup keys replies))

-- an answer is no call
abbrev pub SendsNothing : (List Reading → Move) → Type 0
SendsNothing tells = (rs : List Reading) → calls_made (tells rs) ≡ []

first_sends : (setup : Setup) (keys : List Key) (replies : List Message) (tells : List Reading → Move) (key : Key) (reply : ReadReply) → SendsNothing tells
    → ReaderSends setup keys replies (Get key None) (calls_made (first_move setup keys replies tells key reply))
first_sends setup keys replies tells key reply nothing = go (is_false_first key reply)
  where
    late : (b : Bool) → round_one_complete keys replies ≡ true → ReaderSends setup keys replies (Get key None) (calls_made (cond b (tells (readings keys replies)) (Asks (second_calls setup keys replies))))
    late true one = inl (nothing (readings keys replies))
    late false one = inr (key, refl, one, refl)

    whole : (b : Bool) → round_one_complete keys replies ≡ b
        → ReaderSends setup keys replies (Get key None) (calls_made (cond (not b) Waits (cond (round_two_complete keys replies) (tells (readings keys replies)) (Asks (second_calls setup keys replies)))))
    whole true one = late (round_two_complete keys replies) one
    whole false one = inl refl

    go : (b : Bool) → ReaderSends setup keys replies (Get key None) (calls_made (cond b (Fails Torn [])
        (cond (not (round_one_complete keys replies)) Waits (cond (round_two_complete keys replies) (tells (readings keys replies)) (Asks (second_calls setup keys replies))))))
    go true = inl refl
    go false = whole (round_one_complete keys replies) refl

second_sends : (keys : List Key) (replies : List Message) (tells : List Reading → Move) (key : Key) (stamp : Stamp) (reply : ReadReply) → SendsNothing tells → calls_made (second_move keys replies tells key stamp reply) ≡ []
second_sends keys replies tells key stamp (Version version) nothing = go (is_false_second replies key stamp (Version version))
  where
    whole : (b : Bool) → calls_made (cond b (tells (readings keys replies)) Waits) ≡ []
    whole true = nothing (readings keys replies)
    whole false = refl

    go : (b : Bool) → calls_made (cond b (Fails Torn []) (cond (round_one_complete keys replies && round_two_complete keys replies) (tells (readings keys replies)) Waits)) ≡ []
    go true = refl
    go false = whole (round_one_complete keys replies && round_two_complete keys replies)
second_sends keys replies tells key stamp (Collected floor) nothing = go (nat_lt stamp floor)
  where
    go : (b : Bool) → calls_made (cond b (Restarts key floor) (Fails Torn [])) ≡ []
    go true = refl
    go false = refl
second_sends keys replies tells key stamp Initial nothing = refl
second_sends keys replies tells key stamp Unknown nothing = refl

pub reader_sends : (setup : Setup) (keys : List Key) (replies : List Message) (tells : List Reading → Move) (call : Call) (reply : Option Reply) → SendsNothing tells
    → ReaderSends setup keys replies call (calls_made (read_move setup keys replies tells call reply))
reader_sends setup keys replies tells (Get key None) (Some (ToGet reply)) nothing = first_sends setup keys replies tells key reply nothing
reader_sends setup keys replies tells (Get key (Some stamp)) (Some (ToGet reply)) nothing = inl (second_sends keys replies tells key stamp reply nothing)
reader_sends setup keys replies tells call reply nothing = inl refl

reader_own : (setup : Setup) (request : Intent) (keys : List Key) (replies : List Message) (call : Call) (calls : List Outgoing) → MayRead setup request keys → ReaderSends setup keys replies call calls → AreOwn setup request calls
reader_own setup request keys replies call calls may (inl e) = none_own setup request calls e
reader_own setup request keys replies call calls may (inr s) = subst (λ outs. AreOwn setup request outs) (sym s.3) (second_own setup request keys replies may)

search_own : (setup : Setup) (tag : Tag) (keys : List Key) (a b : Bool) → AreOwn setup (Finds tag) (calls_made (cond a (Fails TooMany []) (cond b (Lists []) (Begins (first_calls setup keys)))))
search_own setup tag keys true b = none_own setup (Finds tag) [] refl
search_own setup tag keys false true = none_own setup (Finds tag) [] refl
search_own setup tag keys false false = first_own setup (Finds tag) keys (may_find setup tag keys)

find_own : (setup : Setup) (tag : Tag) (replies : List Message) (partition : ℕ) (call : Call) (reply : Option Reply) → AreOwn setup (Finds tag) (calls_made (find_move setup tag replies partition call reply))
find_own setup tag replies partition (Found g) (Some (ToFound told)) = go (list_any (λ key. not (home setup key == partition)) told.keys)
  where
    whole : (b : Bool) → AreOwn setup (Finds tag) (calls_made (cond b (search_move setup (total_found replies) (all_keys_found replies)) Waits))
    whole true = search_own setup tag (all_keys_found replies) (nat_lt max_found (total_found replies)) (total_found replies == 0)
    whole false = none_own setup (Finds tag) [] refl

    go : (b : Bool) → AreOwn setup (Finds tag) (calls_made (cond b (Fails Torn []) (cond (all_found setup replies) (search_move setup (total_found replies) (all_keys_found replies)) Waits)))
    go true = none_own setup (Finds tag) [] refl
    go false = whole (all_found setup replies)
find_own setup tag replies partition call reply =
    reader_own setup (Finds tag) (all_keys_found replies) replies call (calls_made (find_move setup tag replies partition call reply)) (may_find setup tag (all_keys_found replies))
    (reader_sends setup (all_keys_found replies) replies (λ rs. Lists (carrying tag rs)) call reply (λ rs. refl))

pub moves_own : (setup : Setup) (request : Intent) (replies : List Message) (message : Message) → AreOwn setup request (calls_made (move_of setup request replies message))
moves_own setup (Writes stamp items) replies message = go (writer_sends setup stamp items replies message.call message.reply)
  where
    go : WriterSends setup stamp items replies message.call (write_move setup stamp items replies message.call message.reply) → AreOwn setup (Writes stamp items) (calls_made (write_move setup stamp items replies message.call message.reply))
    go (inl e) = none_own setup (Writes stamp items) _ e
    go (inr (inl s)) = subst (λ outs. AreOwn setup (Writes stamp items) outs) (sym s.3) (commit_own setup stamp items)
    go (inr (inr s)) = subst (λ outs. AreOwn setup (Writes stamp items) outs) (sym (ap calls_made s.3)) (discard_own setup stamp items)
moves_own setup (Gets keys) replies message = reader_own setup (Gets keys) keys replies message.call _ (λ key stamp h. (h, refl)) (reader_sends setup keys replies Reads message.call message.reply (λ rs. refl))
moves_own setup (Finds tag) replies message = find_own setup tag replies message.partition message.call message.reply

-- ---- what a step sends

-- a reply to an older message
abbrev pub IsReplyTo : History → Message → Type 0
IsReplyTo older q = (message : Message) × (reply : Reply) × (message ∈ messages older) × (q ≡ with_reply message reply)

-- a call of a transaction
abbrev pub IsCallBy : Setup → History → Message → Type 0
IsCallBy setup history q =
    (transaction : Transaction) × (out : Outgoing) × (transaction ∈ transactions history) × IsCallOf setup transaction.request out.partition out.call
    × (q ≡ call_message transaction.client transaction.ticket out)

called_by : (setup : Setup) (history : History) (transaction : Transaction) (calls : List Outgoing) (q : Message) → transaction ∈ transactions history → AreOwn setup transaction.request calls
    → q ∈ map (call_message transaction.client transaction.ticket) calls → IsCallBy setup history q
called_by setup history transaction calls q own calls_own h =
    let i = in_map (call_message transaction.client transaction.ticket) calls q h in
    (transaction, i.0, own, calls_own i.0 i.1, i.2)

begun_calls : (setup : Setup) (older : History) (act : Act) (answer : Rows → Answer) (client : ℕ) (request : Intent) (q : Message)
    → begun_by (begins setup older act answer client request).act (begins setup older act answer client request).answer ≡ Some (client, request)
    → q ∈ (begins setup older act answer client request).sent → IsCallBy setup (begins setup older act answer client request ∷ older) q
begun_calls setup older act answer client request q began h =
    let m = begins setup older act answer client request in
    let transaction : Transaction = record { client = client; ticket = tickets older client + 1; begun = length older; request = request } in
    let here = subst (λ o. transaction ∈ (option_to_list (transaction_of older o) ++ transactions older)) (sym began) (inl refl) in
    called_by setup (m ∷ older) transaction (calls_of setup false request []) q here (calls_own setup false request []) h

pub sent_is : (setup : Setup) (older : History) (m : Moment) (q : Message) → Happens setup older m → IsQuiet m ⊎ IsTurn setup older m → q ∈ m.sent → IsReplyTo older q ⊎ IsCallBy setup (m ∷ older) q
sent_is setup older m q how (inr (row, message, reply, transaction, at, e, r, w, same)) h =
    let move = move_of setup transaction.request (taken_in older transaction ++ message ∷ []) message in
    let own = transaction_stays m older transaction (running_is older message.client transaction r).0 in
    inr (called_by setup (m ∷ older) transaction (calls_made move) q own (moves_own setup transaction.request (taken_in older transaction ++ message ∷ []) message)
    (subst (λ (ms : List Message). q ∈ ms) (ap (λ (x : Moment). x.sent) same ∙ moves_sent older (Deliver row) transaction move) h))
sent_is setup older m q (refused act why) (inl quiet) h = absurd h
sent_is setup older m q (greeted client base) (inl quiet) h = absurd h
sent_is setup older m q (put_begun client items valid idle good) (inl quiet) h =
    inr (begun_calls setup older (Put client items) (PutBegun (next_stamp older client)) client (Writes (next_stamp older client) items) q refl h)
sent_is setup older m q (get_begun client keys idle) (inl quiet) h = inr (begun_calls setup older (GetAll client keys) GetBegun client (Gets keys) q refl h)
sent_is setup older m q (find_begun client tag idle) (inl quiet) h = inr (begun_calls setup older (Find client tag) FindBegun client (Finds tag) q refl h)
sent_is setup older m q (served row message at r) (inl quiet) (inl e) = inl (message, _, at_is older row message at, e)
sent_is setup older m q (served row message at r) (inl quiet) (inr h) = absurd h
sent_is setup older m q (ignored row message at) (inl quiet) h = absurd h
sent_is setup older m q (moved row message reply transaction move at e r wanted how) (inl quiet) h = let t = moves_is_move older (Deliver row) transaction move in cc
sent_is setup older m q (lost row) (inl quiet) h = absurd h
sent_is setup older m q (not_resent client) (inl quiet) h = absurd h
sent_is setup older m q (resent client transaction out outs r u) (inl quiet) h =
    let own = transaction_stays m older transaction (running_is older client transaction r).0 in
    inr (called_by setup (m ∷ older) transaction (out ∷ outs) q own
    (λ o k. calls_own setup (is_decided older transaction.request) transaction.request (taken_in older transaction) o
    (in_filter (λ (x : Outgoing). not (is_answered (taken_in older transaction) x.partition x.call)) (calls_of setup (is_decided older transaction.request) transaction.request (taken_in older transaction)) o
    (subst (λ (xs : List Outgoing). o ∈ xs) (sym u) k)).0)
    h)
sent_is setup older m q (stopped client) (inl quiet) h = absurd h
sent_is setup older m q (keep_set keep) (inl quiet) h = absurd h
sent_is setup older m q (collected partition n) (inl quiet) h = absurd h

-- ---- it is so of every message

home_stays : (setup : Setup) (m : Moment) (older : History) (message : Message) → IsAtHome setup older message → IsAtHome setup (m ∷ older) message
home_stays setup m older message at = record {
  sender = at.sender;
  begun = transaction_stays m older at.sender at.begun;
  client = at.client;
  ticket = at.ticket;
  goes = at.goes;
}

-- a reply is of the transaction of its call
home_replied : (setup : Setup) (history : History) (message : Message) (reply : Reply) → IsAtHome setup history message → IsAtHome setup history (with_reply message reply)
home_replied setup history message reply at = record {
  sender = at.sender;
  begun = at.begun;
  client = at.client;
  ticket = at.ticket;
  goes = at.goes;
}

home_called : (setup : Setup) (history : History) (transaction : Transaction) (out : Outgoing) → transaction ∈ transactions history → IsCallOf setup transaction.request out.partition out.call
    → IsAtHome setup history (call_message transaction.client transaction.ticket out)
home_called setup history transaction out own goes = record {
  sender = transaction;
  begun = own;
  client = refl;
  ticket = refl;
  goes = goes;
}

abbrev pub Homed : Setup → History → Type 0
Homed setup history = (message : Message) → message ∈ messages history → IsAtHome setup history message

pub homed_step : (setup : Setup) (older : History) (m : Moment) → Homed setup older → Happens setup older m → IsQuiet m ⊎ IsTurn setup older m → Homed setup (m ∷ older)
homed_step setup older m homed how way message h = go (in_cases (messages older) m.sent message h)
  where
    new : IsReplyTo older message ⊎ IsCallBy setup (m ∷ older) message → IsAtHome setup (m ∷ older) message
    new (inl a) = subst (λ (q : Message). IsAtHome setup (m ∷ older) q) (sym a.3) (home_replied setup (m ∷ older) a.0 a.1 (home_stays setup m older a.0 (homed a.0 a.2)))
    new (inr c) = subst (λ (q : Message). IsAtHome setup (m ∷ older) q) (sym c.4) (home_called setup (m ∷ older) c.0 c.1 c.2 c.3)

    go : (message ∈ messages older) ⊎ (message ∈ m.sent) → IsAtHome setup (m ∷ older) message
    go (inl k) = home_stays setup m older message (homed message k)
    go (inr k) = new (sent_is setup older m message how way k)

-- the calls of a transaction's messages are those of its request
abbrev pub Owned : Setup → History → Type 0
Owned setup history =
    (transaction : Transaction) (message : Message) → transaction ∈ transactions history → message ∈ messages history → is_of transaction message ≡ true
    → IsCallOf setup transaction.request message.partition message.call

pub owned_by : (setup : Setup) (history : History) → Kept setup history → Homed setup history → Owned setup history
owned_by setup history kept homed transaction message own h e =
    let at : IsAtHome setup history message = homed message h in
    let p = of_transaction transaction message e in
    let same : at.sender ≡ transaction = kept.single at.sender transaction at.begun own (sym at.client ∙ p.0) (sym at.ticket ∙ p.1) in
    subst (λ (t : Transaction). IsCallOf setup t.request message.partition message.call) same at.goes

-- a transaction that begins now has no older message
pub no_old_message : (setup : Setup) (older : History) (m : Moment) (transaction : Transaction) (message : Message) → Fresh setup older → NewBegun older m transaction → message ∈ messages older → is_of transaction message ≡ true → ⊥
no_old_message setup older m transaction message fresh n h e =
    let p = of_transaction transaction message e in
    let l : message.ticket ≤ tickets older transaction.client = subst (λ c. message.ticket ≤ tickets older c) p.0 (fresh.ticketed message h) in
    let x : transaction.ticket ≡ tickets older transaction.client + 1 = subst (λ (t : Transaction). t.ticket ≡ tickets older t.client + 1) (sym n.2) refl in
    let same = p.1 in
    omega arith
