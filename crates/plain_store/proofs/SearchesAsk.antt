-- A search sends no GET before each partition has told, and a get none of its second round before the first is complete.
use Rattle.std.proofs.Common.{◌≡◌, ℕ, ◌+◌, ◌≤◌, List, [], ◌∷◌, ◌++◌, Bool, true, false, ◌==◌, ◌⊎◌, inl, inr, refl, sym, ap, ◌∙◌, subst, cond, not, map, filter, length, Option, Some, None, option_to_list, append-nil, arith, eqb-true, eq-eqb}
use Rattle.std.specs.Prelude.{flat_map}
use Rattle.std.specs.List.{list_any}
use Rattle.std.proofs.lemmas.List.{length-append}
use Rattle.std.proofs.lemmas.List.Sums.{sum_by-cons, sum_by_push, length-filter, count_by-le-length}
use Rattle.std.proofs.lemmas.List.Sorted.{length_permutation}
use Rattle.stamps.specs.Key.{sorted_keys}
use Rattle.stamps.proofs.SortLemmas.{sorted_keys-IsPermutation}
use Rattle.plain_store.specs.Words.{◌∈◌, Key, Tag, is_tagged, Stamp, Room, Call, Prepare, Commit, Get, Found, Collect, Discard, Reply, ToFound, Act, Put, GetAll, Find, Deliver, Message, Torn, Rows, Answer, PutBegun, GetBegun, FindBegun, Reading, Findings, Setup, home}
use Rattle.plain_store.specs.FoundKeys.{IsFound}
use Rattle.plain_store.specs.Log.{Log}
use Rattle.plain_store.specs.Tags.{findings}
use Rattle.plain_store.specs.Replies.{reply_after}
use Rattle.plain_store.specs.History.{Moment, History, messages, message_at, Intent, Writes, Gets, Finds, Transaction, transactions, transaction_of, begun_by, tickets, is_of, took, taken_in, running}
use Rattle.plain_store.specs.Writing.{Outgoing}
use Rattle.plain_store.specs.Rounds.{first_calls, second_calls, reading_calls, round_one_complete}
use Rattle.plain_store.specs.Finding.{below, found_calls, count_found, keys_found, says_found, all_found, total_found, all_keys_found, carrying}
use Rattle.plain_store.specs.Moves.{Move, Waits, Reads, Fails, read_move, search_move, find_move, move_of, calls_of, same_place, is_answered}
use Rattle.plain_store.specs.Run.{call_message, begins, next_stamp, is_decided, is_wanted, moves}
use Rattle.plain_store.specs.Told.{IsPartitionsReply}
use Rattle.plain_store.proofs.Members.{in_cases, in_map, in_filter, any_witness, any_from, all_at, any_more, all_more}
use Rattle.plain_store.specs.Log.{items}
use Rattle.plain_store.proofs.Rooms.{findings-IsFound}
use Rattle.plain_store.proofs.Steps.{Happens, refused, greeted, put_begun, get_begun, find_begun, served, ignored, moved, lost, not_resent, resent, stopped, keep_set, collected}
use Rattle.plain_store.proofs.StaysTrue.{at_is, running_is, taken_sent, taken_in_is, taken_more, transaction_stays}
use Rattle.plain_store.proofs.Sound.{of_transaction}
use Rattle.plain_store.proofs.KeptLogs.{Kept, NewBegun, begun_cases, is_of_wanted}
use Rattle.plain_store.proofs.FreshLogs.{Fresh}
use Rattle.plain_store.proofs.StepEffects.{IsTurn, IsQuiet, calls_made, moves_sent, moves_is_move, moves_took, quiet_took}
use Rattle.plain_store.proofs.Owned.{IsReplyTo, ReaderSends, reader_sends, no_old_message}
use Rattle.plain_store.proofs.ShownMore.{complete_more}

abbrev pub IsReplied : Message → Type 0
IsReplied message = (room : Room) × (log : Log) × (message.reply ≡ Some (reply_after room log message.call))

pub replied_by : (setup : Setup) (history : History) (message : Message) → IsPartitionsReply setup history message → IsReplied message
replied_by setup history message r = (setup.room, r.earlier, r.carries ∙ ap Some r.answers)

-- only a search is reported what was found
told_call : (room : Room) (log : Log) (call : Call) (p at : ℕ) → says_found p at (Some (reply_after room log call)) ≡ true → (tag : Tag) × (call ≡ Found tag) × (at ≡ p)
unfolding reply_after
told_call room log (Found tag) p at t = (tag, refl, eqb-true at p t)
told_call room log _ p at t = cc

pub found_call : (message : Message) (p : ℕ) → IsReplied message → says_found p message.partition message.reply ≡ true → (tag : Tag) × (message.call ≡ Found tag) × (message.partition ≡ p)
found_call message p (room, log, e) t = told_call room log message.call p message.partition (ap (says_found p message.partition) (sym e) ∙ t)

-- a partition that told is asked no more
pub found_answered : (setup : Setup) (replies : List Message) (partition : ℕ) (tag : Tag) → ((q : Message) → q ∈ replies → IsReplied q) → all_found setup replies ≡ true → partition ∈ below setup.partitions
    → is_answered replies partition (Found tag) ≡ true
found_answered setup replies partition tag replied all h =
    let w = any_witness (λ (q : Message). says_found partition q.partition q.reply) replies (all_at (λ (p : ℕ). list_any (λ (q : Message). says_found p q.partition q.reply) replies) (below setup.partitions) partition all h) in
    let f = found_call w.0 partition (replied w.0 w.1) w.2 in
    any_from (λ (q : Message). same_place partition (Found tag) q.partition q.call) replies w.0 w.1
    (ap (same_place partition (Found tag) w.0.partition) f.1 ∙ eq-eqb partition w.0.partition (sym f.2))

pub get_tells_none : (message : Message) (key : Key) (stamp : Option Stamp) → IsReplied message → message.call ≡ Get key stamp → (count_found message.reply ≡ 0) × (keys_found message.reply ≡ [])
unfolding reply_after
get_tells_none message key stamp (room, log, e) c =
    let is = e ∙ ap (λ (call : Call). Some (reply_after room log call)) c in
    (ap count_found is, ap keys_found is)

pub search_told : (message : Message) (tag : Tag) → IsReplied message → message.call ≡ Found tag → (told : Findings) × (message.reply ≡ Some (ToFound told))
unfolding reply_after
search_told message tag (room, log, e) c = (findings log tag, e ∙ ap (λ (call : Call). Some (reply_after room log call)) c)

-- ---- how many keys were reported

pub total_push : (replies : List Message) (message : Message) → total_found (replies ++ message ∷ []) ≡ total_found replies + count_found message.reply
total_push replies message = sum_by_push (λ (q : Message). count_found q.reply) replies message

found_few : (room : Room) (log : Log) (call : Call) → length (keys_found (Some (reply_after room log call))) ≤ count_found (Some (reply_after room log call))
unfolding reply_after
found_few room log (Found tag) = let f : IsFound (findings log tag) = findings-IsFound log tag in let few = f.as_many in omega (arith, few)
found_few room log _ = omega arith

told_few : (replies : List Message) → ((q : Message) → q ∈ replies → IsReplied q) → length (flat_map (λ (q : Message). keys_found q.reply) replies) ≤ total_found replies
told_few [] replied = omega arith
told_few (q ∷ qs) replied =
    let r = replied q (inl refl) in
    let here : length (keys_found q.reply) ≤ count_found q.reply = subst (λ (o : Option Reply). length (keys_found o) ≤ count_found o) (sym r.2) (found_few r.0 r.1 q.call) in
    let more = length-append (keys_found q.reply) (flat_map (λ (x : Message). keys_found x.reply) qs) in
    omega (arith, here, more, sum_by-cons (λ (x : Message). count_found x.reply) q qs, told_few qs (λ x h. replied x (inr h)))

pub keys_few : (replies : List Message) → ((q : Message) → q ∈ replies → IsReplied q) → length (all_keys_found replies) ≤ total_found replies
keys_few replies replied =
    let keys = flat_map (λ (q : Message). keys_found q.reply) replies in
    omega (arith, length_permutation keys (sorted_keys keys) (sorted_keys-IsPermutation keys), told_few replies replied)

-- what carries the tag is no more than what was read
pub length-carrying : (tag : Tag) (readings : List Reading) → length (carrying tag readings) ≤ length readings
length-carrying tag readings =
    let test = λ (reading : Reading). is_tagged tag reading.item.tag in
    omega (arith, length-filter test readings, count_by-le-length test readings)

-- ---- which transaction takes the reply of a step

-- the running transaction takes the reply of a row, and moves by it
abbrev pub TakesNow : Setup → Moment → History → Transaction → Type 0
TakesNow setup m older transaction =
    (row : ℕ) × (message : Message) × (reply : Reply) × (message_at older row ≡ Some message) × (message.reply ≡ Some reply) × (running older message.client ≡ Some transaction)
    × (is_wanted older transaction message ≡ true) × (is_of transaction message ≡ true)
    × (m ≡ moves older (Deliver row) transaction (move_of setup transaction.request (taken_in older transaction ++ message ∷ []) message))
    × (taken_in (m ∷ older) transaction ≡ taken_in older transaction ++ message ∷ [])

pub taking_cases : (setup : Setup) (m : Moment) (older : History) (transaction : Transaction) → Kept setup older → transaction ∈ transactions older → IsQuiet m ⊎ IsTurn setup older m
    → (taken_in (m ∷ older) transaction ≡ taken_in older transaction) ⊎ TakesNow setup m older transaction
taking_cases setup m older transaction kept own (inl quiet) =
    inl (taken_more m older transaction ∙ ap (λ o. taken_in older transaction ++ filter (is_of transaction) (option_to_list o)) (quiet_took m.act m.answer older quiet) ∙ append-nil (taken_in older transaction))
taking_cases setup m older transaction kept own (inr (row, message, reply, other, at, e, r, wanted, same)) = go (is_of transaction message) refl
  where
    took_it : took m.act m.answer older ≡ Some message
    took_it = ap (λ (x : Moment). took x.act x.answer older) same ∙ moves_took older row other (move_of setup other.request (taken_in older other ++ message ∷ []) message) message at

    taken_is : taken_in (m ∷ older) transaction ≡ taken_in older transaction ++ filter (is_of transaction) (message ∷ [])
    taken_is = taken_more m older transaction ∙ ap (λ o. taken_in older transaction ++ filter (is_of transaction) (option_to_list o)) took_it

    go : (b : Bool) → is_of transaction message ≡ b → (taken_in (m ∷ older) transaction ≡ taken_in older transaction) ⊎ TakesNow setup m older transaction
    go false of = inl (taken_is ∙ ap (λ b. taken_in older transaction ++ cond b (message ∷ []) []) of ∙ append-nil (taken_in older transaction))
    go true of =
        let mine = of_transaction transaction message of in
        let theirs = of_transaction other message (is_of_wanted older message other r wanted) in
        let o : other ≡ transaction = kept.single other transaction (running_is older message.client other r).0 own (sym theirs.0 ∙ mine.0) (sym theirs.1 ∙ mine.1) in
        inr (
          row,
          message,
          reply,
          at,
          e,
          r ∙ ap Some o,
          subst (λ (x : Transaction). is_wanted older x message ≡ true) o wanted,
          of,
          same ∙ ap (λ (x : Transaction). moves older (Deliver row) x (move_of setup x.request (taken_in older x ++ message ∷ []) message)) o,
          taken_is ∙ ap (λ b. taken_in older transaction ++ cond b (message ∷ []) []) of,
        )

begun_took : (act : Act) (answer : Answer) (older : History) (begun : ℕ × Intent) → begun_by act answer ≡ Some begun → took act answer older ≡ None
begun_took (Deliver row) answer older begun b = cc
begun_took act answer older begun b = refl

-- a transaction that begins now took no reply
pub taken_new : (setup : Setup) (m : Moment) (older : History) (transaction : Transaction) → Fresh setup older → NewBegun older m transaction → taken_in (m ∷ older) transaction ≡ []
taken_new setup m older transaction fresh n =
    taken_more m older transaction ∙ ap (λ o. taken_in older transaction ++ filter (is_of transaction) (option_to_list o)) (begun_took m.act m.answer older n.0 n.1) ∙ append-nil (taken_in older transaction)
    ∙ empty (taken_in older transaction) (λ q h. let t = taken_in_is older transaction q h in no_old_message setup older m transaction q fresh n (taken_sent older q t.0) t.1)
  where
    empty : (qs : List Message) → ((q : Message) → q ∈ qs → ⊥) → qs ≡ []
    empty [] none = refl
    empty (q ∷ qs) none = absurd (none q (inl refl))

-- ---- no GET of a search before each partition has told

abbrev IsDueGet : Bool → Call → Type 0
IsDueGet found (Prepare version) = Unit {0}
IsDueGet found (Commit stamp) = Unit {0}
IsDueGet found (Get key stamp) = found ≡ true
IsDueGet found (Found tag) = Unit {0}
IsDueGet found (Collect keep) = Unit {0}
IsDueGet found (Discard stamp) = Unit {0}

-- a GET of round two is sent once round one is complete
abbrev pub IsDueSecond : Bool → Call → Type 0
IsDueSecond complete (Prepare version) = Unit {0}
IsDueSecond complete (Commit stamp) = Unit {0}
IsDueSecond complete (Get key None) = Unit {0}
IsDueSecond complete (Get key (Some stamp)) = complete ≡ true
IsDueSecond complete (Found tag) = Unit {0}
IsDueSecond complete (Collect keep) = Unit {0}
IsDueSecond complete (Discard stamp) = Unit {0}

abbrev pub IsDue : Setup → Intent → List Message → Call → Type 0
IsDue setup (Writes stamp items) replies call = Unit {0}
IsDue setup (Gets keys) replies call = IsDueSecond (round_one_complete keys replies) call
IsDue setup (Finds tag) replies call = IsDueGet (all_found setup replies) call

all_due : (found : Bool) (call : Call) → found ≡ true → IsDueGet found call
all_due found (Get key stamp) e = e
all_due found _ e = tt

due_by : (found more : Bool) (call : Call) → (found ≡ true → more ≡ true) → IsDueGet found call → IsDueGet more call
due_by found more (Get key stamp) stays due = stays due
due_by found more _ stays due = tt

second_due : (complete : Bool) (call : Call) → complete ≡ true → IsDueSecond complete call
second_due complete (Get key (Some stamp)) e = e
second_due complete _ e = tt

second_by : (complete more : Bool) (call : Call) → (complete ≡ true → more ≡ true) → IsDueSecond complete call → IsDueSecond more call
second_by complete more (Get key (Some stamp)) stays due = stays due
second_by complete more _ stays due = tt

-- what a read sends is due
reading_due : (setup : Setup) (keys : List Key) (replies : List Message) (b : Bool) (out : Outgoing) → out ∈ cond b (second_calls setup keys replies) (first_calls setup keys) → IsDueSecond b out.call
reading_due setup keys replies true out h = second_due true out.call refl
reading_due setup keys replies false out h =
    let i = in_map (λ (key : Key). record { partition = home setup key; call = Get key None }) keys out h in
    subst (λ (o : Outgoing). IsDueSecond false o.call) (sym i.2) tt

read_due : (setup : Setup) (keys : List Key) (replies : List Message) (out : Outgoing) (call : Call) (calls : List Outgoing) → ReaderSends setup keys replies call calls → out ∈ calls → IsDueSecond (round_one_complete keys replies) out.call
read_due setup keys replies out call calls (inl e) h = absurd (subst (λ (outs : List Outgoing). out ∈ outs) e h)
read_due setup keys replies out call calls (inr s) h = second_due (round_one_complete keys replies) out.call s.2

pub found_more : (setup : Setup) (xs ys : List Message) → all_found setup xs ≡ true → all_found setup (xs ++ ys) ≡ true
found_more setup xs ys h =
    all_more (λ (p : ℕ). list_any (λ (q : Message). says_found p q.partition q.reply) xs) (λ (p : ℕ). list_any (λ (q : Message). says_found p q.partition q.reply) (xs ++ ys)) (below setup.partitions)
    (λ p t. any_more (λ (q : Message). says_found p q.partition q.reply) xs ys t) h

pub due_more : (setup : Setup) (request : Intent) (xs ys : List Message) (call : Call) → IsDue setup request xs call → IsDue setup request (xs ++ ys) call
due_more setup (Writes stamp items) xs ys call due = tt
due_more setup (Gets keys) xs ys call due = second_by (round_one_complete keys xs) (round_one_complete keys (xs ++ ys)) call (complete_more keys xs ys) due
due_more setup (Finds tag) xs ys call due = due_by (all_found setup xs) (all_found setup (xs ++ ys)) call (found_more setup xs ys) due

due_stays : (setup : Setup) (m : Moment) (older : History) (transaction : Transaction) (call : Call) → IsDue setup transaction.request (taken_in older transaction) call → IsDue setup transaction.request (taken_in (m ∷ older) transaction) call
due_stays setup m older transaction call due =
    subst (λ (qs : List Message). IsDue setup transaction.request qs call) (sym (taken_more m older transaction))
    (due_more setup transaction.request (taken_in older transaction) (filter (is_of transaction) (option_to_list (took m.act m.answer older))) call due)

calls_due : (setup : Setup) (decides : Bool) (request : Intent) (replies : List Message) (out : Outgoing) → out ∈ calls_of setup decides request replies → IsDue setup request replies out.call
calls_due setup decides (Writes stamp items) replies out h = tt
calls_due setup decides (Gets keys) replies out h = reading_due setup keys replies (round_one_complete keys replies) out h
calls_due setup decides (Finds tag) replies out h = go (all_found setup replies) h
  where
    go : (b : Bool) → out ∈ cond b (reading_calls setup (all_keys_found replies) replies) (found_calls setup tag) → IsDueGet b out.call
    go true k = all_due true out.call refl
    go false k =
        let i = in_map (λ (partition : ℕ). record { partition = partition; call = Found tag }) (below setup.partitions) out k in
        subst (λ (o : Outgoing). IsDueGet false o.call) (sym i.2) tt

moves_due : (setup : Setup) (request : Intent) (replies : List Message) (message : Message) (out : Outgoing) → IsDue setup request replies message.call → out ∈ calls_made (move_of setup request replies message) → IsDue setup request replies out.call
moves_due setup (Writes stamp items) replies message out due h = tt
moves_due setup (Gets keys) replies message out due h =
    read_due setup keys replies out message.call (calls_made (read_move setup keys replies Reads message.call message.reply)) (reader_sends setup keys replies Reads message.call message.reply (λ rs. refl)) h
moves_due setup (Finds tag) replies message out due h = find message.call message.reply due h
  where
    find : (call : Call) (reply : Option Reply) → IsDueGet (all_found setup replies) call → out ∈ calls_made (find_move setup tag replies message.partition call reply) → IsDueGet (all_found setup replies) out.call
    find (Found g) (Some (ToFound told)) d k = go (list_any (λ key. not (home setup key == message.partition)) told.keys) k
      where
        whole : (b : Bool) → out ∈ calls_made (cond b (search_move setup (total_found replies) (all_keys_found replies)) Waits) → IsDueGet b out.call
        whole true k = all_due true out.call refl
        whole false k = absurd k

        go : (b : Bool) → out ∈ calls_made (cond b (Fails Torn []) (cond (all_found setup replies) (search_move setup (total_found replies) (all_keys_found replies)) Waits)) → IsDueGet (all_found setup replies) out.call
        go true k = absurd k
        go false k = whole (all_found setup replies) k
    find (Get key stamp) reply d k = all_due (all_found setup replies) out.call d
    find _ reply d k = absurd k

-- a call of a transaction that is due
abbrev IsDueBy : Setup → History → Message → Type 0
IsDueBy setup history q =
    (transaction : Transaction) × (out : Outgoing) × (transaction ∈ transactions history) × (q ≡ call_message transaction.client transaction.ticket out)
    × IsDue setup transaction.request (taken_in history transaction) out.call

abbrev pub Due : Setup → History → Type 0
Due setup history = (transaction : Transaction) (message : Message) → transaction ∈ transactions history → message ∈ messages history → is_of transaction message ≡ true → IsDue setup transaction.request (taken_in history transaction) message.call

due_calls : (setup : Setup) (history : History) (transaction : Transaction) (calls : List Outgoing) (q : Message) → transaction ∈ transactions history
    → ((out : Outgoing) → out ∈ calls → IsDue setup transaction.request (taken_in history transaction) out.call) → q ∈ map (call_message transaction.client transaction.ticket) calls → IsDueBy setup history q
due_calls setup history transaction calls q own due h = let i = in_map (call_message transaction.client transaction.ticket) calls q h in (transaction, i.0, own, i.2, due i.0 i.1)

due_begun : (setup : Setup) (older : History) (act : Act) (answer : Rows → Answer) (client : ℕ) (request : Intent) (q : Message)
    → begun_by (begins setup older act answer client request).act (begins setup older act answer client request).answer ≡ Some (client, request)
    → q ∈ (begins setup older act answer client request).sent → IsDueBy setup (begins setup older act answer client request ∷ older) q
due_begun setup older act answer client request q began h =
    let m = begins setup older act answer client request in
    let transaction : Transaction = record { client = client; ticket = tickets older client + 1; begun = length older; request = request } in
    let here = subst (λ o. transaction ∈ (option_to_list (transaction_of older o) ++ transactions older)) (sym began) (inl refl) in
    due_calls setup (m ∷ older) transaction (calls_of setup false request []) q here
    (λ out k. due_more setup request [] (taken_in (m ∷ older) transaction) out.call (calls_due setup false request [] out k)) h

-- a transaction that takes a reply has taken it after what it took before
pub turn_taken : (older : History) (m : Moment) (row : ℕ) (message : Message) (transaction : Transaction) (move : Move) → message_at older row ≡ Some message → is_of transaction message ≡ true
    → m ≡ moves older (Deliver row) transaction move → taken_in (m ∷ older) transaction ≡ taken_in older transaction ++ message ∷ []
turn_taken older m row message transaction move at of same =
    taken_more m older transaction
    ∙ ap (λ o. taken_in older transaction ++ filter (is_of transaction) (option_to_list o)) (ap (λ (x : Moment). took x.act x.answer older) same ∙ moves_took older row transaction move message at)
    ∙ ap (λ b. taken_in older transaction ++ cond b (message ∷ []) []) of

due_turn : (setup : Setup) (older : History) (m : Moment) (q : Message) → Due setup older → IsTurn setup older m → q ∈ m.sent → IsDueBy setup (m ∷ older) q
due_turn setup older m q due (row, message, reply, transaction, at, e, r, wanted, same) h =
    due_calls setup (m ∷ older) transaction (calls_made move) q (transaction_stays m older transaction own)
    (λ out k. subst (λ (qs : List Message). IsDue setup transaction.request qs out.call) (sym now)
    (moves_due setup transaction.request (taken_in older transaction ++ message ∷ []) message out
    (due_more setup transaction.request (taken_in older transaction) (message ∷ []) message.call (due transaction message own (at_is older row message at) of)) k))
    (subst (λ (ms : List Message). q ∈ ms) (ap (λ (x : Moment). x.sent) same ∙ moves_sent older (Deliver row) transaction move) h)
  where
    move : Move
    move = move_of setup transaction.request (taken_in older transaction ++ message ∷ []) message

    own : transaction ∈ transactions older
    own = (running_is older message.client transaction r).0

    of : is_of transaction message ≡ true
    of = is_of_wanted older message transaction r wanted

    now : taken_in (m ∷ older) transaction ≡ taken_in older transaction ++ message ∷ []
    now = turn_taken older m row message transaction move at of same

sent_due : (setup : Setup) (older : History) (m : Moment) (q : Message) → Due setup older → Happens setup older m → IsQuiet m ⊎ IsTurn setup older m → q ∈ m.sent → IsReplyTo older q ⊎ IsDueBy setup (m ∷ older) q
sent_due setup older m q due how (inr turn) h = inr (due_turn setup older m q due turn h)
sent_due setup older m q due (refused act why) (inl quiet) h = absurd h
sent_due setup older m q due (greeted client base) (inl quiet) h = absurd h
sent_due setup older m q due (put_begun client items valid idle good) (inl quiet) h =
    inr (due_begun setup older (Put client items) (PutBegun (next_stamp older client)) client (Writes (next_stamp older client) items) q refl h)
sent_due setup older m q due (get_begun client keys idle) (inl quiet) h = inr (due_begun setup older (GetAll client keys) GetBegun client (Gets keys) q refl h)
sent_due setup older m q due (find_begun client tag idle) (inl quiet) h = inr (due_begun setup older (Find client tag) FindBegun client (Finds tag) q refl h)
sent_due setup older m q due (served row message at r) (inl quiet) (inl e) = inl (message, _, at_is older row message at, e)
sent_due setup older m q due (served row message at r) (inl quiet) (inr h) = absurd h
sent_due setup older m q due (ignored row message at) (inl quiet) h = absurd h
sent_due setup older m q due (moved row message reply transaction move at e r wanted how) (inl quiet) h = let t = moves_is_move older (Deliver row) transaction move in cc
sent_due setup older m q due (lost row) (inl quiet) h = absurd h
sent_due setup older m q due (not_resent client) (inl quiet) h = absurd h
sent_due setup older m q due (resent client transaction out outs r u) (inl quiet) h =
    inr (due_calls setup (m ∷ older) transaction (out ∷ outs) q (transaction_stays m older transaction (running_is older client transaction r).0)
    (λ o k. due_stays setup m older transaction o.call (calls_due setup (is_decided older transaction.request) transaction.request (taken_in older transaction) o
    (in_filter (λ (x : Outgoing). not (is_answered (taken_in older transaction) x.partition x.call)) (calls_of setup (is_decided older transaction.request) transaction.request (taken_in older transaction)) o
    (subst (λ (xs : List Outgoing). o ∈ xs) (sym u) k)).0))
    h)
sent_due setup older m q due (stopped client) (inl quiet) h = absurd h
sent_due setup older m q due (keep_set keep) (inl quiet) h = absurd h
sent_due setup older m q due (collected partition n) (inl quiet) h = absurd h

pub due_step : (setup : Setup) (older : History) (m : Moment) → Kept setup (m ∷ older) → Fresh setup older → Due setup older → Happens setup older m → IsQuiet m ⊎ IsTurn setup older m → Due setup (m ∷ older)
due_step setup older m kept fresh due how way transaction message own h of = go (in_cases (messages older) m.sent message h)
  where
    old : (q : Message) → q ∈ messages older → is_of transaction q ≡ true → (transaction ∈ transactions older) ⊎ NewBegun older m transaction → IsDue setup transaction.request (taken_in (m ∷ older) transaction) q.call
    old q k t (inl was) = due_stays setup m older transaction q.call (due transaction q was k t)
    old q k t (inr n) = absurd (no_old_message setup older m transaction q fresh n k t)

    new : IsReplyTo older message ⊎ IsDueBy setup (m ∷ older) message → IsDue setup transaction.request (taken_in (m ∷ older) transaction) message.call
    new (inl a) =
        subst (λ (q : Message). IsDue setup transaction.request (taken_in (m ∷ older) transaction) q.call) (sym a.3)
        (old a.0 a.2 (subst (λ (q : Message). is_of transaction q ≡ true) a.3 of) (begun_cases m older transaction own))
    new (inr c) =
        let p = of_transaction transaction (call_message c.0.client c.0.ticket c.1) (subst (λ (q : Message). is_of transaction q ≡ true) c.3 of) in
        let same : c.0 ≡ transaction = kept.single c.0 transaction c.2 own p.0 p.1 in
        subst (λ (q : Message). IsDue setup transaction.request (taken_in (m ∷ older) transaction) q.call) (sym c.3)
        (subst (λ (t : Transaction). IsDue setup t.request (taken_in (m ∷ older) t) c.1.call) same c.4)

    go : (message ∈ messages older) ⊎ (message ∈ m.sent) → IsDue setup transaction.request (taken_in (m ∷ older) transaction) message.call
    go (inl k) = old message k of (begun_cases m older transaction own)
    go (inr k) = new (sent_due setup older m message due how way k)
