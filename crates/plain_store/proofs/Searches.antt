-- A search sends no GET before each partition has told, reads no more than `max_found` keys, and is reported once by each partition.
use Rattle.std.proofs.Common.{◌≡◌, ℕ, ◌+◌, ◌≤◌, List, [], ◌∷◌, ◌++◌, Bool, true, false, ◌&&◌, ◌==◌, ◌⊎◌, inl, inr, refl, sym, ap, ◌∙◌, subst, cond, not, take, drop, take-append-drop, count_by, bytes_eq, nat_lt, Option, Some, None, arith, eq-eqb}
use Rattle.std.specs.Prelude.{flat_map}
use Rattle.std.specs.List.{list_any}
use Rattle.std.proofs.lemmas.Bool.{and_parts, both_ways, ltb-false, not-true}
use Rattle.stamps.specs.Key.{sorted_keys}
use Rattle.plain_store.specs.Words.{◌∈◌, Key, Tag, Room, Call, Get, Found, Reply, ToFound, Act, Deliver, Message, Torn, TooMany, Findings, Setup, home}
use Rattle.plain_store.specs.Log.{Log}
use Rattle.plain_store.specs.Tags.{findings}
use Rattle.plain_store.specs.Replies.{reply_after}
use Rattle.plain_store.specs.History.{Moment, History, message_at, Intent, Finds, Transaction, transactions, begun_by, is_last, is_by, taken_in, ends, running}
use Rattle.plain_store.specs.Rounds.{first_calls}
use Rattle.plain_store.specs.Finding.{keys_found, says_found, all_found, total_found, all_keys_found}
use Rattle.plain_store.specs.Moves.{Move, Waits, Finishes, Begins, Reads, Lists, Restarts, Fails, search_move, find_move, move_of, same_place, is_answered}
use Rattle.plain_store.specs.Run.{moves}
use Rattle.plain_store.proofs.Members.{any_from}
use Rattle.plain_store.proofs.Counting.{count_by-cons, count_by-push, count_by-filter, count_by-le}
use Rattle.plain_store.proofs.Counts.{count_of, count_append, count_key}
use Rattle.plain_store.proofs.Stamps.{key_is}
use Rattle.plain_store.proofs.BadKeys.{once}
use Rattle.stamps.specs.Key.{insert_key, key_cmp}
use Rattle.stamps.specs.Limits.{max_found}
use Rattle.std.specs.Ordering.{is_lt}
use Rattle.plain_store.specs.Log.{items}
use Rattle.plain_store.specs.Tags.{is_under, under}
use Rattle.plain_store.proofs.Rooms.{items-apart}
use Rattle.plain_store.proofs.StaysTrue.{at_is, running_is, taken_sent, taken_in_is}
use Rattle.plain_store.proofs.Sound.{of_transaction}
use Rattle.plain_store.proofs.KeptLogs.{Kept, NewBegun, begun_cases, moves_begin_nothing}
use Rattle.plain_store.proofs.EveryStepKeeps.{IsRunning, running_cases}
use Rattle.plain_store.proofs.FreshLogs.{Fresh}
use Rattle.plain_store.proofs.StepEffects.{IsTurn, IsQuiet}
use Rattle.plain_store.proofs.Owned.{Owned}
use Rattle.plain_store.specs.Laws.{IsCallOf}
use Rattle.plain_store.proofs.Served.{Logged, TakenReplies, partitions_reply}
use Rattle.plain_store.proofs.SearchesAsk.{Due, IsDue, IsReplied, TakesNow, found_call, get_tells_none, replied_by, search_told, taken_new, taking_cases, total_push}

-- ---- a search reads no more than `max_found` keys

-- a running search that every partition told was reported of no more than `max_found`
abbrev pub FewTold : Setup → History → Type 0
FewTold setup history =
    (client : ℕ) (transaction : Transaction) (tag : Tag) → running history client ≡ Some transaction → transaction.request ≡ Finds tag → all_found setup (taken_in history transaction) ≡ true
    → total_found (taken_in history transaction) ≤ max_found

-- a turn ends its transaction where its answer is a last one
turn_ends : (older : History) (row : ℕ) (transaction : Transaction) (move : Move) (client : ℕ) → is_by client (message_at older row) ≡ true
    → ends (moves older (Deliver row) transaction move).act (moves older (Deliver row) transaction move).answer older client ≡ (is_last (moves older (Deliver row) transaction move).answer && true)
turn_ends older row transaction (Finishes stamp) client mine = mine
turn_ends older row transaction (Reads readings) client mine = mine
turn_ends older row transaction (Lists readings) client mine = mine
turn_ends older row transaction (Restarts key floor) client mine = mine
turn_ends older row transaction (Fails why []) client mine = mine
turn_ends older row transaction (Fails why (out ∷ outs)) client mine = mine
turn_ends older row transaction _ client mine = refl

-- the last tale ends a search that found more than `max_found`
few_told : (setup : Setup) (older : History) (act : Act) (transaction : Transaction) (tag : Tag) (replies : List Message) (partition : ℕ) (g : Tag) (told : Findings)
    → is_last (moves older act transaction (find_move setup tag replies partition (Found g) (Some (ToFound told)))).answer ≡ false → all_found setup replies ≡ true → total_found replies ≤ max_found
few_told setup older act transaction tag replies partition g told goes_on all = go (list_any (λ key. not (home setup key == partition)) told.keys) goes_on
  where
    few : (b : Bool) → nat_lt max_found (total_found replies) ≡ b → is_last (moves older act transaction (cond b (Fails TooMany []) (cond (total_found replies == 0) (Lists []) (Begins (first_calls setup (all_keys_found replies)))))).answer ≡ false
        → total_found replies ≤ max_found
    few true e k = cc
    few false e k = ltb-false max_found (total_found replies) e

    whole : (b : Bool) → b ≡ true → is_last (moves older act transaction (cond b (search_move setup (total_found replies) (all_keys_found replies)) Waits)).answer ≡ false → total_found replies ≤ max_found
    whole true e k = few (nat_lt max_found (total_found replies)) refl k
    whole false e k = cc

    go : (b : Bool) → is_last (moves older act transaction (cond b (Fails Torn []) (cond (all_found setup replies) (search_move setup (total_found replies) (all_keys_found replies)) Waits))).answer ≡ false → total_found replies ≤ max_found
    go true k = cc
    go false k = whole (all_found setup replies) all k

pub all_replied : (setup : Setup) (history : History) (transaction : Transaction) → Logged setup history → TakenReplies history → (q : Message) → q ∈ taken_in history transaction → IsReplied q
all_replied setup history transaction logged replied q h =
    let i = taken_in_is history transaction q h in
    replied_by setup history q (partitions_reply setup history q logged (taken_sent history q i.0) (replied q i.0))

pub few_step : (setup : Setup) (older : History) (m : Moment) → Kept setup older → Fresh setup older → Owned setup older → Logged setup older → Due setup older → FewTold setup older
    → IsQuiet m ⊎ IsTurn setup older m → FewTold setup (m ∷ older)
few_step setup older m kept fresh owned logged due few way client transaction tag r asks all = go (running_cases m older client transaction r)
  where
    go : IsRunning older m client transaction ⊎ NewBegun older m transaction → total_found (taken_in (m ∷ older) transaction) ≤ max_found
    go (inr n) = subst (λ (qs : List Message). total_found qs ≤ max_found) (sym (taken_new setup m older transaction fresh n)) (omega arith)
    go (inl (was, stays)) = by (taking_cases setup m older transaction kept (running_is older client transaction was).0 way)
      where
        by : (taken_in (m ∷ older) transaction ≡ taken_in older transaction) ⊎ TakesNow setup m older transaction → total_found (taken_in (m ∷ older) transaction) ≤ max_found
        by (inl same) = subst (λ (qs : List Message). total_found qs ≤ max_found) (sym same) (few client transaction tag was asks (ap (all_found setup) (sym same) ∙ all))
        by (inr (row, message, reply, at, e, runs, wanted, of, moves_so, more)) =
            subst (λ (qs : List Message). total_found qs ≤ max_found) (sym more)
            (one message.call refl (subst (λ (q : Intent). IsCallOf setup q message.partition message.call) asks (owned transaction message own (at_is older row message at) of))
            (subst (λ (q : Intent). IsDue setup q (taken_in older transaction) message.call) asks (due transaction message own (at_is older row message at) of)))
          where
            own : transaction ∈ transactions older
            own = (running_is older client transaction was).0

            replies : List Message
            replies = taken_in older transaction ++ message ∷ []

            is : IsReplied message
            is = replied_by setup older message (partitions_reply setup older message logged (at_is older row message at) (reply, e))

            ended : is_last (moves older (Deliver row) transaction (move_of setup transaction.request replies message)).answer ≡ false
            ended = still (is_last (moves older (Deliver row) transaction (move_of setup transaction.request replies message)).answer) (theirs ∙ sym (ap (λ (x : Moment). ends x.act x.answer older client) moves_so) ∙ stays begins_none)
              where
                begins_none : begun_by m.act m.answer ≡ None
                begins_none = ap (λ (x : Moment). begun_by x.act x.answer) moves_so ∙ moves_begin_nothing older row transaction (move_of setup transaction.request replies message)

                mine : is_by client (message_at older row) ≡ true
                mine = ap (is_by client) at ∙ eq-eqb message.client client ((of_transaction transaction message of).0 ∙ (running_is older client transaction was).1)

                theirs : (is_last (moves older (Deliver row) transaction (move_of setup transaction.request replies message)).answer && true) ≡ ends (moves older (Deliver row) transaction (move_of setup transaction.request replies message)).act (moves older (Deliver row) transaction (move_of setup transaction.request replies message)).answer older client
                theirs = sym (turn_ends older row transaction (move_of setup transaction.request replies message) client mine)

                still : (b : Bool) → (b && true) ≡ false → b ≡ false
                still true k = cc
                still false k = refl

            one : (call : Call) → message.call ≡ call → IsCallOf setup (Finds tag) message.partition call → IsDue setup (Finds tag) (taken_in older transaction) call → total_found replies ≤ max_found
            one (Found g) c goes d =
                let told = search_told message g is c in
                few_told setup older (Deliver row) transaction tag replies message.partition g told.0
                ((λ i. is_last (moves older (Deliver row) transaction (find_move setup tag replies message.partition (sym c i) (sym told.1 i))).answer)
                ∙ ap (λ (q : Intent). is_last (moves older (Deliver row) transaction (move_of setup q replies message)).answer) (sym asks) ∙ ended)
                (ap (all_found setup) (sym more) ∙ all)
            one (Get key stamp) c goes d =
                let before = few client transaction tag was asks d in
                let none = (get_tells_none message key stamp is c).0 in
                omega (arith, before, none, total_push (taken_in older transaction) message)
            one _ c goes d = absurd goes

-- ---- a search is reported once by each partition

abbrev pub tales : ℕ → List Message → ℕ
tales partition replies = count_by (λ (q : Message). says_found partition q.partition q.reply) replies

abbrev pub ToldOnce : History → Type 0
ToldOnce history = (transaction : Transaction) → transaction ∈ transactions history → (partition : ℕ) → tales partition (taken_in history transaction) ≤ 1

count_zero : {X : Type 0} (p : X → Bool) (xs : List X) → ((x : X) → x ∈ xs → p x ≡ true → ⊥) → count_by p xs ≡ 0
count_zero p [] none = refl
count_zero {X} p (x ∷ xs) none = count_by-cons p x xs ∙ go (p x) refl (count_zero p xs (λ y h. none y (inr h)))
  where
    go : (b : Bool) → p x ≡ b → count_by p xs ≡ 0 → cond b 1 0 + count_by p xs ≡ 0
    go true e rest = absurd (none x (inl refl) e)
    go false e rest = omega (arith, rest)

pub tales_push : (partition : ℕ) (replies : List Message) (message : Message) → ((q : Message) → q ∈ replies → IsReplied q) → IsReplied message → is_answered replies message.partition message.call ≡ false
    → tales partition replies ≤ 1 → tales partition (replies ++ message ∷ []) ≤ 1
tales_push partition replies message replied is new few =
    subst (λ n. n ≤ 1) (sym (count_by-push test message replies ∙ count_by-cons test message replies)) (go (test message) refl)
  where
    test : Message → Bool
    test q = says_found partition q.partition q.reply

    go : (b : Bool) → test message ≡ b → cond b 1 0 + tales partition replies ≤ 1
    go false e = omega (arith, few)
    go true e =
        let f = found_call message partition is e in
        let none = count_zero test replies (λ q h t.
        let g = found_call q partition (replied q h) t in
        both_ways _ new (any_from (λ (x : Message). same_place message.partition message.call x.partition x.call) replies q h
        ((λ i. same_place message.partition (f.1 i) q.partition (g.1 i)) ∙ eq-eqb message.partition q.partition (f.2 ∙ sym g.2)))) in
        omega (arith, none)

pub once_step : (setup : Setup) (older : History) (m : Moment) → Kept setup older → Fresh setup older → Logged setup older → TakenReplies older → ToldOnce older → IsQuiet m ⊎ IsTurn setup older m → ToldOnce (m ∷ older)
once_step setup older m kept fresh logged replied once way transaction own partition = go (begun_cases m older transaction own)
  where
    go : (transaction ∈ transactions older) ⊎ NewBegun older m transaction → tales partition (taken_in (m ∷ older) transaction) ≤ 1
    go (inr n) = subst (λ (qs : List Message). tales partition qs ≤ 1) (sym (taken_new setup m older transaction fresh n)) (omega arith)
    go (inl was) = by (taking_cases setup m older transaction kept was way)
      where
        by : (taken_in (m ∷ older) transaction ≡ taken_in older transaction) ⊎ TakesNow setup m older transaction → tales partition (taken_in (m ∷ older) transaction) ≤ 1
        by (inl same) = subst (λ (qs : List Message). tales partition qs ≤ 1) (sym same) (once transaction was partition)
        by (inr (row, message, reply, at, e, runs, wanted, of, moves_so, more)) =
            subst (λ (qs : List Message). tales partition qs ≤ 1) (sym more)
            (tales_push partition (taken_in older transaction) message (all_replied setup older transaction logged replied)
            (replied_by setup older message (partitions_reply setup older message logged (at_is older row message at) (reply, e)))
            (not-true _ (and_parts (message.ticket == transaction.ticket) (not (is_answered (taken_in older transaction) message.partition message.call)) wanted).1)
            (once transaction was partition))

-- ---- so no key is reported twice

-- each key stands once
abbrev pub IsOnce : List Key → Type 0
IsOnce keys = (key : Key) → count_of key keys ≤ 1

count_inserted : (key k : Key) (keys : List Key) → count_of key (insert_key k keys) ≡ count_of key (k ∷ keys)
count_inserted key k [] = refl
count_inserted key k (j ∷ js) = go (is_lt (key_cmp k j)) (count_inserted key k js)
  where
    test : Key → Bool
    test x = bytes_eq x key

    go : (b : Bool) → count_by test (insert_key k js) ≡ count_by test (k ∷ js) → count_by test (cond b (k ∷ j ∷ js) (j ∷ insert_key k js)) ≡ count_by test (k ∷ j ∷ js)
    go true rest = refl
    go false rest =
        omega (arith, rest, count_by-cons test j (insert_key k js), count_by-cons test k js, count_by-cons test k (j ∷ js), count_by-cons test j js)

count_sorted : (key : Key) (keys : List Key) → count_of key (sorted_keys keys) ≡ count_of key keys
unfolding sorted_keys
count_sorted key [] = refl
count_sorted key (k ∷ ks) =
    let test = λ (x : Key). bytes_eq x key in
    omega (arith, count_inserted key k (sorted_keys ks), count_by-cons test k (sorted_keys ks), count_by-cons test k ks, count_sorted key ks)

count_take : (key : Key) (n : ℕ) (keys : List Key) → count_of key (take n keys) ≤ count_of key keys
count_take key n keys =
    let test = λ (x : Key). bytes_eq x key in
    let all = ap (count_by test) (take-append-drop n keys) in
    omega (arith, all, count_append test (take n keys) (drop n keys))

found_once : (log : Log) (tag : Tag) (key : Key) → count_of key (findings log tag).keys ≤ 1
unfolding under
found_once log tag key =
    let test = λ (x : Key). bytes_eq x key in
    let one = count_key (items log) key (once (items log) (items-apart log)) in
    let fewer = count_by-le (λ (x : Key). is_under log tag x && test x) test (items log) (λ x t. (and_parts (is_under log tag x) (test x) t).1) in
    omega (arith, one, fewer, count_by-filter test (is_under log tag) (items log), count_sorted key (under log tag), count_take key max_found (sorted_keys (under log tag)))

-- the keys of a reply are reported at their home
abbrev pub IsFoundAtHome : Setup → Message → Type 0
IsFoundAtHome setup message = (key : Key) → key ∈ keys_found message.reply → home setup key ≡ message.partition

reply_count : (setup : Setup) (message : Message) (key : Key) (log : Log) (room : Room) → IsFoundAtHome setup message → (call : Call) → message.reply ≡ Some (reply_after room log call)
    → count_of key (keys_found message.reply) ≤ cond (says_found (home setup key) message.partition message.reply) 1 0
unfolding reply_after
reply_count setup message key log room homes (Found tag) e =
    subst (λ (o : Option Reply). count_of key (keys_found o) ≤ cond (says_found (home setup key) message.partition o) 1 0) (sym e) (go (message.partition == home setup key) refl)
  where
    apart : (message.partition == home setup key) ≡ false → (x : Key) → x ∈ (findings log tag).keys → bytes_eq x key ≡ true → ⊥
    apart f x h t =
        let at = homes key (subst (λ (o : Option Reply). key ∈ keys_found o) (sym e) (subst (λ (k : Key). k ∈ (findings log tag).keys) (key_is x key t) h)) in
        both_ways _ f (eq-eqb message.partition (home setup key) (sym at))

    go : (b : Bool) → (message.partition == home setup key) ≡ b → count_of key (findings log tag).keys ≤ cond b 1 0
    go true f = found_once log tag key
    go false f = let none = count_zero (λ (x : Key). bytes_eq x key) (findings log tag).keys (apart f) in omega (arith, none)
reply_count setup message key log room homes _ e = subst (λ (o : Option Reply). count_of key (keys_found o) ≤ cond (says_found (home setup key) message.partition o) 1 0) (sym e) (omega arith)

told_count : (setup : Setup) (message : Message) (key : Key) → IsReplied message → IsFoundAtHome setup message
    → count_of key (keys_found message.reply) ≤ cond (says_found (home setup key) message.partition message.reply) 1 0
told_count setup message key (room, log, e) homes = reply_count setup message key log room homes message.call e

count_told : (setup : Setup) (key : Key) (qs : List Message) → ((q : Message) → q ∈ qs → IsReplied q) → ((q : Message) → q ∈ qs → IsFoundAtHome setup q)
    → count_of key (flat_map (λ (q : Message). keys_found q.reply) qs) ≤ tales (home setup key) qs
count_told setup key [] replied homes = omega arith
count_told setup key (q ∷ qs) replied homes =
    let here = told_count setup q key (replied q (inl refl)) (homes q (inl refl)) in
    let rest = count_told setup key qs (λ x h. replied x (inr h)) (λ x h. homes x (inr h)) in
    omega (
      arith,
      here,
      rest,
      count_by-cons (λ (x : Message). says_found (home setup key) x.partition x.reply) q qs,
      count_append (λ (k : Key). bytes_eq k key) (keys_found q.reply) (flat_map (λ (x : Message). keys_found x.reply) qs),
    )

pub keys_once : (setup : Setup) (replies : List Message) → ((q : Message) → q ∈ replies → IsReplied q) → ((q : Message) → q ∈ replies → IsFoundAtHome setup q) → ((partition : ℕ) → tales partition replies ≤ 1)
    → IsOnce (all_keys_found replies)
keys_once setup replies replied homes once key =
    let few = count_told setup key replies replied homes in
    let one = once (home setup key) in
    omega (arith, count_sorted key (flat_map (λ (q : Message). keys_found q.reply) replies), few, one)
