-- How a search takes a reply: for `take_found`.
use Rattle.std.proofs.Common.{◌≡◌, ℕ, ◌≤◌, List, [], ◌∷◌, ◌++◌, Bool, true, false, ◌&&◌, ◌||◌, ◌==◌, not, map, filter, ap, sym, ◌∙◌, refl, subst, cond, arith, length, Option, Some, None, inl, inr, length-append}
use Rattle.std.specs.Prelude.{nat_lt}
use Rattle.std.specs.List.{list_any, list_all}
use Rattle.std.proofs.lemmas.Bool.{lt-ltb, ltb-false, and_parts}
use Rattle.std.proofs.lemmas.List.{length-map}
use Rattle.stamps.specs.Key.{sorted_keys}
use Rattle.stamps.specs.Limits.{max_keys, max_found, max_parts}
use Rattle.plain_store.specs.FoundKeys.{Findings}
use Rattle.plain_store.specs.declared.calls.Call.{Call}
use Rattle.plain_store.specs.declared.calls.Call.TheVariants.{Get, Found}
use Rattle.plain_store.specs.declared.calls.Reply.TheVariants.{Found as ToFound}
use Rattle.plain_store.specs.declared.message.Message.{Message}
use Rattle.plain_store.specs.declared.reading.Reading.{Reading}
use Rattle.plain_store.specs.declared.refusal.Refusal.{Refusal}
use Rattle.plain_store.specs.declared.refusal.Refusal.TheVariants.{Torn as IsTorn, TooMany as AreTooMany}
use Rattle.plain_store.specs.Words.{Key, Tag, Stamp, Setup, home}
use Rattle.plain_store.specs.Finding.{found_calls, keys_found, count_found, all_found, total_found, all_keys_found, carrying}
use Rattle.plain_store.specs.History.{Finds}
use Rattle.plain_store.specs.Moves.{Move as PlainMove, Waits, Asks, Begins, Lists, Restarts, Fails, search_move, find_move, read_move, same_place, is_answered}
use Rattle.plain_store.specs.Rounds.{is_shown, first_calls, second_calls, round_of, round_one_complete, round_two_complete, reading_calls}
use Rattle.plain_store.specs.Writing.{Outgoing}
use Rattle.plain_store.proofs.ListTests.{or_parts, all_push}
use Rattle.plain_store.proofs.Members.{in_map, all_at}
use Rattle.std.proofs.lemmas.List.Sorted.{length_permutation}
use Rattle.stamps.proofs.SortLemmas.{sorted_keys-IsPermutation}
use Rattle.get_all.specs.declared.late.Late.{Late}
use Rattle.get_all.specs.declared.tag_search.TagSearch.{TagSearch}
use Rattle.get_all.specs.declared.reader.Reader.{Reader}
use Rattle.get_all.specs.declared.tag_search.FindMove.{FindMove}
use Rattle.get_all.specs.declared.tag_search.FindMove.TheVariants.{Wait as WaitFind, Begin as BeginFind, Ask as AskFind, List as ListFind, Restart as RestartFind, Ignored as IgnoredFind}
use Rattle.get_all.specs.Reader.{ask_for, is_no_read, IsOrderly}
use Rattle.get_all.specs.Reading.{has_ended as has_read, is_of_read}
use Rattle.get_all.specs.TagSearch.{StandsFor, TakesFind, is_last as is_last_find, keys_told, told as told_find}
use Rattle.get_all.specs.Finding.{any_stray, has_ended, is_of_search}
use Rattle.get_all.proofs.New.{new_orderly}
use Rattle.tenant_sessions.specs.Moves.{Wait, Begins as BeginsRead, Ask, Ignored, Ended, Listed, Restart}
use Rattle.tenant_sessions.specs.Parts.{is_replaced_by}
use Rattle.tenant_sessions.specs.Running.{is_reply_of, waiting_calls, IsReplyTo, IsFinding, TakesMessage}
use Rattle.tenant_sessions.proofs.Offers.{IsFoundOf, IsGetOf, find_asked, is_found_reply}
use Rattle.tenant_sessions.proofs.ReadMoves.{ReadTells, read_tells, of_read, get_waits, get_asks, late_outs, late_asked}
use Rattle.tenant_sessions.proofs.CallsSoFar.{keys_push, asking, get_call, get_adds_none}
use Rattle.plain_store.proofs.SearchesAsk.{found_more, total_push}
use Rattle.tenant_sessions.proofs.Starting.{first_at, firsts_are}
use Rattle.tenant_sessions.proofs.Taking.{Turns, turns, not_both, is_ignored, moves_on, ends_so, waits_less, waits_all}

-- ---- what was read

no_get_there : (p : ℕ) (key : Key) (s : Option Stamp) (q : ℕ) (call : Call) → (round_of call == 0) ≡ true → same_place p (Get key s) q call ≡ false
no_get_there p key None q (Get k None) none = cc
no_get_there p key (Some s) q (Get k None) none = cc
no_get_there p key s q call none = cc

none_read : (taken : List Message) (p : ℕ) (key : Key) (s : Option Stamp) → list_all is_no_read taken ≡ true → is_answered taken p (Get key s) ≡ false
none_read [] p key s none = refl
none_read (m ∷ ms) p key s none =
    let parts = and_parts (is_no_read m) (list_all is_no_read ms) none in
    ap (λ b. b || is_answered ms p (Get key s)) (no_get_there p key s m.partition m.call parts.0) ∙ none_read ms p key s parts.1

-- where nothing was read of some keys and they are not all read, round one is not complete
not_shown : (keys : List Key) (replies : List Message) → ((key : Key) → is_shown replies key ≡ false) → (round_one_complete keys replies && round_two_complete keys replies) ≡ false
    → round_one_complete keys replies ≡ false
not_shown [] replies none incomplete = cc
not_shown (key ∷ keys) replies none incomplete = ap (λ b. b && round_one_complete keys replies) (none key)

-- ---- what a move of a search reports

-- where some partition has not told, it waits; a search that begins to read counted `max_found` keys at most, and one that lists none
abbrev pub SearchTells : Setup → Bool → ℕ → List Key → PlainMove → Type 0
SearchTells setup all total keys Waits = all ≡ false
SearchTells setup all total keys (Asks calls) = ⊥
SearchTells setup all total keys (Begins calls) = (all ≡ true) × (nat_lt max_found total ≡ false) × (first_calls setup keys ≡ calls)
SearchTells setup all total keys (Lists told) = ((total == 0) ≡ true) × (told ≡ [])
SearchTells setup all total keys move = Unit {0}

pub search_tells : (setup : Setup) (stray all : Bool) (total : ℕ) (keys : List Key) → SearchTells setup all total keys (cond stray (Fails IsTorn []) (cond all (search_move setup total keys) Waits))
search_tells setup true all total keys = tt
search_tells setup false false total keys = refl
search_tells setup false true total keys = go (nat_lt max_found total) (total == 0) refl refl
  where
    go : (b c : Bool) → nat_lt max_found total ≡ b → (total == 0) ≡ c → SearchTells setup true total keys (cond b (Fails AreTooMany []) (cond c (Lists []) (Begins (first_calls setup keys))))
    go true c e z = tt
    go false true e z = (z, refl)
    go false false e z = (refl, e, refl)

-- ---- one reply

module _ (setup : Setup) (tag : Tag) (taken : List Message) (message : Message) (is : IsReplyTo setup (Finds tag) taken message) where
  abbrev more : List Message
  more = taken ++ message ∷ []

  abbrev lists : List Reading → PlainMove
  lists read = Lists (carrying tag read)

  abbrev move : PlainMove
  move = find_move setup tag more message.partition message.call message.reply

  found_stays : all_found setup taken ≡ true → all_found setup more ≡ true
  found_stays = found_more setup taken (message ∷ [])

  told_reply : IsFoundOf setup tag message → (told : Findings) × (message.reply ≡ Some (ToFound told))
  told_reply k = is_found_reply tag message.reply (ap (λ c. is_reply_of c message.reply) (sym k.1) ∙ is.of_kind)

  searches_so : IsFoundOf setup tag message → (known : PlainMove) → move ≡ known → SearchTells setup (all_found setup more) (total_found more) (all_keys_found more) known
  searches_so k known is_known =
      let r = told_reply k in
      subst (λ (m : PlainMove). SearchTells setup (all_found setup more) (total_found more) (all_keys_found more) m)
      (sym (ap (λ c. find_move setup tag more message.partition c message.reply) k.1 ∙ ap (find_move setup tag more message.partition (Found tag)) r.1) ∙ is_known)
      (search_tells setup (list_any (λ key. not (home setup key == message.partition)) r.0.keys) (all_found setup more) (total_found more) (all_keys_found more))

  keys_same : IsGetOf (all_keys_found taken) taken message → all_keys_found more ≡ all_keys_found taken
  keys_same get = get_adds_none (all_keys_found taken) taken message get is.of_kind

  read_is : IsGetOf (all_keys_found taken) taken message → move ≡ read_move setup (all_keys_found taken) more lists message.call message.reply
  read_is get =
      let k = get_call (all_keys_found taken) taken message get in
      ap (λ c. find_move setup tag more message.partition c message.reply) k.2
      ∙ ap (λ keys. read_move setup keys more lists (Get k.0 k.1) message.reply) (keys_same get)
      ∙ ap (λ c. read_move setup (all_keys_found taken) more lists c message.reply) (sym k.2)

  module _ (search : TagSearch) (lent : Reader) (waiting : List Outgoing) (s : IsFinding setup tag taken search lent waiting) (after : TagSearch) (reader : Reader) where
    abbrev answered : Bool
    answered = is_answered taken message.partition message.call

    -- a first reply to a search comes before each partition told
    asking_so : answered ≡ false → IsFoundOf setup tag message → all_found setup taken ≡ false
    asking_so fresh k = asking setup tag taken message (λ q member. all_at (λ (m : Message). is_reply_of m.call m.reply) taken q s.of_kind member) k fresh

    of_search : answered ≡ false → is_of_search setup taken message.partition message.call message.reply ≡ true
    of_search fresh =
        elim (find_asked setup taken message tag is) [
          | inl k ↦ (λ i. is_of_search setup taken message.partition (k.1 i) ((told_reply k).1 i)) ∙ (λ i. not (asking_so fresh k i) && lt-ltb message.partition setup.partitions k.0 i)
          | inr k ↦
              let g = get_call (all_keys_found taken) taken message k.1 in
              ap (λ c. is_of_search setup taken message.partition c message.reply) g.2 ∙ (λ i. k.0 i && is_of_read (all_keys_found taken) taken (sym g.2 i) message.reply)
              ∙ of_read setup (all_keys_found taken) taken message k.1 is.of_kind
        ]

    turn : (answer : FindMove) → TakesFind setup tag taken message answer after reader → Turns taken message move (told_find setup answer) (has_ended setup) (is_last_find answer) (StandsFor setup tag after reader)
    turn answer t =
        turns taken message move (told_find setup answer) (has_ended setup) (is_last_find answer) (StandsFor setup tag after reader) (is_of_search setup taken message.partition message.call message.reply) of_search s.goes_on t.answered t.stands t.last

    kinds_more : list_all (λ (m : Message). is_reply_of m.call m.reply) more ≡ true
    kinds_more =
        all_push (λ (m : Message). is_reply_of m.call m.reply) taken message ∙ ap (λ b. b && is_reply_of message.call message.reply) s.of_kind ∙ is.of_kind

    -- what is read where it is not ended and each partition told
    reads_on : (replies : List Message) → all_found setup replies ≡ true → has_ended setup replies ≡ false → has_read (all_keys_found replies) replies ≡ false
    reads_on replies all goes =
        (or_parts (nat_lt max_found (total_found replies)) (has_read (all_keys_found replies) replies)
        (ap (λ b. b && (nat_lt max_found (total_found replies) || has_read (all_keys_found replies) replies)) (sym all)
        ∙ (or_parts (any_stray setup replies) (all_found setup replies && (nat_lt max_found (total_found replies) || has_read (all_keys_found replies) replies)) goes).1)).1

    -- what the reader of the search took is in order
    orderly : all_found setup taken ≡ true → IsOrderly (all_keys_found taken) taken
    orderly all = (((s.stands.holds s.goes_on).reading all).stands.holds (reads_on taken all s.goes_on)).orderly

    -- the calls of its part, by what the partitions told
    abbrev part_with : Bool → List Key → List Message → List Outgoing
    part_with all keys replies = cond all (reading_calls setup keys replies) (found_calls setup tag)

    pub find_waits : (left : List Outgoing) → TakesFind setup tag taken message WaitFind after reader → left ≡ filter (λ out. not (is_replaced_by message out)) waiting
        → TakesMessage setup (Finds tag) taken message Wait (λ replies. IsFinding setup tag replies after reader left)
    find_waits left t left_is =
        let got = turn WaitFind t in
        let stay = stays got.1 got.0 in
        moves_on setup (Finds tag) taken message _ Waits got.0 got.1
        (λ _. record { stands = got.2; goes_on = got.3 refl; few = stay.0; of_kind = kinds_more; waits = waits_less setup (Finds tag) taken message left waiting left_is s.waits stay.1 }) refl (omega arith)
      where
        stays : move ≡ Waits → answered ≡ false → (all_found setup more ≡ true → length (all_keys_found more) ≤ max_found) × (part_with (all_found setup more) (all_keys_found more) more ≡ part_with (all_found setup taken) (all_keys_found taken) taken)
        stays waits fresh =
            elim (find_asked setup taken message tag is) [
              | inl k ↦
                  let still = searches_so k Waits waits in
                  (λ all. not_both (all_found setup more) all still, ap (λ b. part_with b (all_keys_found more) more) still ∙ sym (ap (λ b. part_with b (all_keys_found taken) taken) (asking_so fresh k)))
              | inr k ↦
                  let keys = keys_same k.1 in
                  let same = get_waits setup (all_keys_found taken) taken message k.1 is.of_kind (orderly k.0) fresh lists (λ read call. tt) (sym (read_is k.1) ∙ waits) in
                  let few = s.few k.0 in
                  (λ all. omega (arith, ap length keys, few), (λ i. part_with (found_stays k.0 i) (keys i) more) ∙ same ∙ sym (ap (λ b. part_with b (all_keys_found taken) taken) k.0))
            ]

    pub find_asks : (parts : ℕ) (left : List Outgoing) (late : List Late) → setup.partitions ≡ parts → TakesFind setup tag taken message (AskFind late) after reader → (length (late_outs parts late) ≤ max_parts → left ≡ late_outs parts late)
        → TakesMessage setup (Finds tag) taken message Ask (λ replies. IsFinding setup tag replies after reader left)
    find_asks parts left late parts_are t new =
        let got = turn (AskFind late) t in
        elim (find_asked setup taken message tag is) [
          | inl k ↦ absurd (searches_so k (Asks (map (ask_for setup) late)) got.1)
          | inr k ↦
              let keys = keys_same k.1 in
              let ask = get_asks setup (all_keys_found taken) taken message k.1 is.of_kind (orderly k.0) got.0 lists (λ read call. tt) (map (ask_for setup) late) (sym (read_is k.1) ∙ got.1) in
              let few = s.few k.0 in
              let all = late_asked setup (Finds tag) (all_keys_found taken) taken message parts left late parts_are new few ((λ i. part_with (found_stays k.0 i) (keys i) more) ∙ ask.0) ask.1 ask.2 in
              moves_on setup (Finds tag) taken message _ (Asks (map (ask_for setup) late)) got.0 got.1
              (λ _. record { stands = got.2; goes_on = got.3 refl; few = λ _. omega (arith, ap length keys, few); of_kind = kinds_more; waits = all.1 }) all.0 all.2
        ]

    pub find_begins : (parts : ℕ) (left : List Outgoing) (keys own : List Key) (parts_are : setup.partitions ≡ parts) → TakesFind setup tag taken message (BeginFind keys) after reader
        → length (keys_found message.reply) ≤ count_found message.reply → (length keys ≤ max_keys → own ≡ keys)
        → (length (map (first_at setup parts parts_are) own) ≤ max_parts → left ≡ map (first_at setup parts parts_are) own)
        → TakesMessage setup (Finds tag) taken message BeginsRead (λ replies. IsFinding setup tag replies after reader left)
    find_begins parts left keys own parts_are t counts are new =
        let calls = first_calls setup keys in
        let got = turn (BeginFind keys) t in
        elim (find_asked setup taken message tag is) [
          | inl k ↦
              let found = all_keys_found more in
              let begins = searches_so k (Begins calls) got.1 in
              let a = (s.stands.holds s.goes_on).asking (asking_so got.0 k) in
              let total = total_push taken message in
              let few_found : total_found more ≤ max_found = ltb-false max_found (total_found more) begins.1 in
              let counted = a.counted (omega (arith, total, few_found)) in
              let told = keys_push taken message in
              let few_keys : length found ≤ max_keys =
              omega (arith, length_permutation (keys_told more) (sorted_keys (keys_told more)) (sorted_keys-IsPermutation (keys_told more)), ap length told, length-append (keys_told taken) (keys_found message.reply), counted, counts, total, few_found) in
              let first : Key → Outgoing = λ key. record { partition = home setup key; call = Get key None } in
              let few : length calls ≤ max_keys = omega (arith, ap length begins.2, length-map found first, few_keys) in
              let own_is : own ≡ keys = are (omega (arith, length-map keys first, few)) in
              let made : map (first_at setup parts parts_are) own ≡ calls = ap (map (first_at setup parts parts_are)) own_is ∙ firsts_are setup parts parts_are keys in
              let left_is : left ≡ calls = new (omega (arith, ap length made, few)) ∙ made in
              let none : list_all is_no_read more ≡ true =
              all_push is_no_read taken message ∙ ap (λ b. b && is_no_read message) a.no_reads ∙ ap (λ c. round_of c == 0) k.1 in
              let unshown : (key : Key) → is_shown more key ≡ false = λ key. sym ((new_orderly more none found).first_answers 0 key) ∙ none_read more 0 key None none in
              let incomplete = not_shown found more unshown (or_parts _ _ (reads_on more begins.0 (got.3 refl))).1 in
              let all : waiting_calls setup (Finds tag) more ≡ calls =
              waits_all setup (Finds tag) taken message calls
              (ap (λ b. part_with b found more) begins.0 ∙ ap (λ b. cond b (second_calls setup found more) (first_calls setup found)) incomplete ∙ begins.2)
              (λ out member.
              let m = in_map first keys out member in
              ap (λ (o : Outgoing). is_answered more o.partition o.call) m.2 ∙ none_read more (home setup m.0) m.0 None none) in
              moves_on setup (Finds tag) taken message _ (Begins calls) got.0 got.1
              (λ _. record { stands = got.2; goes_on = got.3 refl; few = λ _. few_keys; of_kind = kinds_more; waits = left_is ∙ sym all }) (sym all) few
          | inr k ↦
              let tells = read_tells setup (all_keys_found taken) more lists (λ read call. tt) message.call message.reply is.of_kind in
              absurd (subst (λ (m : PlainMove). ReadTells setup (all_keys_found taken) more message.call m) (sym (read_is k.1) ∙ got.1) tells)
        ]

    pub find_lists : (items : List Reading) → TakesFind setup tag taken message (ListFind items) after reader → TakesMessage setup (Finds tag) taken message (Listed items) (λ replies. IsFinding setup tag replies after reader waiting)
    find_lists items t =
        let got = turn (ListFind items) t in
        moves_on setup (Finds tag) taken message _ (Lists items) got.0 got.1 (λ last. cc) refl (omega arith)

    pub find_restarts : (key : Key) (floor : Stamp) → TakesFind setup tag taken message (RestartFind key floor) after reader
        → TakesMessage setup (Finds tag) taken message (Restart key floor) (λ replies. IsFinding setup tag replies after reader waiting)
    find_restarts key floor t =
        let got = turn (RestartFind key floor) t in
        moves_on setup (Finds tag) taken message _ (Restarts key floor) got.0 got.1 (λ last. cc) refl (omega arith)

    -- an end without calls
    pub find_fails : (left calls : List Outgoing) (why : Refusal) (answer : FindMove) → TakesFind setup tag taken message answer after reader → told_find setup answer ≡ Some (Fails why []) → calls ≡ []
        → TakesMessage setup (Finds tag) taken message (Ended why calls) (λ replies. IsFinding setup tag replies after reader left)
    find_fails left calls why answer t says none =
        let got = subst (λ (o : Option PlainMove). Turns taken message move o (has_ended setup) (is_last_find answer) (StandsFor setup tag after reader)) says (turn answer t) in
        ends_so setup (Finds tag) taken message _ why [] calls got.0 got.1 none (omega arith)

    pub find_ignores : TakesFind setup tag taken message IgnoredFind after reader → TakesMessage setup (Finds tag) taken message Ignored (λ replies. IsFinding setup tag replies after reader waiting)
    find_ignores t =
        let left = turn IgnoredFind t in
        is_ignored setup (Finds tag) taken message _ left.0 (record { stands = left.1; goes_on = s.goes_on; few = s.few; of_kind = s.of_kind; waits = s.waits })
