-- For `TagSearch::take_found`. What each answer of a search is to the replies that it took.
use Rattle.std.proofs.Common.{◌≡◌, ℕ, zero, suc, ◌+◌, ◌<◌, ◌≤◌, min, List, [], ◌∷◌, ◌++◌, Bool, true, false, ◌&&◌, ◌||◌, ◌==◌, not, map, ap, sym, ◌∙◌, refl, cond, subst, arith, length, Some, None, ◌⊎◌, inl, inr, length-append}
use Rattle.std.specs.Prelude.{nat_lt, bytes_eq}
use Rattle.std.specs.List.{list_any, list_all}
use Rattle.std.proofs.lemmas.Bool.{and_parts, or_cases, eqb-true, eq-eqb, ne_eqb, lt-ltb, le-ltb, not-true, not-false, or_left, or_right, cases_lt}
use Rattle.std.proofs.lemmas.Cmp.{nat_eq_equiv}
use Rattle.std.proofs.lemmas.List.{append-nil}
use Rattle.std.proofs.lemmas.List.Sums.{sum_by-append}
use Rattle.std.proofs.lemmas.Grind.{flat_map-append}
use Rattle.stamps.specs.Key.{IsTransactionKeys, sorted_keys, home_of}
use Rattle.stamps.specs.Limits.{max_keys, max_found}
use Rattle.stamps.specs.WriteSet.{contains_key}
use Rattle.stamps.proofs.KeyLemmas.{IsAscending-distinct}
use Rattle.plain_store.specs.FoundKeys.{Findings, IsFound}
use Rattle.plain_store.proofs.BadKeys.{once, transaction_keys}
use Rattle.plain_store.specs.declared.calls.Call.{Call}
use Rattle.plain_store.specs.declared.calls.Call.TheVariants.{Found}
use Rattle.plain_store.specs.declared.message.Message.{Message}
use Rattle.plain_store.specs.declared.refusal.Refusal.TheVariants.{Torn as IsTorn, TooMany as AreTooMany}
use Rattle.plain_store.specs.Words.{Key, Tag, Setup, home}
use Rattle.plain_store.specs.Rounds.{first_calls}
use Rattle.plain_store.specs.Finding.{below, says_found, keys_found, count_found, all_found, total_found, all_keys_found}
use Rattle.plain_store.specs.Moves.{Waits, Begins, Lists, Fails, search_move, find_move, same_place, is_answered}
use Rattle.plain_store.specs.Run.{one_twice, are_bad}
use Rattle.plain_store.proofs.ListTests.{or_parts, or-false, any_push, all_push, map_again}
use Rattle.plain_store.proofs.Stamps.{key_is}
use Rattle.get_all.specs.AskedPartition.{with_told, awaits}
use Rattle.get_all.specs.Reading.{any_last, has_ended as has_read}
use Rattle.get_all.specs.Reader.{is_no_read, StandsFor as StandsForRead}
use Rattle.get_all.specs.Finding.{is_stray, any_stray, has_ended, is_of_search, is_wanted, IsTold}
use Rattle.get_all.specs.TagSearch.{told, is_last, keys_told, has_told, asked_after, IsAsking, StandsFor, TakesFind}
use Rattle.get_all.specs.declared.told.AskedPartition.{AskedPartition}
use Rattle.get_all.specs.declared.reader.Reader.{Reader}
use Rattle.get_all.specs.declared.tag_search.TagSearch.{TagSearch}
use Rattle.get_all.specs.declared.tag_search.FindMove.{FindMove}
use Rattle.get_all.specs.declared.tag_search.FindMove.TheVariants.{Wait, Begin, List as Listing, TooMany, Torn, Ignored}
use Rattle.get_all.proofs.New.{not_ended}
use Rattle.get_all.proofs.SearchedKeys.{all_told, awaiting, contains-append, none_awaited, once_append, sorted_none, sorted_some}

module _ (setup : Setup) (tag : Tag) (taken : List Message) (message : Message) where
  abbrev more : List Message
  more = taken ++ message ∷ []

  pub ignores : (f : TagSearch) (r : Reader) → StandsFor setup tag f r taken → is_wanted setup taken message ≡ false → TakesFind setup tag taken message Ignored f r
  ignores f r s unwanted =
      let P : Bool → Type 0 = λ b. StandsFor setup tag f r (cond b more taken) in
      record {
        answered = sym (ap (λ b. cond b (Some (find_move setup tag more message.partition message.call message.reply)) None) unwanted);
        stands = subst P (sym unwanted) s;
        last = ap (λ b. has_ended setup (cond b more taken)) unwanted ∙ sym (or-false (has_ended setup taken));
      }

  takes : (answer : FindMove) (after : TagSearch) (reader : Reader) → is_wanted setup taken message ≡ true
      → told setup answer ≡ Some (find_move setup tag more message.partition message.call message.reply)
      → StandsFor setup tag after reader more → has_ended setup more ≡ is_last answer → TakesFind setup tag taken message answer after reader
  takes answer after reader wanted moves s over =
      let P : Bool → Type 0 = λ b. StandsFor setup tag after reader (cond b more taken) in
      record {
        answered = moves ∙ sym (ap (λ b. cond b (Some (find_move setup tag more message.partition message.call message.reply)) None) wanted);
        stands = subst P (sym wanted) s;
        last = ap (λ b. has_ended setup (cond b more taken)) wanted ∙ over ∙ sym (ap (λ b. b || is_last answer) (open_if (has_ended setup taken) _ wanted));
      }
    where
      open_if : (x y : Bool) → (not x && y) ≡ true → x ≡ false
      open_if true y h = cc
      open_if false y h = refl

  contrary : {X : Type 0} (b : Bool) → b ≡ true → b ≡ false → X
  contrary b e f = cc

  module _ (p : ℕ) (found : Findings) (is : IsTold p found message) where
    says : (q : ℕ) → says_found q message.partition message.reply ≡ (q == p)
    says q = ap (says_found q message.partition) is.replied ∙ ap (λ n. n == q) is.at ∙ nat_eq_equiv.symm p q

    told_more : (q : ℕ) → has_told more q ≡ (has_told taken q || (q == p))
    told_more q = any_push (λ m. says_found q m.partition m.reply) taken message ∙ ap (λ b. has_told taken q || b) (says q)

    asked_more : map (with_told p) (map (asked_after taken) (below setup.partitions)) ≡ map (asked_after more) (below setup.partitions)
    asked_more = map_again (with_told p) (asked_after taken) (asked_after more) (λ q i. record { partition = q; has_told = sym (told_more q) i }) (below setup.partitions)

    keys_more : keys_told more ≡ keys_told taken ++ found.keys
    keys_more =
        flat_map-append (λ (m : Message). keys_found m.reply) taken (message ∷ [])
        ∙ ap (λ ks. keys_told taken ++ ks) (append-nil (keys_found message.reply) ∙ ap keys_found is.replied)

    total_more : total_found more ≡ total_found taken + found.count
    total_more = sum_by-append (λ (m : Message). count_found m.reply) taken (message ∷ []) ∙ omega (arith, ap count_found is.replied)

    abbrev strays : Bool
    strays = list_any (λ key. not (home setup key == p)) found.keys

    stray_is : is_stray setup message.partition message.reply ≡ strays
    stray_is = ap (is_stray setup message.partition) is.replied ∙ ap (λ n. list_any (λ key. not (home setup key == n)) found.keys) is.at

    stray_more : any_stray setup more ≡ (any_stray setup taken || strays)
    stray_more = any_push (λ m. is_stray setup m.partition m.reply) taken message ∙ ap (λ b. any_stray setup taken || b) stray_is

    move_is : find_move setup tag more message.partition message.call message.reply
        ≡ cond strays (Fails IsTorn []) (cond (all_found setup more) (search_move setup (total_found more) (all_keys_found more)) Waits)
    move_is =
        ap (λ c. find_move setup tag more message.partition c message.reply) is.call
        ∙ ap (find_move setup tag more message.partition (Found is.tag)) is.replied
        ∙ ap (λ n. cond (list_any (λ key. not (home setup key == n)) found.keys) (Fails IsTorn []) (cond (all_found setup more) (search_move setup (total_found more) (all_keys_found more)) Waits)) is.at

    module _ (f : TagSearch) (r : Reader) (s : StandsFor setup tag f r taken) where
      pub wanted_over : f.has_ended ≡ true → is_wanted setup taken message ≡ false
      wanted_over over =
          ap (λ b. not b && (is_of_search setup taken message.partition message.call message.reply && not (is_answered taken message.partition message.call))) (sym s.ended ∙ over)

      module _ (going : f.has_ended ≡ false) where
        unended : has_ended setup taken ≡ false
        unended = sym s.ended ∙ going

        pub wanted_told : is_wanted setup taken message ≡ list_any (awaits p) f.asked
        wanted_told =
            let h = s.holds unended in
            ap (λ b. not b && (is_of_search setup taken message.partition message.call message.reply && not (is_answered taken message.partition message.call))) unended
            ∙ ap (λ c. is_of_search setup taken message.partition c message.reply && not (is_answered taken message.partition c)) is.call
            ∙ ap (λ r. is_of_search setup taken message.partition (Found is.tag) r && not (is_answered taken message.partition (Found is.tag))) is.replied
            ∙ ap (λ n. (not (all_found setup taken) && nat_lt n setup.partitions) && not (is_answered taken n (Found is.tag))) is.at
            ∙ go (all_found setup taken) refl
            ∙ sym (ap (list_any (awaits p)) h.asked)
          where
            go : (b : Bool) → all_found setup taken ≡ b → ((not b && nat_lt p setup.partitions) && not (is_answered taken p (Found is.tag))) ≡ list_any (awaits p) (map (asked_after taken) (below setup.partitions))
            go true e = sym (none_awaited setup taken p e)
            go false e = ap (λ b. nat_lt p setup.partitions && not b) (((s.holds unended).asking e).answered p is.tag) ∙ sym (awaiting setup taken p)

        -- while a partition is awaited the search asks
        still_asking : list_any (awaits p) f.asked ≡ true → all_found setup taken ≡ false
        still_asking awaited = go (all_found setup taken) refl
          where
            go : (b : Bool) → all_found setup taken ≡ b → all_found setup taken ≡ false
            go false e = e
            go true e = contrary (list_any (awaits p) f.asked) awaited (ap (list_any (awaits p)) (s.holds unended).asked ∙ none_awaited setup taken p e)

        pub tears : (after : TagSearch) → list_any (awaits p) f.asked ≡ true → strays ≡ true → after.tag ≡ f.tag → after.parts ≡ f.parts → after.has_ended ≡ true
            → (answer : FindMove) → answer ≡ Torn → TakesFind setup tag taken message answer after r
        tears after awaited stray tagged parts over answer torn =
            let ended : has_ended setup more ≡ true =
            ap (λ b. b || (all_found setup more && (nat_lt max_found (total_found more) || has_read (all_keys_found more) more)))
            (stray_more ∙ ap (λ b. any_stray setup taken || b) stray ∙ or_right (any_stray setup taken) true refl) in
            takes answer after r (wanted_told ∙ awaited)
            (ap (told setup) torn ∙ ap Some (sym (move_is ∙ ap (λ b. cond b (Fails IsTorn []) (cond (all_found setup more) (search_move setup (total_found more) (all_keys_found more)) Waits)) stray)))
            (record { tagged = tagged ∙ s.tagged; parts = parts ∙ s.parts; ended = over ∙ sym ended; holds = λ open_yet. contrary (has_ended setup more) ended open_yet })
            (ended ∙ sym (ap is_last torn))

        -- what is added to what was reported
        module _ (awaited : list_any (awaits p) f.asked ≡ true) (fits : IsFound found) (honest : strays ≡ false) (added : TagSearch)
            (asked : added.asked ≡ map (with_told p) f.asked) (total : added.total ≡ min (f.total + found.count) (max_found + 1))
            (keys : added.total ≤ max_found → added.keys ≡ f.keys ++ found.keys) (unread : added.reads ≡ f.reads) where
          before : IsAsking setup f taken
          before = (s.holds unended).asking (still_asking awaited)

          pub asked_now : added.asked ≡ map (asked_after more) (below setup.partitions)
          asked_now = asked ∙ ap (map (with_told p)) (s.holds unended).asked ∙ asked_more

          at_home_now : any_stray setup more ≡ false
          at_home_now = stray_more ∙ ap (λ b. b || strays) (s.holds unended).at_home ∙ honest

          pub total_now : added.total ≡ min (total_found more) (max_found + 1)
          total_now = omega (arith, total, before.total, total_more)

          new_key : (key : Key) → contains_key found.keys key ≡ true → home setup key ≡ p
          new_key key member = go found.keys honest member
            where
              go : (ks : List Key) → list_any (λ k. not (home setup k == p)) ks ≡ false → contains_key ks key ≡ true → home setup key ≡ p
              go [] fine h = cc
              go (k ∷ ks) fine h = pick (or_cases (bytes_eq k key) (contains_key ks key) h) (go ks (or_parts _ _ fine).1)
                where
                  pick : (bytes_eq k key ≡ true) ⊎ (contains_key ks key ≡ true) → (contains_key ks key ≡ true → home setup key ≡ p) → home setup key ≡ p
                  pick (inl same) later = ap (home setup) (sym (key_is k key same)) ∙ eqb-true (home setup k) p (not-false (home setup k == p) (or_parts (not (home setup k == p)) _ fine).0)
                  pick (inr there) later = later there

          not_told : has_told taken p ≡ false
          not_told =
              let waits = and_parts (nat_lt p setup.partitions) (not (has_told taken p)) (sym (ap (list_any (awaits p)) (s.holds unended).asked ∙ awaiting setup taken p) ∙ awaited) in
              not-true (has_told taken p) waits.1

          asking_now : IsAsking setup added more
          asking_now = record {
            unread = unread ∙ before.unread;
            no_reads = all_push is_no_read taken message ∙ ap (λ b. b && is_no_read message) before.no_reads ∙ ap (λ c. round_is_none c) is.call;
            total = total_now;
            keys = λ few.
                keys (omega (arith, total_now, few)) ∙ ap (λ ks. ks ++ found.keys) (before.keys (omega (arith, few, total_more))) ∙ sym keys_more;
            counted = λ few.
                let held = before.counted (omega (arith, few, total_more)) in
                omega (arith, ap length keys_more, length-append (keys_told taken) found.keys, held, fits.as_many, total_more, few);
            distinct = ap one_twice keys_more ∙ once_append (keys_told taken) found.keys before.distinct (once found.keys (IsAscending-distinct found.keys fits.ascending))
                (λ key member. apart key member (contains_key found.keys key) refl);
            homes = λ key member.
                told_more (home setup key) ∙ known key (or_cases (contains_key (keys_told taken) key) (contains_key found.keys key) (sym (ap (λ ks. contains_key ks key) keys_more ∙ contains-append (keys_told taken) found.keys key) ∙ member));
            answered = λ q t.
                any_push (λ (m : Message). same_place q (Found t) m.partition m.call) taken message
                ∙ ap (λ b. b || same_place q (Found t) message.partition message.call) (before.answered q t)
                ∙ ap (λ c. has_told taken q || same_place q (Found t) message.partition c) is.call
                ∙ ap (λ n. has_told taken q || (q == n)) is.at
                ∙ sym (told_more q);
          }
            where
              round_is_none : Call → Bool
              round_is_none c = is_no_read (record { client = message.client; ticket = message.ticket; partition = message.partition; call = c; reply = message.reply })

              apart : (key : Key) → contains_key (keys_told taken) key ≡ true → (b : Bool) → contains_key found.keys key ≡ b → contains_key found.keys key ≡ false
              apart key member false e = e
              apart key member true e = contrary (has_told taken p) (ap (has_told taken) (sym (new_key key e)) ∙ before.homes key member) not_told

              known : (key : Key) → (contains_key (keys_told taken) key ≡ true) ⊎ (contains_key found.keys key ≡ true) → (has_told taken (home setup key) || (home setup key == p)) ≡ true
              known key (inl member) = or_left (has_told taken (home setup key)) (home setup key == p) (before.homes key member)
              known key (inr member) = or_right (has_told taken (home setup key)) (home setup key == p) (eq-eqb (home setup key) p (new_key key member))

          all_now : list_all (λ (a : AskedPartition). a.has_told) added.asked ≡ all_found setup more
          all_now = ap (list_all (λ (a : AskedPartition). a.has_told)) asked_now ∙ all_told setup more

          move_now : find_move setup tag more message.partition message.call message.reply ≡ cond (all_found setup more) (search_move setup (total_found more) (all_keys_found more)) Waits
          move_now = move_is ∙ ap (λ b. cond b (Fails IsTorn []) (cond (all_found setup more) (search_move setup (total_found more) (all_keys_found more)) Waits)) honest

          ended_now : has_ended setup more ≡ (all_found setup more && (nat_lt max_found (total_found more) || has_read (all_keys_found more) more))
          ended_now = ap (λ b. b || (all_found setup more && (nat_lt max_found (total_found more) || has_read (all_keys_found more) more))) at_home_now

          pub waits_on : added.tag ≡ f.tag → added.parts ≡ f.parts → added.has_ended ≡ f.has_ended → list_all (λ (a : AskedPartition). a.has_told) added.asked ≡ false → TakesFind setup tag taken message Wait added r
          waits_on tagged parts same unfinished =
              let not_all : all_found setup more ≡ false = sym all_now ∙ unfinished in
              let open_now : has_ended setup more ≡ false =
              ended_now ∙ ap (λ b. b && (nat_lt max_found (total_found more) || has_read (all_keys_found more) more)) not_all in
              takes Wait added r (wanted_told ∙ awaited)
              (ap Some (sym (move_now ∙ ap (λ b. cond b (search_move setup (total_found more) (all_keys_found more)) Waits) not_all)))
              (record {
                tagged = tagged ∙ s.tagged;
                parts = parts ∙ s.parts;
                ended = same ∙ going ∙ sym open_now;
                holds = λ o. record { asked = asked_now; at_home = at_home_now; asking = λ a. asking_now; reading = λ all. contrary (all_found setup more) all not_all };
              }) open_now

          module _ (finished : list_all (λ (a : AskedPartition). a.has_told) added.asked ≡ true) where
            all_in : all_found setup more ≡ true
            all_in = sym all_now ∙ finished

            search_now : find_move setup tag more message.partition message.call message.reply ≡ search_move setup (total_found more) (all_keys_found more)
            search_now = move_now ∙ ap (λ b. cond b (search_move setup (total_found more) (all_keys_found more)) Waits) all_in

            ended_all : has_ended setup more ≡ (nat_lt max_found (total_found more) || has_read (all_keys_found more) more)
            ended_all = ended_now ∙ ap (λ b. b && (nat_lt max_found (total_found more) || has_read (all_keys_found more) more)) all_in

            ended_with : (answer : FindMove) (after : TagSearch) (next : Reader) → after.tag ≡ f.tag → after.parts ≡ f.parts → after.has_ended ≡ true → has_ended setup more ≡ true → is_last answer ≡ true
                → told setup answer ≡ Some (search_move setup (total_found more) (all_keys_found more)) → TakesFind setup tag taken message answer after next
            ended_with answer after next tagged parts over ended closes moves =
                takes answer after next (wanted_told ∙ awaited) (moves ∙ ap Some (sym search_now))
                (record { tagged = tagged ∙ s.tagged; parts = parts ∙ s.parts; ended = over ∙ sym ended; holds = λ open_yet. contrary (has_ended setup more) ended open_yet })
                (ended ∙ sym closes)

            pub too_many : max_found < added.total → (after : TagSearch) (next : Reader) → after.tag ≡ f.tag → after.parts ≡ f.parts → after.has_ended ≡ true → (answer : FindMove) → answer ≡ TooMany → TakesFind setup tag taken message answer after next
            too_many many after next tagged parts over answer is_many =
                let above : nat_lt max_found (total_found more) ≡ true = lt-ltb max_found (total_found more) (omega (arith, many, total_now)) in
                ended_with answer after next tagged parts over (ended_all ∙ ap (λ b. b || has_read (all_keys_found more) more) above) (ap is_last is_many)
                (ap (told setup) is_many ∙ ap (λ b. Some (cond b (Fails AreTooMany []) (cond (total_found more == 0) (Lists []) (Begins (first_calls setup (all_keys_found more)))))) (sym above))

            module _ (few : added.total ≤ max_found) where
              within : total_found more ≤ max_found
              within = omega (arith, few, total_now)

              not_above : nat_lt max_found (total_found more) ≡ false
              not_above = le-ltb max_found (total_found more) within

              keys_now : added.keys ≡ keys_told more
              keys_now = asking_now.keys within

              count_now : length (keys_told more) ≡ total_found more
              count_now = asking_now.counted within

              good_now : 0 < total_found more → IsTransactionKeys added.keys
              good_now some =
                  let good : are_bad (keys_told more) ≡ false =
                  ap (λ b. b || (nat_lt max_keys (length (keys_told more)) || one_twice (keys_told more))) (ne_eqb (length (keys_told more)) 0 (λ none. omega (arith, none, count_now, some)))
                  ∙ ap (λ b. b || one_twice (keys_told more)) (le-ltb max_keys (length (keys_told more)) (omega (arith, count_now, within))) ∙ asking_now.distinct in
                  subst IsTransactionKeys (sym keys_now) (transaction_keys (keys_told more) good)

              pub nothing : (IsTransactionKeys added.keys → ⊥) → (after : TagSearch) (next : Reader) → after.tag ≡ f.tag → after.parts ≡ f.parts → after.has_ended ≡ true → (answer : FindMove) → answer ≡ Listing [] → TakesFind setup tag taken message answer after next
              nothing bad after next tagged parts over answer is_none =
                  let zero_now : total_found more ≡ 0 = go (total_found more) refl in
                  let none_at_all : all_keys_found more ≡ [] = sorted_none (keys_told more) (count_now ∙ zero_now) in
                  ended_with answer after next tagged parts over
                  (ended_all ∙ ap (λ b. b || has_read (all_keys_found more) more) not_above ∙ ap (λ ks. has_read ks more) none_at_all ∙ or_right (any_last more more) true refl)
                  (ap is_last is_none)
                  (ap (told setup) is_none
                  ∙ ap Some (sym (ap (λ b. cond b (Fails AreTooMany []) (cond (total_found more == 0) (Lists []) (Begins (first_calls setup (all_keys_found more))))) not_above
                  ∙ ap (λ b. cond b (Lists []) (Begins (first_calls setup (all_keys_found more)))) (eq-eqb (total_found more) 0 zero_now))))
                where
                  go : (n : ℕ) → total_found more ≡ n → total_found more ≡ 0
                  go zero e = e
                  go (suc n) e = absurd (bad (good_now (omega (arith, e))))

              pub begins : (good : IsTransactionKeys added.keys) (after : TagSearch) (next : Reader) → after.tag ≡ f.tag → after.parts ≡ f.parts → after.has_ended ≡ f.has_ended → after.asked ≡ added.asked
                  → after.reads ≡ true → ((replies : List Message) → list_all is_no_read replies ≡ true → StandsForRead (sorted_keys added.keys) next replies)
                  → (answer : FindMove) → answer ≡ Begin (sorted_keys added.keys) → TakesFind setup tag taken message answer after next
              begins good after next tagged parts same asks reads stands answer is_begin =
                  let some_now : 0 < total_found more = omega (arith, good.not_empty, ap length keys_now, count_now) in
                  let sorted_now : sorted_keys added.keys ≡ all_keys_found more = ap sorted_keys keys_now in
                  let unread : has_read (all_keys_found more) more ≡ false = not_ended more asking_now.no_reads (all_keys_found more) (sorted_some (keys_told more) (omega (arith, count_now, some_now))) in
                  let open_now : has_ended setup more ≡ false = ended_all ∙ ap (λ b. b || has_read (all_keys_found more) more) not_above ∙ unread in
                  takes answer after next (wanted_told ∙ awaited)
                  (ap (told setup) is_begin ∙ ap (λ ks. Some (Begins (first_calls setup ks))) sorted_now
                  ∙ ap Some (sym (search_now ∙ ap (λ b. cond b (Fails AreTooMany []) (cond (total_found more == 0) (Lists []) (Begins (first_calls setup (all_keys_found more))))) not_above
                  ∙ ap (λ b. cond b (Lists []) (Begins (first_calls setup (all_keys_found more)))) (ne_eqb (total_found more) 0 (λ none. omega (arith, none, some_now))))))
                  (record {
                    tagged = tagged ∙ s.tagged;
                    parts = parts ∙ s.parts;
                    ended = same ∙ going ∙ sym open_now;
                    holds = λ o. record {
                      asked = asks ∙ asked_now;
                      at_home = at_home_now;
                      asking = λ a. contrary (all_found setup more) all_in a;
                      reading = λ all. record { reads = reads; few = not_above; stands = read_of sorted_now };
                    };
                  })
                  (open_now ∙ sym (ap is_last is_begin))
                where
                  read_of : sorted_keys added.keys ≡ all_keys_found more → StandsForRead (all_keys_found more) next more
                  read_of sorted =
                      let P : List Key → Type 0 = λ ks. StandsForRead ks next more in
                      subst P sorted (stands more asking_now.no_reads)

            pub finishes : (after : TagSearch) (next : Reader) (answer : FindMove) → added.tag ≡ f.tag → added.parts ≡ f.parts → added.has_ended ≡ f.has_ended
                → (max_found < added.total → (answer ≡ TooMany) × (after ≡ record added { has_ended = true }))
                → (added.total ≤ max_found → (IsTransactionKeys added.keys → ⊥) → (answer ≡ Listing []) × (after ≡ record added { has_ended = true }))
                → (added.total ≤ max_found → IsTransactionKeys added.keys → (answer ≡ Begin (sorted_keys added.keys)) × (after.tag ≡ added.tag) × (after.parts ≡ added.parts) × (after.asked ≡ added.asked) × (after.has_ended ≡ added.has_ended)
                × (after.reads ≡ true) × ((replies : List Message) → list_all is_no_read replies ≡ true → StandsForRead (sorted_keys added.keys) next replies))
                → TakesFind setup tag taken message answer after next
            finishes after next answer tagged parts same many none some = go (cases_lt max_found added.total)
              where
                filled : (few : added.total ≤ max_found) (n : ℕ) → total_found more ≡ n → TakesFind setup tag taken message answer after next
                filled few zero e =
                    let bad : IsTransactionKeys added.keys → ⊥ = λ good. omega (arith, good.not_empty, ap length (keys_now few), count_now few, e) in
                    let h = none few bad in
                    nothing few bad after next (ap (λ a. a.tag) h.1 ∙ tagged) (ap (λ a. a.parts) h.1 ∙ parts) (ap (λ a. a.has_ended) h.1) answer h.0
                filled few (suc n) e =
                    let good : IsTransactionKeys added.keys = good_now few (omega (arith, e)) in
                    let h = some few good in
                    begins few good after next (h.1 ∙ tagged) (h.2 ∙ parts) (h.4 ∙ same) h.3 h.5 h.6 answer h.0

                go : (max_found < added.total) ⊎ (added.total ≤ max_found) → TakesFind setup tag taken message answer after next
                go (inl above) =
                    let h = many above in
                    too_many above after next (ap (λ a. a.tag) h.1 ∙ tagged) (ap (λ a. a.parts) h.1 ∙ parts) (ap (λ a. a.has_ended) h.1) answer h.0
                go (inr few) = filled few (total_found more) refl

      -- what the test of homes says of stray keys
      pub stray_test : strays ≡ not (list_all (λ key. home_of key f.parts == p) found.keys)
      unfolding home
      stray_test = ap (λ n. list_any (λ key. not (home_of key n == p)) found.keys) (sym s.parts) ∙ go found.keys
        where
          not_and : (x y : Bool) → (not x || not y) ≡ not (x && y)
          not_and true y = refl
          not_and false y = refl

          go : (ks : List Key) → list_any (λ key. not (home_of key f.parts == p)) ks ≡ not (list_all (λ key. home_of key f.parts == p) ks)
          go [] = refl
          go (k ∷ ks) = ap (λ b. not (home_of k f.parts == p) || b) (go ks) ∙ not_and (home_of k f.parts == p) (list_all (λ key. home_of key f.parts == p) ks)
