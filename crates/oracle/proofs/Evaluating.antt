-- What an evaluation of the definitions rests on.
use Rattle.std.proofs.Common.{◌≡◌, ◌≢◌, ℕ, ◌-◌, ◌<◌, ◌≤◌, ◌==◌, ◌||◌, nat_le, nat_lt, Bool, true, false, cond, List, [], ◌∷◌, ◌++◌, length, get_or, take, drop, take_all, All, AllPairs, Contains, Some, None, bytes_eq, refl, sym, ap, ◌∙◌, arith}
use Rattle.std.proofs.Math.ListN.{get_or-map}
use Rattle.std.proofs.lemmas.Bool.{both_ways, le-leb, lt-leb, ltb-false}
use Rattle.std.proofs.lemmas.Bool.Decides.{nat_tests}
use Rattle.std.proofs.lemmas.List.{length-map}
use Rattle.std.proofs.lemmas.List.Elements.{All-cons, All-nil}
use Rattle.std.proofs.lemmas.List.Kept.{AllPairs-cons}
use Rattle.std.proofs.lemmas.List.Sorted.{Contains-permutation}
use Rattle.std.proofs.lemmas.Slice.Eq.{bytes_eq-Decides}
use Rattle.stamps.specs.Key.{IsTransactionKeys, sorted_keys}
use Rattle.stamps.specs.Limits.{max_keys}
use Rattle.stamps.specs.WriteSet.{contains_key}
use Rattle.stamps.proofs.SortLemmas.{sorted_keys-IsPermutation}
use Rattle.plain_store.specs.Words.{Key, Tag, Setup}
use Rattle.stamps.specs.declared.record.Item.{Item}
use Rattle.plain_store.specs.declared.refusal.Refusal.TheVariants.{BadItems, StampsUsed}
use Rattle.plain_store.specs.declared.step.Act.{Act}
use Rattle.plain_store.specs.declared.step.Act.TheVariants.{Hello, Put, Get as GetAll, Find, Deliver, Lose, Retry, Stop, Collect as CollectAt, Keep as SetKeep}
use Rattle.plain_store.specs.declared.refusal.Refusal.{Refusal}
use Rattle.plain_store.specs.declared.answer.Answer.TheVariants.{Refused}
use Rattle.plain_store.specs.History.{Moment, moment, History, begun_by, counter}
use Rattle.oracle.specs.Words.{first_refusal}
use Rattle.plain_store.specs.Run.{Test, ◌⇒◌, after_tests, are_bad, begin_tests, counter_limit, effect, moment_of, one_twice}
use Rattle.plain_store.specs.Whole.{BeginsWhole}
use Rattle.plain_store.specs.Writing.{keys_written}

-- a list by its first element and the others, as a pattern takes it apart
pub first_and_rest : {X : Type 0} (xs : List X) (x : X) → 0 < length xs → x ≡ get_or xs 0 x → xs ≡ x ∷ take (length xs - 1) (drop 1 xs)
first_and_rest [] x within is = absurd (omega (arith, within))
first_and_rest (y ∷ ys) x within is = rw (is, take_all (length (y ∷ ys) - 1) ys (omega arith)) refl

-- an item's key is in the write set
pub written-in : (items : List Item) (i : ℕ) (item : Item) → i < length items → item ≡ get_or items i item → Contains (sorted_keys (keys_written items)) item.key
written-in items i item within is =
    let keys = keys_written items in
    let long : length keys ≡ length items = simp length-map in
    let here : Contains keys item.key = (i, omega (arith, long), get_or-map (λ (x : Item). x.key) items i item ∙ sym (ap (λ (x : Item). x.key) is)) in
    Contains-permutation keys (sorted_keys keys) item.key (sorted_keys-IsPermutation keys) here

-- a step that is refused begins nothing
pub refused-BeginsWhole : (act : Act) (why : Refusal) → BeginsWhole (begun_by act (Refused why))
refused-BeginsWhole (Hello client base) why = tt
refused-BeginsWhole (Put client items) why = tt
refused-BeginsWhole (GetAll client keys) why = tt
refused-BeginsWhole (Find client tag) why = tt
refused-BeginsWhole (Deliver row) why = tt
refused-BeginsWhole (Lose row) why = tt
refused-BeginsWhole (Retry client) why = tt
refused-BeginsWhole (Stop client) why = tt
refused-BeginsWhole (CollectAt partition) why = tt
refused-BeginsWhole (SetKeep keep) why = tt

-- ---- the tests of a step

-- the first test that fails decides, whatever follows
pub refuses : (act : Act) (ts rest : List Test) (effect : Moment) (why : Refusal) → first_refusal ts ≡ Some why → after_tests act (ts ++ rest) effect ≡ moment act (Refused why) []
refuses act [] rest effect why e = cc
refuses act (t ∷ ts) rest effect why e = by t.fails e (refuses act ts rest effect why)
  where
    by : (b : Bool) → cond b (Some t.refusal) (first_refusal ts) ≡ Some why → (first_refusal ts ≡ Some why → after_tests act (ts ++ rest) effect ≡ moment act (Refused why) [])
        → cond b (moment act (Refused t.refusal) []) (after_tests act (ts ++ rest) effect) ≡ moment act (Refused why) []
    by true e more = let same : t.refusal ≡ why = cc in ap (λ r. moment act (Refused r) []) same
    by false e more = more e

-- where none fails, what follows decides
pub passes : (act : Act) (ts rest : List Test) (effect : Moment) → first_refusal ts ≡ None → after_tests act (ts ++ rest) effect ≡ after_tests act rest effect
passes act [] rest effect e = refl
passes act (t ∷ ts) rest effect e = by t.fails e (passes act ts rest effect)
  where
    by : (b : Bool) → cond b (Some t.refusal) (first_refusal ts) ≡ None → (first_refusal ts ≡ None → after_tests act (ts ++ rest) effect ≡ after_tests act rest effect)
        → cond b (moment act (Refused t.refusal) []) (after_tests act (ts ++ rest) effect) ≡ after_tests act rest effect
    by true e more = cc
    by false e more = more e

key_apart : (key : Key) (keys : List Key) → contains_key keys key ≡ false → All (λ k. key ≢ k) keys
key_apart key [] none = All-nil (λ k. key ≢ k)
key_apart key (k ∷ ks) none = by (bytes_eq k key) refl none (key_apart key ks)
  where
    by : (b : Bool) → bytes_eq k key ≡ b → (b || contains_key ks key) ≡ false → (contains_key ks key ≡ false → All (λ k. key ≢ k) ks) → All (λ k. key ≢ k) (k ∷ ks)
    by true e rest more = cc
    by false e rest more = All-cons (λ k. key ≢ k) k ks (λ same. both_ways _ e ((bytes_eq-Decides k key).1 (sym same))) (more rest)

keys_apart : (keys : List Key) → one_twice keys ≡ false → AllPairs (λ j k. j ≢ k) keys
keys_apart [] none = λ i j d below within. absurd (omega (arith, within))
keys_apart (key ∷ keys) none = by (contains_key keys key) refl none (keys_apart keys)
  where
    by : (b : Bool) → contains_key keys key ≡ b → (b || one_twice keys) ≡ false → (one_twice keys ≡ false → AllPairs (λ j k. j ≢ k) keys) → AllPairs (λ j k. j ≢ k) (key ∷ keys)
    by true e rest more = cc
    by false e rest more = AllPairs-cons (λ j k. j ≢ k) key keys (key_apart key keys e) (more rest)

-- keys that are not bad are those of a transaction
pub good_keys : (keys : List Key) → are_bad keys ≡ false → IsTransactionKeys keys
good_keys keys good =
    let some = or_left (length keys == 0) (nat_lt max_keys (length keys) || one_twice keys) good in
    let few = or_left (nat_lt max_keys (length keys)) (one_twice keys) some.1 in
    record {
      not_empty = by (length keys) some.0;
      at_most = ltb-false max_keys (length keys) few.0;
      distinct = keys_apart keys few.1;
    }
  where
    or_left : (x y : Bool) → (x || y) ≡ false → (x ≡ false) × (y ≡ false)
    or_left true y e = cc
    or_left false y e = (refl, e)

    by : (n : ℕ) → (n == 0) ≡ false → 0 < n
    by n e = grind (arith, nat_tests)

-- ---- what begins a transaction

pub find_begins : (setup : Setup) (history : History) (client : ℕ) (tag : Tag) → first_refusal (begin_tests history client) ≡ None → moment_of setup history (Find client tag) ≡ effect setup history (Find client tag)
unfolding moment_of
find_begins setup history client tag free = passes (Find client tag) (begin_tests history client) [] (effect setup history (Find client tag)) free

module _ (setup : Setup) (history : History) (client : ℕ) (keys : List Key) (free : first_refusal (begin_tests history client) ≡ None) where
  get_tested : moment_of setup history (GetAll client keys) ≡ after_tests (GetAll client keys) ((are_bad keys ⇒ BadItems) ∷ []) (effect setup history (GetAll client keys))
  unfolding moment_of
  get_tested = passes (GetAll client keys) (begin_tests history client) ((are_bad keys ⇒ BadItems) ∷ []) (effect setup history (GetAll client keys)) free

  pub get_bad : are_bad keys ≡ true → moment_of setup history (GetAll client keys) ≡ moment (GetAll client keys) (Refused BadItems) []
  get_bad bad = get_tested ∙ rw bad refl

  pub get_begins : are_bad keys ≡ false → moment_of setup history (GetAll client keys) ≡ effect setup history (GetAll client keys)
  get_begins good = get_tested ∙ rw good refl

module _ (setup : Setup) (history : History) (client : ℕ) (items : List Item) (free : first_refusal (begin_tests history client) ≡ None) where
  put_tested : moment_of setup history (Put client items)
      ≡ after_tests (Put client items) ((are_bad (keys_written items) ⇒ BadItems) ∷ (nat_le counter_limit (counter history client) ⇒ StampsUsed) ∷ []) (effect setup history (Put client items))
  unfolding moment_of
  put_tested =
      passes (Put client items) (begin_tests history client) ((are_bad (keys_written items) ⇒ BadItems) ∷ (nat_le counter_limit (counter history client) ⇒ StampsUsed) ∷ [])
      (effect setup history (Put client items)) free

  pub put_bad : are_bad (keys_written items) ≡ true → moment_of setup history (Put client items) ≡ moment (Put client items) (Refused BadItems) []
  put_bad bad = put_tested ∙ rw bad refl

  pub put_used : are_bad (keys_written items) ≡ false → counter_limit ≤ counter history client → moment_of setup history (Put client items) ≡ moment (Put client items) (Refused StampsUsed) []
  put_used good used = let u = le-leb counter_limit (counter history client) used in put_tested ∙ rw (good, u) refl

  pub put_begins : are_bad (keys_written items) ≡ false → counter history client < counter_limit → moment_of setup history (Put client items) ≡ effect setup history (Put client items)
  put_begins good free_counter = let u = lt-leb counter_limit (counter history client) free_counter in put_tested ∙ rw (good, u) refl
