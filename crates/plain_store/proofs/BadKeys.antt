-- Which keys a transaction may name: as the test of a step says it, and as the type of write sets does.
use Rattle.std.specs.Prelude.{◌≡◌, ◌≢◌, ℕ, suc, ◌==◌, ◌||◌, nat_lt, Bool, true, false, List, [], ◌∷◌, length, All, AllPairs, refl}
use Rattle.std.proofs.Common.{arith, sym}
use Rattle.std.specs.Str.{bytes_eq}
use Rattle.std.proofs.lemmas.Bool.{ltb-false, le-ltb, eqb-false, ne_eqb, both_ways}
use Rattle.std.proofs.lemmas.Slice.Eq.{bytes_eq-Decides}
use Rattle.std.proofs.lemmas.List.Elements.{All-nil, All-cons}
use Rattle.std.proofs.lemmas.List.Kept.{AllPairs-cons}
use Rattle.stamps.specs.Key.{IsTransactionKeys}
use Rattle.stamps.specs.Limits.{max_keys}
use Rattle.stamps.specs.WriteSet.{contains_key}
use Rattle.plain_store.specs.Run.{one_twice, are_bad}

or_false : (x y : Bool) → x ≡ false → y ≡ false → (x || y) ≡ false
or_false x y e f = cc

or_parts : (x y : Bool) → (x || y) ≡ false → (x ≡ false) × (y ≡ false)
or_parts true y h = cc
or_parts false y h = (refl, h)

differs : (j k : List ℕ) → j ≢ k → bytes_eq k j ≡ false
differs j k apart = go (bytes_eq k j) refl
  where
    go : (b : Bool) → bytes_eq k j ≡ b → bytes_eq k j ≡ false
    go true e = absurd (apart (sym ((bytes_eq-Decides k j).0 e)))
    go false e = e

absent : (key : List ℕ) (keys : List (List ℕ)) → All (λ k. key ≢ k) keys → contains_key keys key ≡ false
absent key [] apart = refl
absent key (k ∷ ks) apart =
    or_false (bytes_eq k key) (contains_key ks key) (differs key k (apart 0 k (omega arith)))
    (absent key ks (λ i d within. apart (suc i) d (omega arith)))

apart_from : (key : List ℕ) (keys : List (List ℕ)) → contains_key keys key ≡ false → All (λ k. key ≢ k) keys
apart_from key [] none = All-nil _
apart_from key (k ∷ ks) none =
    let parts = or_parts (bytes_eq k key) (contains_key ks key) none in
    All-cons (λ j. key ≢ j) k ks (λ same. both_ways (bytes_eq k key) parts.0 ((bytes_eq-Decides k key).1 (sym same))) (apart_from key ks parts.1)

-- a transaction's keys stand once each
pub once : (keys : List (List ℕ)) → AllPairs (λ j k. j ≢ k) keys → one_twice keys ≡ false
once [] distinct = refl
once (k ∷ ks) distinct =
    or_false (contains_key ks k) (one_twice ks)
    (absent k ks (λ i d within. distinct 0 (suc i) d (omega arith) (omega arith)))
    (once ks (λ i j d before within. distinct (suc i) (suc j) d (omega arith) (omega arith)))

distinct_from : (keys : List (List ℕ)) → one_twice keys ≡ false → AllPairs (λ j k. j ≢ k) keys
distinct_from [] none = λ i j d before within. absurd (omega arith)
distinct_from (k ∷ ks) none =
    let parts = or_parts (contains_key ks k) (one_twice ks) none in
    AllPairs-cons (λ i j. i ≢ j) k ks (apart_from k ks parts.0) (distinct_from ks parts.1)

-- a transaction's keys are not refused
pub good_keys : (keys : List (List ℕ)) → IsTransactionKeys keys → are_bad keys ≡ false
good_keys keys good =
    or_false (length keys == 0) _ (ne_eqb (length keys) 0 (λ none. omega (arith, good.not_empty)))
    (or_false (nat_lt max_keys (length keys)) (one_twice keys) (le-ltb max_keys (length keys) good.at_most) (once keys good.distinct))

-- what is not refused are a transaction's keys
pub transaction_keys : (keys : List (List ℕ)) → are_bad keys ≡ false → IsTransactionKeys keys
transaction_keys keys accepted =
    let first = or_parts (length keys == 0) (nat_lt max_keys (length keys) || one_twice keys) accepted in
    let second = or_parts (nat_lt max_keys (length keys)) (one_twice keys) first.1 in
    let some : length keys ≡ 0 → ⊥ = eqb-false (length keys) 0 first.0 in
    record {
      not_empty = omega arith;
      at_most = ltb-false max_keys (length keys) second.0;
      distinct = distinct_from keys second.1;
    }

-- so whatever is no transaction's keys is refused
pub bad_keys : (keys : List (List ℕ)) → (IsTransactionKeys keys → ⊥) → are_bad keys ≡ true
bad_keys keys none = go (are_bad keys) refl
  where
    go : (b : Bool) → are_bad keys ≡ b → are_bad keys ≡ true
    go true e = e
    go false e = absurd (none (transaction_keys keys e))
