-- The partitions that a search asks, and keys of which none stands twice.
use Rattle.std.proofs.Common.{◌≡◌, ℕ, zero, suc, ◌<◌, ◌≤◌, List, [], ◌∷◌, ◌++◌, Bool, true, false, ◌&&◌, ◌||◌, ◌==◌, not, map, ap, sym, ◌∙◌, refl, cond, arith, length}
use Rattle.std.specs.Prelude.{nat_lt, bytes_eq}
use Rattle.std.specs.List.{list_any, list_all}
use Rattle.std.specs.Ordering.{is_lt}
use Rattle.std.proofs.lemmas.Bool.{and_parts, eqb-true, eqb-false, lt-ltb, le-ltb, ltb-true, ltb-false, or_left, or_right}
use Rattle.std.proofs.lemmas.List.Folds.{list_any-append}
use Rattle.stamps.specs.Key.{sorted_keys, insert_key, key_cmp}
use Rattle.stamps.specs.WriteSet.{contains_key}
use Rattle.plain_store.specs.declared.message.Message.{Message}
use Rattle.plain_store.specs.Words.{Key, Setup}
use Rattle.plain_store.specs.Finding.{below, all_found}
use Rattle.plain_store.specs.Run.{one_twice}
use Rattle.plain_store.proofs.ListTests.{or_parts, or-false, any_push, any-map, all-map}
use Rattle.plain_store.proofs.Stamps.{is_key}
use Rattle.get_all.specs.AskedPartition.{awaits}
use Rattle.get_all.specs.TagSearch.{has_told, asked_after}
use Rattle.get_all.specs.declared.told.AskedPartition.{AskedPartition}

any_below : (P : ℕ → Bool) (p n : ℕ) → list_any (λ q. (q == p) && P q) (below n) ≡ (nat_lt p n && P p)
any_below P p zero = ap (λ b. b && P p) (sym (le-ltb p 0 (omega arith)))
any_below P p (suc n) =
    any_push (λ q. (q == p) && P q) (below n) n ∙ ap (λ b. b || ((n == p) && P n)) (any_below P p n) ∙ go (n == p) refl
  where
    go : (b : Bool) → (n == p) ≡ b → ((nat_lt p n && P p) || (b && P n)) ≡ (nat_lt p (suc n) && P p)
    go true e =
        let same : n ≡ p = eqb-true n p e in
        ap (λ b. (b && P p) || P n) (le-ltb p n (omega arith)) ∙ ap P same ∙ ap (λ b. b && P p) (sym (lt-ltb p (suc n) (omega arith)))
    go false e = or-false (nat_lt p n && P p) ∙ ap (λ b. b && P p) (later (nat_lt p n) refl)
      where
        differs : n ≡ p → ⊥
        differs = eqb-false n p e

        later : (b : Bool) → nat_lt p n ≡ b → nat_lt p n ≡ nat_lt p (suc n)
        later true lower = let low : p < n = ltb-true p n lower in lower ∙ sym (lt-ltb p (suc n) (omega arith))
        later false higher = let high : n ≤ p = ltb-false p n higher in higher ∙ sym (le-ltb p (suc n) (omega (arith, differs)))

none_left : {X : Type 0} (q h : X → Bool) (xs : List X) → list_all h xs ≡ true → list_any (λ x. q x && not (h x)) xs ≡ false
none_left q h [] all = refl
none_left {X} q h (x ∷ xs) all =
    let parts = and_parts (h x) (list_all h xs) all in
    ap (λ b. (q x && not b) || list_any (λ y. q y && not (h y)) xs) parts.0 ∙ ap (λ b. b || list_any (λ y. q y && not (h y)) xs) (and_no (q x)) ∙ none_left q h xs parts.1
  where
    and_no : (b : Bool) → (b && false) ≡ false
    and_no true = refl
    and_no false = refl

module _ (setup : Setup) (taken : List Message) where
  pub awaiting : (p : ℕ) → list_any (awaits p) (map (asked_after taken) (below setup.partitions)) ≡ (nat_lt p setup.partitions && not (has_told taken p))
  awaiting p = any-map (awaits p) (asked_after taken) (below setup.partitions) ∙ any_below (λ q. not (has_told taken q)) p setup.partitions

  pub all_told : list_all (λ (asked : AskedPartition). asked.has_told) (map (asked_after taken) (below setup.partitions)) ≡ all_found setup taken
  all_told = all-map (λ (asked : AskedPartition). asked.has_told) (asked_after taken) (below setup.partitions)

  pub none_awaited : (p : ℕ) → all_found setup taken ≡ true → list_any (awaits p) (map (asked_after taken) (below setup.partitions)) ≡ false
  none_awaited p all = none_left (λ (asked : AskedPartition). asked.partition == p) (λ (asked : AskedPartition). asked.has_told) (map (asked_after taken) (below setup.partitions)) (all_told ∙ all)

-- ---- keys of which none stands twice

pub contains-append : (xs ys : List Key) (key : Key) → contains_key (xs ++ ys) key ≡ (contains_key xs key || contains_key ys key)
contains-append xs ys key = list_any-append (λ k. bytes_eq k key) xs ys

pub once_append : (xs ys : List Key) → one_twice xs ≡ false → one_twice ys ≡ false → ((key : Key) → contains_key xs key ≡ true → contains_key ys key ≡ false) → one_twice (xs ++ ys) ≡ false
once_append [] ys left right apart = right
once_append (x ∷ xs) ys left right apart =
    let parts = or_parts (contains_key xs x) (one_twice xs) left in
    let fresh : contains_key (xs ++ ys) x ≡ false =
    contains-append xs ys x ∙ ap (λ b. b || contains_key ys x) parts.0 ∙ apart x (or_left (bytes_eq x x) (contains_key xs x) (is_key x x refl)) in
    ap (λ b. b || one_twice (xs ++ ys)) fresh
    ∙ once_append xs ys parts.1 right (λ key member. apart key (or_right (bytes_eq x key) (contains_key xs key) member))

pub sorted_some : (keys : List Key) → 0 < length keys → 0 < length (sorted_keys keys)
unfolding sorted_keys
sorted_some [] some = some
sorted_some (k ∷ ks) some = go (sorted_keys ks)
  where
    pick : (b : Bool) (a c : Key) (rest others : List Key) → 0 < length (cond b (a ∷ rest) (c ∷ others))
    pick true a c rest others = omega arith
    pick false a c rest others = omega arith

    go : (sorted : List Key) → 0 < length (insert_key k sorted)
    go [] = omega arith
    go (s ∷ ss) = pick (is_lt (key_cmp k s)) k s (s ∷ ss) (insert_key k ss)

pub sorted_none : (keys : List Key) → length keys ≡ 0 → sorted_keys keys ≡ []
unfolding sorted_keys
sorted_none [] none = refl
sorted_none (k ∷ ks) none = absurd (omega (arith, none))
