-- When a key is late.
use Rattle.std.proofs.Common.{◌≡◌, ℕ, ◌<◌, max, List, [], ◌∷◌, Bool, true, false, ◌&&◌, ◌||◌, ◌≤◌, Option, Some, None, cond, length, map, get_or, zero, suc, arith, ap, sym, ◌∙◌, refl}
use Rattle.std.specs.Prelude.{nat_lt}
use Rattle.std.specs.List.{list_any}
use Rattle.std.proofs.lemmas.Bool.{ltb-true, ltb-false, lt-ltb, le-ltb}
use Rattle.stamps.specs.Stamp.{greatest_by}
use Rattle.stamps.specs.Record.{Record}
use Rattle.stamps.specs.WriteSet.{contains_key}
use Rattle.plain_store.specs.Rounds.{stamp_for, stamp_seen}
use Rattle.plain_store.specs.Words.{Key}
use Rattle.plain_store.proofs.ListTests.{and-false, or_parts, any-map, any_alike}
use Rattle.get_all.specs.ReadProgress.{with_second, needed_by, is_late_by}
use Rattle.get_all.specs.declared.read_progress.KeyProgress.{KeyProgress}

lt_max : (s a b : ℕ) → nat_lt s (max a b) ≡ (nat_lt s a || nat_lt s b)
lt_max s a b = go (nat_lt s a) (nat_lt s b) refl refl
  where
    go : (x y : Bool) → nat_lt s a ≡ x → nat_lt s b ≡ y → nat_lt s (max a b) ≡ (x || y)
    go true y e f = let less = ltb-true s a e in lt-ltb s (max a b) (omega (arith, less))
    go false true e f = let less = ltb-true s b f in lt-ltb s (max a b) (omega (arith, less))
    go false false e f =
        let first = ltb-false s a e in
        let second = ltb-false s b f in
        le-ltb s (max a b) (omega (arith, first, second))

-- a number is below the greatest exactly where it is below one of them
pub below_greatest : {X : Type 0} (s : ℕ) (f : X → ℕ) (xs : List X) → nat_lt s (greatest_by f xs) ≡ list_any (λ x. nat_lt s (f x)) xs
below_greatest s f [] = le-ltb s 0 (omega arith)
below_greatest s f (x ∷ xs) = lt_max s (f x) (greatest_by f xs) ∙ ap (λ b. nat_lt s (f x) || b) (below_greatest s f xs)

-- where none passes a test, the one at a place does not
pub none_at : {X : Type 0} (p : X → Bool) (xs : List X) (i : ℕ) (d : X) → i < length xs → list_any p xs ≡ false → p (get_or xs i d) ≡ false
none_at p [] i d within none = absurd (omega (arith, within))
none_at p (x ∷ xs) zero d within none = (or_parts (p x) (list_any p xs) none).0
none_at p (x ∷ xs) (suc i) d within none = none_at p xs i d (omega (arith, within)) (or_parts (p x) (list_any p xs) none).1

-- round two makes no key late, and none that was late is not
needed_by-second : (key : Key) (version : Record) (slots : List KeyProgress) (k : Key) → needed_by (map (with_second key version) slots) k ≡ needed_by slots k
needed_by-second key version [] k = refl
needed_by-second key version (slot ∷ slots) k = ap (max (stamp_for k slot.first)) (needed_by-second key version slots k)

pub late-second : (key : Key) (version : Record) (slots : List KeyProgress)
    → list_any (is_late_by (map (with_second key version) slots)) (map (with_second key version) slots) ≡ list_any (is_late_by slots) slots
late-second key version slots =
    any-map (is_late_by (map (with_second key version) slots)) (with_second key version) slots
    ∙ any_alike _ (is_late_by slots) (λ slot. ap (nat_lt (stamp_seen slot.first)) (needed_by-second key version slots slot.key)) slots

-- no stamp that is needed of a key is above the greatest that was shown
for_seen : (key : Key) (first : Option (Option Record)) → stamp_for key first ≤ stamp_seen first
for_seen key None = omega arith
for_seen key (Some None) = omega arith
for_seen key (Some (Some version)) = at_most (contains_key version.writes key) version.stamp
  where
    at_most : (b : Bool) (n : ℕ) → cond b n 0 ≤ n
    at_most true n = omega arith
    at_most false n = omega arith

needed_seen : (key : Key) (slots : List KeyProgress) → needed_by slots key ≤ greatest_by (λ (slot : KeyProgress). stamp_seen slot.first) slots
needed_seen key [] = omega arith
needed_seen key (slot ∷ slots) =
    let here = for_seen key slot.first in
    let rest = needed_seen key slots in
    omega (arith, here, rest)

both_below : (s n m : ℕ) → n ≤ m → (nat_lt s m && nat_lt s n) ≡ nat_lt s n
both_below s n m few = go (nat_lt s n) refl
  where
    go : (b : Bool) → nat_lt s n ≡ b → (nat_lt s m && nat_lt s n) ≡ nat_lt s n
    go true e =
        let less = ltb-true s n e in
        ap (λ b. b && nat_lt s n) (lt-ltb s m (omega (arith, less, few)))
    go false e = ap (λ b. nat_lt s m && b) e ∙ and-false (nat_lt s m) ∙ sym e

-- only a key whose stamp is below the greatest that was shown is late
pub late_below_newest : (slots : List KeyProgress)
    → list_any (λ (slot : KeyProgress). nat_lt (stamp_seen slot.first) (greatest_by (λ (one : KeyProgress). stamp_seen one.first) slots) && is_late_by slots slot) slots
    ≡ list_any (is_late_by slots) slots
late_below_newest slots = any_alike _ (is_late_by slots) (λ slot. both_below (stamp_seen slot.first) (needed_by slots slot.key) _ (needed_seen slot.key slots)) slots
