-- For `Chains`: insert_from, cut_below and sweep_at. The list of the kept versions after a change.
use Rattle.std.proofs.Common.{◌≡◌, inl, inr, ℕ, zero, suc, ◌+◌, ◌<◌, ◌≤◌, ◌==◌, ◌&&◌, ◌||◌, ◌⊎◌, not, Bool, true, false, nat_lt, cond, if◌then◌else◌, List, [], ◌∷◌, filter, map, length, insert, count_by, sum_by, Option, Some, None, refl, sym, ap, ◌∙◌, arith}
use Rattle.std.specs.List.{list_any}
use Rattle.std.proofs.lemmas.Bool.{eq-eqb, cases_Bool, eqb-true, lt-ltb, ltb-true, ltb-false}
use Rattle.std.proofs.lemmas.List.Sums.{sum_by-cons}
use Rattle.version_arena.specs.Arena.{entry}
use Rattle.version_chain.specs.Node.{Node}
use Rattle.version_chain.specs.declared.stamp_list.Kept.{Kept}
use Rattle.version_chain.specs.Heads.{Heads}
use Rattle.version_chain.specs.Chain.{Cells, HoldsChains, is_of_tenant}
use Rattle.version_chain.specs.Listed.{held_at, is_at_stamp, is_held_at, is_named, with_kept, Lists, IsListedInto, IsPutAt, IsSweptAt, NoneCome, NoneMove}
use Rattle.version_chain.proofs.Others.{ones}
use Rattle.version_chain.proofs.Picking.{Lacks, Apart, picked_at, at_most}
use Rattle.version_chain.proofs.Replacing.{same_or_not}

abbrev pub one_if : Bool → ℕ
one_if b = cond b 1 0

abbrev one_unless : Bool → ℕ
one_unless b = cond (not b) 1 0

module _ {X : Type 0} where
  pub cons : (p : X → Bool) (x : X) (xs : List X) → count_by p (x ∷ xs) ≡ cond (p x) 1 0 + count_by p xs
  cons p x xs = sum_by-cons (λ y. cond (p y) 1 0) x xs

  pub count_insert : (p : X → Bool) (xs : List X) (place : ℕ) (x : X) → place ≤ length xs → count_by p (insert xs place x) ≡ cond (p x) 1 0 + count_by p xs
  count_insert p xs zero x within = cons p x xs
  count_insert p [] (suc place) x within = absurd (omega arith)
  count_insert p (y ∷ xs) (suc place) x within = omega (arith, cons p y (insert xs place x), cons p y xs, count_insert p xs place x (omega arith))

  pub count_filter : (p q : X → Bool) (xs : List X) → count_by p (filter q xs) ≡ count_by (λ x. q x && p x) xs
  count_filter p q [] = refl
  count_filter p q (x ∷ xs) = grind (arith, cons, cons (λ y. q y && p y) x xs, count_filter p q xs)

  pub count_le : (p q : X → Bool) (xs : List X) → ((x : X) → p x ≡ true → q x ≡ true) → count_by p xs ≤ count_by q xs
  count_le p q [] h = omega arith
  count_le p q (x ∷ xs) h =
      elim (cases_Bool (p x)) [
        | inl e ↦ let f = h x e in grind (arith, cons, count_le p q xs h)
        | inr e ↦ grind (arith, cons, count_le p q xs h)
      ]

  -- what passes one test passes one of two others
  count_either : (p q r : X → Bool) (xs : List X) → ((x : X) → p x ≡ true → (q x ≡ true) ⊎ (r x ≡ true)) → count_by p xs ≤ count_by q xs + count_by r xs
  count_either p q r [] h = omega arith
  count_either p q r (x ∷ xs) h =
      let rest = count_either p q r xs h in
      elim (cases_Bool (p x)) [
        | inl e ↦ elim (h x e) [ inl f ↦ grind (arith, cons, rest) | inr f ↦ grind (arith, cons, rest) ]
        | inr e ↦ grind (arith, cons, rest)
      ]

  -- a test that some pass
  pub any_count : (p : X → Bool) (xs : List X) → nat_lt 0 (count_by p xs) ≡ list_any p xs
  any_count p [] = refl
  any_count p (x ∷ xs) = elim (cases_Bool (p x)) [
    | inl e ↦ lt-ltb 0 (count_by p (x ∷ xs)) (let one = ap {B = ℕ} (λ b. cond b 1 0) e in omega (arith, cons p x xs, one)) ∙ sym (ap (λ b. b || list_any p xs) e)
    | inr e ↦
        let same : count_by p (x ∷ xs) ≡ count_by p xs = (let none = ap {B = ℕ} (λ b. cond b 1 0) e in omega (arith, cons p x xs, none)) in
        ap (λ n. nat_lt 0 n) same ∙ any_count p xs ∙ sym (ap (λ b. b || list_any p xs) e)
  ]

not_not : (b : Bool) → not b ≡ false → b ≡ true
not_not true e = refl
not_not false e = absurd (let f : true ≡ false = e in cc)

pub true_not : (b : Bool) → b ≡ true → not b ≡ true → ⊥
true_not true e f = absurd (let g : false ≡ true = f in cc)
true_not false e f = absurd (let g : false ≡ true = e in cc)

pub both : (a b : Bool) → a ≡ true → b ≡ true → (a && b) ≡ true
both true b e f = f
both false b e f = absurd (let g : false ≡ true = e in cc)

pub first_of : (a b : Bool) → (a && b) ≡ true → a ≡ true
first_of true b e = refl
first_of false b e = e

pub second_of : (a b : Bool) → (a && b) ≡ true → b ≡ true
second_of true b e = e
second_of false b e = absurd (let g : false ≡ true = e in cc)

-- the same chains and cells beside another list
pub stands_with : (cells : Cells) (chains : Heads) (kept : List Kept) → HoldsChains cells chains → HoldsChains cells (with_kept chains kept)
stands_with cells chains kept stands = record { chained = stands.chained; falling = stands.falling; counted = stands.counted; owned = stands.owned; fits = stands.fits; long = stands.long; latest = stands.latest }

and_swap : (a b : Bool) → (a && b) ≡ (b && a)
and_swap true true = refl
and_swap true false = refl
and_swap false true = refl
and_swap false false = refl

-- whether a version of a run of its stamp is in the slot
pub named_in : (kept run : List Kept) (stamp slot : ℕ) → run ≡ filter (λ (k : Kept). k.stamp == stamp) kept → list_any (λ (k : Kept). k.slot == slot) run ≡ nat_lt 0 (count_by (is_held_at slot stamp) kept)
named_in kept run stamp slot is =
    ap (list_any (λ (k : Kept). k.slot == slot)) is
    ∙ sym (any_count (λ (k : Kept). k.slot == slot) (filter (λ (k : Kept). k.stamp == stamp) kept))
    ∙ ap (λ n. nat_lt 0 n) (count_filter (λ (k : Kept). k.slot == slot) (λ (k : Kept). k.stamp == stamp) kept ∙ (λ i. count_by (λ (k : Kept). and_swap (k.stamp == stamp) (k.slot == slot) i) kept))

-- after versions of the tenant left their cells
pub lists_left : (old new : Cells) (before after : Heads) → after.tenant ≡ before.tenant → after.kept ≡ before.kept → NoneCome old new before.tenant → Lists old before → Lists new after
lists_left old new before after whose kept none lists = record {
  once = λ slot stamp. (let same = ap (count_by (is_held_at slot stamp)) kept in omega (arith, same, lists.once slot stamp));
  all = λ slot stamp there.
      let more = lists.all slot stamp (none slot stamp (ap (λ t. is_at_stamp t stamp (entry new slot)) (sym whose) ∙ there)) in
      let same = ap (count_by (is_held_at slot stamp)) kept in
      omega (arith, same, more);
}

-- it names no version that left its cell
abbrev pub IsSwept : Cells → Heads → Type 0
IsSwept cells chains = count_by (λ (k : Kept). not (is_named chains.tenant cells k)) chains.kept ≡ 0

-- after a sweep
module _ (cells : Cells) (chains : Heads) (kept : List Kept) (is : kept ≡ filter (is_named chains.tenant cells) chains.kept) where
  pub lists_swept : Lists cells chains → Lists cells (with_kept chains kept)
  lists_swept lists = record {
    once = λ slot stamp.
        let pair = is_held_at slot stamp in
        let one = ap (count_by pair) is ∙ count_filter pair (is_named chains.tenant cells) chains.kept in
        let less = count_le (λ (k : Kept). is_named chains.tenant cells k && pair k) pair chains.kept (λ k e. second_of (is_named chains.tenant cells k) (pair k) e) in
        omega (arith, one, less, lists.once slot stamp);
    all = λ slot stamp there.
        let pair = is_held_at slot stamp in
        let one = ap (count_by pair) is ∙ count_filter pair (is_named chains.tenant cells) chains.kept in
        let named = λ (k : Kept) (e : pair k ≡ true).
        (let at : k.slot ≡ slot = eqb-true k.slot slot (first_of (k.slot == slot) (k.stamp == stamp) e) in
        let when : k.stamp ≡ stamp = eqb-true k.stamp stamp (second_of (k.slot == slot) (k.stamp == stamp) e) in
        both (is_named chains.tenant cells k) (pair k) ((λ i. is_at_stamp chains.tenant (when i) (entry cells (at i))) ∙ there) e) in
        let more = count_le pair (λ (k : Kept). is_named chains.tenant cells k && pair k) chains.kept named in
        omega (arith, one, more, lists.all slot stamp there);
  }

  none_both : (b : Bool) → (b && not b) ≡ true → ⊥
  none_both true e = absurd (let g : false ≡ true = e in cc)
  none_both false e = absurd (let g : false ≡ true = e in cc)

  pub is_swept : IsSwept cells (with_kept chains kept)
  is_swept =
      let p = λ (k : Kept). not (is_named chains.tenant cells k) in
      let none : count_by (λ (k : Kept). is_named chains.tenant cells k && p k) chains.kept ≤ count_by (λ (k : Kept). false) chains.kept =
      count_le (λ (k : Kept). is_named chains.tenant cells k && p k) (λ (k : Kept). false) chains.kept (λ k e. absurd (none_both (is_named chains.tenant cells k) e)) in
      let nil = no_count chains.kept in
      let one = ap (count_by p) is ∙ count_filter p (is_named chains.tenant cells) chains.kept in
      omega (arith, one, none, nil)
    where
      no_count : (xs : List Kept) → count_by (λ (k : Kept). false) xs ≡ 0
      no_count [] = refl
      no_count (x ∷ xs) = omega (arith, cons (λ (k : Kept). false) x xs, no_count xs)

  pub swept_at : (stamp : ℕ) → IsSweptAt stamp chains.tenant cells kept
  swept_at stamp =
      let less = count_le (λ (k : Kept). (k.stamp == stamp) && not (is_named chains.tenant cells k)) (λ (k : Kept). not (is_named chains.tenant cells k)) kept (λ k e. second_of (k.stamp == stamp) (not (is_named chains.tenant cells k)) e) in
      omega (arith, less, is_swept)

-- a swept list has no more than the tenant uses
pub apart_from : (kept : List Kept) → ((slot : ℕ) → count_by (λ (k : Kept). k.slot == slot) kept ≤ 1) → Apart (map (λ (k : Kept). k.slot) kept)
apart_from [] once = tt
apart_from (k ∷ kept) once = (
  lacks kept (let one = ap one_if (eq-eqb k.slot k.slot refl) in let all = cons (λ (x : Kept). x.slot == k.slot) k kept in omega (arith, one, all, once k.slot)),
  apart_from kept (λ slot. (let all = cons (λ (x : Kept). x.slot == slot) k kept in omega (arith, all, once slot))),
)
  where
    lacks : (xs : List Kept) → count_by (λ (x : Kept). x.slot == k.slot) xs ≡ 0 → Lacks k.slot (map (λ (x : Kept). x.slot) xs)
    lacks [] none = tt
    lacks (x ∷ xs) none = (
      (λ same. absurd (let one = ap one_if (eq-eqb x.slot k.slot same) in let all = cons (λ (y : Kept). y.slot == k.slot) x xs in omega (arith, one, all, none))),
      lacks xs (let all = cons (λ (y : Kept). y.slot == k.slot) x xs in omega (arith, all, none)),
    )

pub own_at : (tenant stamp : ℕ) (e : Option (Node × Option ℕ)) → is_at_stamp tenant stamp e ≡ true → is_of_tenant tenant e ≡ true
own_at tenant stamp None is = absurd (let g : false ≡ true = is in cc)
own_at tenant stamp (Some cell) is = first_of (cell.0.tenant == tenant) (cell.0.version.prepared.stamp == stamp) is

-- where each is held, they are as many as the cells of the tenant that they name
pub each_one : (cells : Cells) (tenant : ℕ) (kept : List Kept) → count_by (λ (k : Kept). not (is_named tenant cells k)) kept ≡ 0 → sum_by (picked_at (ones tenant) None cells) (map (λ (k : Kept). k.slot) kept) ≡ length kept
each_one cells tenant [] none = refl
each_one cells tenant (k ∷ kept) none =
    let all = cons (λ (x : Kept). not (is_named tenant cells x)) k kept in
    let rest = each_one cells tenant kept (omega (arith, all, none)) in
    let named : is_named tenant cells k ≡ true = elim (cases_Bool (is_named tenant cells k)) [
      | inl e ↦ e
      | inr e ↦ absurd (let one = ap one_unless e in omega (arith, one, all, none))
    ] in
    let one : ones tenant (entry cells k.slot) ≡ 1 = ap one_if (own_at tenant k.stamp (entry cells k.slot) named) in
    omega (arith, one, rest, sum_by-cons (picked_at (ones tenant) None cells) k.slot (map (λ (x : Kept). x.slot) kept))

module _ (cells : Cells) (chains : Heads) (lists : Lists cells chains) where
  -- a swept list has no slot twice
  once_each : IsSwept cells chains → (slot : ℕ) → count_by (λ (k : Kept). k.slot == slot) chains.kept ≤ 1
  once_each swept slot = by (entry cells slot) refl
    where
      p : Kept → Bool
      p k = k.slot == slot

      gone : Kept → Bool
      gone k = not (is_named chains.tenant cells k)

      there : (e : Option (Node × Option ℕ)) → entry cells slot ≡ e → (k : Kept) → p k ≡ true → is_named chains.tenant cells k ≡ is_at_stamp chains.tenant k.stamp e
      there e at k f = ap (is_at_stamp chains.tenant k.stamp) (ap (entry cells) (eqb-true k.slot slot f) ∙ at)

      by : (e : Option (Node × Option ℕ)) → entry cells slot ≡ e → count_by p chains.kept ≤ 1
      by None at =
          let none = count_le p gone chains.kept (λ k f. ap not (there None at k f)) in
          omega (arith, none, swept)
      by (Some cell) at =
          let stamp = cell.0.version.prepared.stamp in
          let either = count_either p (is_held_at slot stamp) gone chains.kept (λ k f. elim (cases_Bool (is_named chains.tenant cells k)) [
            | inl named ↦
                let same = eqb-true stamp k.stamp (second_of (cell.0.tenant == chains.tenant) (stamp == k.stamp) (sym (there (Some cell) at k f) ∙ named)) in
                inl (both (k.slot == slot) (k.stamp == stamp) f (eq-eqb k.stamp stamp (sym same)))
            | inr left ↦ inr (ap not left)
          ]) in
          omega (arith, either, swept, lists.once slot stamp)

  pub no_more_listed : HoldsChains cells chains → IsSwept cells chains → length chains.kept ≤ chains.used
  no_more_listed stands swept =
      let few = at_most (ones chains.tenant) None refl (map (λ (k : Kept). k.slot) chains.kept) cells (apart_from chains.kept (once_each swept)) in
      omega (arith, few, each_one cells chains.tenant chains.kept swept, stands.owned)

  -- after a version came
  module _ (new : Cells) (after : Heads) (stamp slot : ℕ) (whose : after.tenant ≡ chains.tenant) (put : IsPutAt cells new chains.tenant stamp slot) (listed : IsListedInto chains.kept after.kept (held_at stamp slot)) where
    abbrev has : Bool
    has = nat_lt 0 (count_by (is_held_at slot stamp) chains.kept)

    same : (p : Kept → Bool) → has ≡ true → count_by p after.kept ≡ count_by p chains.kept
    same p e = listed p ∙ ap (λ b. count_by p (if b then chains.kept else held_at stamp slot ∷ chains.kept)) e

    added : (p : Kept → Bool) → has ≡ false → count_by p after.kept ≡ one_if (p (held_at stamp slot)) + count_by p chains.kept
    added p e = listed p ∙ ap (λ b. count_by p (if b then chains.kept else held_at stamp slot ∷ chains.kept)) e ∙ cons p (held_at stamp slot) chains.kept

    no_fewer : (p : Kept → Bool) → count_by p chains.kept ≤ count_by p after.kept
    no_fewer p = elim (cases_Bool has) [ inl e ↦ omega (arith, same p e) | inr e ↦ omega (arith, added p e) ]

    once_put : (place when : ℕ) → count_by (is_held_at place when) after.kept ≤ 1
    once_put place when = elim (cases_Bool has) [
      | inl e ↦ omega (arith, same (is_held_at place when) e, lists.once place when)
      | inr e ↦ elim (cases_Bool (is_held_at place when (held_at stamp slot))) [
        | inl is ↦
            let at = eqb-true slot place (first_of (slot == place) (stamp == when) is) in
            let when_is = eqb-true stamp when (second_of (slot == place) (stamp == when) is) in
            let moved : count_by (is_held_at slot stamp) chains.kept ≡ count_by (is_held_at place when) chains.kept = (λ i. count_by (is_held_at (at i) (when_is i)) chains.kept) in
            let none = ltb-false 0 (count_by (is_held_at slot stamp) chains.kept) e in
            omega (arith, added (is_held_at place when) e, ap one_if is, moved, none)
        | inr other ↦ omega (arith, added (is_held_at place when) e, ap one_if other, lists.once place when)
      ]
    ]

    all_put : (place when : ℕ) → is_at_stamp after.tenant when (entry new place) ≡ true → 0 < count_by (is_held_at place when) after.kept
    all_put place when there = elim (same_or_not place slot) [
      | inl at ↦
          let held : (stamp == when) ≡ true = sym (put.held when) ∙ ap (λ s. is_at_stamp chains.tenant when (entry new s)) (sym at) ∙ ap (λ t. is_at_stamp t when (entry new place)) (sym whose) ∙ there in
          elim (cases_Bool has) [
            | inl e ↦
                let when_is = eqb-true stamp when held in
                let moved : count_by (is_held_at place when) chains.kept ≡ count_by (is_held_at slot stamp) chains.kept = (λ i. count_by (is_held_at (at i) (sym when_is i)) chains.kept) in
                let some = ltb-true 0 (count_by (is_held_at slot stamp) chains.kept) e in
                omega (arith, same (is_held_at place when) e, moved, some)
            | inr e ↦
                let one = ap one_if (both (slot == place) (stamp == when) (eq-eqb slot place (sym at)) held) in
                omega (arith, added (is_held_at place when) e, one)
          ]
      | inr other ↦
          let was = sym (put.rest place when other) ∙ ap (λ t. is_at_stamp t when (entry new place)) (sym whose) ∙ there in
          omega (arith, no_fewer (is_held_at place when), lists.all place when was)
    ]

    pub lists_put : Lists new after
    lists_put = record { once = once_put; all = all_put }

-- after a mark
pub lists_same : (old new : Cells) (chains : Heads) → NoneMove old new chains.tenant → Lists old chains → Lists new chains
lists_same old new chains same lists = record { once = lists.once; all = λ slot stamp there. lists.all slot stamp (sym (same slot stamp) ∙ there) }

pub swept_at_same : (old new : Cells) (chains : Heads) (stamp : ℕ) → NoneMove old new chains.tenant → IsSweptAt stamp chains.tenant old chains.kept → IsSweptAt stamp chains.tenant new chains.kept
swept_at_same old new chains stamp same swept =
    let gone = λ (cells : Cells) (k : Kept). (k.stamp == stamp) && not (is_named chains.tenant cells k) in
    let less = count_le (gone new) (gone old) chains.kept (λ k e. ap (λ b. (k.stamp == stamp) && not b) (sym (same k.slot k.stamp)) ∙ e) in
    omega (arith, less, swept)

-- no version as yet
pub lists_none : (cells : Cells) (chains : Heads) → chains.kept ≡ [] → count_by (is_of_tenant chains.tenant) cells ≡ 0 → Lists cells chains
lists_none cells chains none empty = record {
  once = λ slot stamp. (let nil = ap (count_by (is_held_at slot stamp)) none in omega (arith, nil));
  all = λ slot stamp there.
      let one = ap one_if (own_at chains.tenant stamp (entry cells slot) there) in
      let few = at_most (ones chains.tenant) None refl (slot ∷ []) cells (tt, tt) in
      let this = sum_by-cons (picked_at (ones chains.tenant) None cells) slot [] in
      absurd (omega (arith, one, few, this, empty));
}
