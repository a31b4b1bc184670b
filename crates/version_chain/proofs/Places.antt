-- For the callers of `Chains` that go over the listed versions of a stamp. They are the versions of this stamp in the chains.
use Rattle.std.proofs.Common.{◌≡◌, inl, inr, ℕ, zero, suc, ◌+◌, ◌-◌, ◌<◌, ◌≤◌, ◌==◌, ◌&&◌, not, Bool, true, false, cond, List, [], ◌∷◌, filter, map, length, length-drop, drop, get_or, count_by, sum_by, Option, Some, None, refl, sym, ap, subst, ◌∙◌, arith}
use Rattle.std.proofs.lemmas.Bool.{eq-eqb, eqb-true, cases_Bool, false_from_ne_true}
use Rattle.std.proofs.lemmas.List.{get_or-take, get_or-drop, length-take-le}
use Rattle.std.proofs.lemmas.List.Sums.{sum_by-cons, length-filter, count_by-le-length}
use Rattle.version_arena.specs.Arena.{entry}
use Rattle.version_chain.specs.Node.{Node}
use Rattle.version_chain.specs.declared.version.Version.{Version}
use Rattle.version_chain.specs.declared.stamp_list.Kept.{Kept}
use Rattle.version_chain.specs.Changes.{IsRunOf}
use Rattle.version_chain.specs.Heads.{Heads, head}
use Rattle.version_chain.specs.Chain.{Cells, IsPath, HoldsChains, chain_versions, follow}
use Rattle.version_chain.specs.Listed.{is_at_stamp, is_held_at, is_named, chain_of, chain_in, Lists, IsSweptAt}
use Rattle.version_chain.proofs.Listing.{one_if, cons, count_filter, count_le, both, each_one, first_of, second_of, own_at, apart_from}
use Rattle.version_chain.proofs.Others.{ones}
use Rattle.version_chain.proofs.Picking.{Has, picked_at, at_most, is_all}
use Rattle.version_chain.proofs.Slots.{summed}

-- the listed versions of a stamp
abbrev pub places : Heads → ℕ → List Kept
places chains stamp = filter (λ (k : Kept). k.stamp == stamp) chains.kept

-- a version of the tenant and stamp that passes the test
abbrev pub fits : ℕ → ℕ → (Version → Bool) → Option (Node × Option ℕ) → Bool
fits tenant stamp test None = false
fits tenant stamp test (Some cell) = is_at_stamp tenant stamp (Some cell) && test cell.0.version

abbrev pub weight : ℕ → ℕ → (Version → Bool) → Option (Node × Option ℕ) → ℕ
weight tenant stamp test e = one_if (fits tenant stamp test e)

one_there : (b : Bool) → 0 < one_if b → b ≡ true
one_there true more = refl
one_there false more = absurd (omega arith)

sum_map : (f : ℕ → ℕ) (xs : List Kept) → sum_by f (map (λ (k : Kept). k.slot) xs) ≡ sum_by (λ (k : Kept). f k.slot) xs
sum_map f [] = refl
sum_map f (k ∷ xs) = omega (arith, sum_by-cons f k.slot (map (λ (x : Kept). x.slot) xs), sum_by-cons (λ (x : Kept). f x.slot) k xs, sum_map f xs)

count_has : (slot : ℕ) (p : Kept → Bool) (xs : List Kept) → 0 < count_by (λ (k : Kept). (k.slot == slot) && p k) xs → Has slot (map (λ (k : Kept). k.slot) xs)
count_has slot p [] more = absurd (omega arith)
count_has slot p (k ∷ xs) more = elim (cases_Bool (k.slot == slot)) [
  | inl e ↦ inl (eqb-true k.slot slot e)
  | inr e ↦
      let none : one_if ((k.slot == slot) && p k) ≡ 0 = ap (λ b. one_if (b && p k)) e in
      inr (count_has slot p xs (omega (arith, more, none, cons (λ (x : Kept). (x.slot == slot) && p x) k xs)))
]

and_and : (a b : Bool) → (a && b) ≡ true → (b && (a && b)) ≡ true
and_and true true e = refl
and_and true false e = absurd (let g : false ≡ true = e in cc)
and_and false b e = absurd (let g : false ≡ true = e in cc)

module _ (cells : Cells) (chains : Heads) (stands : HoldsChains cells chains) (lists : Lists cells chains) (stamp : ℕ) where
  once_there : (slot : ℕ) → count_by (λ (k : Kept). k.slot == slot) (places chains stamp) ≤ 1
  once_there slot =
      let one = count_filter (λ (k : Kept). k.slot == slot) (λ (k : Kept). k.stamp == stamp) chains.kept in
      let less = count_le (λ (k : Kept). (k.stamp == stamp) && (k.slot == slot)) (is_held_at slot stamp) chains.kept (λ k e. both (k.slot == slot) (k.stamp == stamp) (second_of (k.stamp == stamp) (k.slot == slot) e) (first_of (k.stamp == stamp) (k.slot == slot) e)) in
      omega (arith, one, less, lists.once slot stamp)

  -- where each of the stamp is held, they are no more than the tenant uses
  pub held_few : IsSweptAt stamp chains.tenant cells chains.kept → length (places chains stamp) ≤ chains.used
  held_few swept =
      let few = at_most (ones chains.tenant) None refl (map (λ (k : Kept). k.slot) (places chains stamp)) cells (apart_from (places chains stamp) once_there) in
      let none = count_filter (λ (k : Kept). not (is_named chains.tenant cells k)) (λ (k : Kept). k.stamp == stamp) chains.kept ∙ swept in
      omega (arith, few, each_one cells chains.tenant (places chains stamp) none, stands.owned)

  -- each version of the stamp has a place
  pub has_place : (slot : ℕ) → is_at_stamp chains.tenant stamp (entry cells slot) ≡ true → 0 < count_by (λ (k : Kept). (k.slot == slot) && (k.stamp == stamp)) (places chains stamp)
  has_place slot there =
      let pair = λ (k : Kept). (k.slot == slot) && (k.stamp == stamp) in
      let one = count_filter pair (λ (k : Kept). k.stamp == stamp) chains.kept in
      let more = count_le pair (λ (k : Kept). (k.stamp == stamp) && pair k) chains.kept (λ k e. and_and (k.slot == slot) (k.stamp == stamp) e) in
      omega (arith, one, more, lists.all slot stamp there)

  -- the places that pass a test are as many as the versions that do
  pub tally : (test : Version → Bool) → sum_by (λ (k : Kept). weight chains.tenant stamp test (entry cells k.slot)) (places chains stamp)
      ≡ sum_by (λ from. count_by (λ (v : Version). (v.prepared.stamp == stamp) && test v) (follow cells (length cells) from)) chains.heads
  tally test =
      let w = weight chains.tenant stamp test in
      sym (sum_map (picked_at w None cells) (places chains stamp))
      ∙ is_all w None refl (map (λ (k : Kept). k.slot) (places chains stamp)) cells (apart_from (places chains stamp) once_there) (λ slot counts. count_has slot (λ (k : Kept). k.stamp == stamp) (places chains stamp) (has_place slot (at_stamp (entry cells slot) (one_there (fits chains.tenant stamp test (entry cells slot)) counts))))
      ∙ summed cells chains stands w (λ v. one_if ((v.prepared.stamp == stamp) && test v)) refl (λ chain v next. ap (λ b. one_if ((b && (v.prepared.stamp == stamp)) && test v)) (eq-eqb chains.tenant chains.tenant refl)) (λ e counts. own e (one_there (fits chains.tenant stamp test e) counts))
    where
      at_stamp : (e : Option (Node × Option ℕ)) → fits chains.tenant stamp test e ≡ true → is_at_stamp chains.tenant stamp e ≡ true
      at_stamp None is = is
      at_stamp (Some cell) is = first_of (is_at_stamp chains.tenant stamp (Some cell)) (test cell.0.version) is

      own : (e : Option (Node × Option ℕ)) → fits chains.tenant stamp test e ≡ true → 0 < ones chains.tenant e
      own e is = let one = ap one_if (own_at chains.tenant stamp e (at_stamp e is)) in omega (arith, one)

  -- a chain with a version of the stamp has a place
  in_path : (chain : ℕ) (from : Option ℕ) (chained : List Version) → IsPath cells chains.tenant chain from chained None → 0 < count_by (λ (v : Version). v.prepared.stamp == stamp) chained
      → (slot : ℕ) × (is_at_stamp chains.tenant stamp (entry cells slot) ≡ true) × (chain_in cells slot ≡ chain)
  in_path chain from [] path more = absurd (omega arith)
  in_path chain from (v ∷ rest) path more = elim (cases_Bool (v.prepared.stamp == stamp)) [
    | inl e ↦ (path.0, ap (is_at_stamp chains.tenant stamp) path.3 ∙ both (chains.tenant == chains.tenant) (v.prepared.stamp == stamp) (eq-eqb chains.tenant chains.tenant refl) e, ap chain_of path.3)
    | inr e ↦
        let none = ap one_if e in
        in_path chain path.1 rest path.4 (omega (arith, none, more, cons (λ (x : Version). x.prepared.stamp == stamp) v rest))
  ]

  any_place : (slot : ℕ) (p : Kept → Bool) (xs : List Kept) → 0 < count_by (λ (k : Kept). (k.slot == slot) && p k) xs → 0 < count_by (λ (k : Kept). chain_in cells k.slot == chain_in cells slot) xs
  any_place slot p xs more =
      let less = count_le (λ (k : Kept). (k.slot == slot) && p k) (λ (k : Kept). chain_in cells k.slot == chain_in cells slot) xs (λ k e. eq-eqb (chain_in cells k.slot) (chain_in cells slot) (ap (chain_in cells) (eqb-true k.slot slot (first_of (k.slot == slot) (p k) e)))) in
      omega (arith, more, less)

  pub chain_placed : (chain : ℕ) → chain < length chains.heads → 0 < count_by (λ (v : Version). v.prepared.stamp == stamp) (chain_versions cells chains chain) → 0 < count_by (λ (k : Kept). chain_in cells k.slot == chain) (places chains stamp)
  chain_placed chain known more =
      let at = in_path chain (head chains chain) (chain_versions cells chains chain) (stands.chained chain known) more in
      subst (λ n. 0 < count_by (λ (k : Kept). chain_in cells k.slot == n) (places chains stamp)) at.2
      (any_place at.0 (λ (k : Kept). k.stamp == stamp) (places chains stamp) (has_place at.0 at.1))

-- ---- the place at an index

none_at : (p : Kept → Bool) (xs : List Kept) → count_by p xs ≡ 0 → (i : ℕ) (d : Kept) → i < length xs → p (get_or xs i d) ≡ false
none_at p [] none i d within = absurd (omega arith)
none_at p (x ∷ xs) none zero d within = false_from_ne_true (p x) (λ e. absurd (let one = ap {B = ℕ} (λ b. cond b 1 0) e in let all = cons p x xs in omega arith))
none_at p (x ∷ xs) none (suc i) d within = none_at p xs (let all = cons p x xs in omega arith) i d (omega arith)

each_passes : (q : Kept → Bool) (xs : List Kept) (i : ℕ) (d : Kept) → i < length (filter q xs) → q (get_or (filter q xs) i d) ≡ true
each_passes q xs i d within =
    let none : count_by (λ (x : Kept). not (q x)) (filter q xs) ≡ 0 = count_filter (λ (x : Kept). not (q x)) q xs ∙ zero_both xs in
    back (q (get_or (filter q xs) i d)) (none_at (λ (x : Kept). not (q x)) (filter q xs) none i d within)
  where
    both_no : (b : Bool) → cond {A = ℕ} (b && not b) 1 0 ≡ 0
    both_no true = refl
    both_no false = refl

    zero_both : (ys : List Kept) → count_by (λ (x : Kept). q x && not (q x)) ys ≡ 0
    zero_both [] = refl
    zero_both (y ∷ ys) = omega (arith, cons (λ (x : Kept). q x && not (q x)) y ys, both_no (q y), zero_both ys)

    back : (b : Bool) → not b ≡ false → b ≡ true
    back true e = refl
    back false e = absurd (let g : true ≡ false = e in cc)

pub no_more : (q p : Kept → Bool) (xs : List Kept) → count_by p xs ≡ 0 → count_by p (filter q xs) ≡ 0
no_more q p xs none =
    let less = count_le (λ (x : Kept). q x && p x) p xs (λ x e. second_of (q x) (p x) e) in
    omega (arith, count_filter p q xs)

module _ (cells : Cells) (chains : Heads) (stamp j : ℕ) (kept : Kept) (within : j < length (places chains stamp)) (is : kept ≡ get_or (places chains stamp) j kept) where
  -- a place names a version of the stamp
  pub place_stamp : kept.stamp ≡ stamp
  place_stamp = eqb-true kept.stamp stamp (ap (λ (k : Kept). k.stamp == stamp) is ∙ each_passes (λ (k : Kept). k.stamp == stamp) chains.kept j kept within)

  pub place_named : IsSweptAt stamp chains.tenant cells chains.kept → is_named chains.tenant cells kept ≡ true
  place_named swept =
      ap (is_named chains.tenant cells) is
      ∙ back (is_named chains.tenant cells (get_or (places chains stamp) j kept)) (none_at (λ (k : Kept). not (is_named chains.tenant cells k)) (places chains stamp) (count_filter (λ (k : Kept). not (is_named chains.tenant cells k)) (λ (k : Kept). k.stamp == stamp) chains.kept ∙ swept) j kept within)
    where
      back : (b : Bool) → not b ≡ false → b ≡ true
      back true e = refl
      back false e = absurd (let g : true ≡ false = e in cc)

pub places_few : (chains : Heads) (stamp : ℕ) → length (places chains stamp) ≤ length chains.kept
places_few chains stamp =
    let is = length-filter (λ (k : Kept). k.stamp == stamp) chains.kept in
    let less = count_by-le-length (λ (k : Kept). k.stamp == stamp) chains.kept in
    omega arith

-- the versions of a stamp where they stand in the list
module _ (chains : Heads) (stamp first end : ℕ) (run : IsRunOf stamp chains.kept first end) where
  pub places_long : length (places chains stamp) ≡ end - first
  places_long =
      let long = length-drop first chains.kept in
      sym (ap (λ (xs : List Kept). length xs) run.together) ∙ length-take-le (end - first) (drop first chains.kept) (omega (arith, long, run.ordered, run.within))

  pub place_in : (j : ℕ) (kept : Kept) → j < end - first → kept ≡ get_or chains.kept (first + j) kept → kept ≡ get_or (places chains stamp) j kept
  place_in j kept less is =
      is
      ∙ sym (get_or-drop first chains.kept j kept)
      ∙ sym (get_or-take (end - first) (drop first chains.kept) j kept less)
      ∙ ap (λ (xs : List Kept). get_or xs j kept) run.together
