-- For `BasePart`, `PartList`, `Held` and the copies of a cell. What lies at places of parts.
use Rattle.std.proofs.Common.{◌≡◌, ◌≢◌, ℕ, zero, suc, ◌<◌, ◌≤◌, List, [], ◌∷◌, ◌++◌, map, length, get_or, Option, Some, None, Result, Ok, Err, inl, inr, refl, sym, ap, ◌∙◌, arith}
use Rattle.std.specs.Prelude.{slice_get, IfOk, OnOk}
use Rattle.std.proofs.Math.ListN.{get_or-eq_default}
use Rattle.std.proofs.lemmas.Bool.{cases_lt}
use Rattle.std.proofs.lemmas.List.{get_or-map, length-map, map-append}
use Rattle.std.proofs.lemmas.Option.{slice_get_within}
use Rattle.version_chain.proofs.Replacing.{same_or_not}
use Rattle.version_chain.specs.declared.version.Version.{Version}
use Rattle.prepare_commit.specs.declared.items.KnownItem.{KnownItem}
use Rattle.prepare_commit.specs.declared.parts.EntryPosition.{EntryPosition}
use Rattle.prepare_commit.specs.Begun.{Holding, beside, held_at, put_at, LieAt, found, listed, none_held}

pub on_ok : {A E : Type 0} {P Q : Type 0} → (P → Q) → (r : Result A E) → OnOk r P → OnOk r Q
on_ok f (Ok x) h = f h
on_ok f (Err e) h = tt

pub on_both : {A E : Type 0} {P Q R : Type 0} → (P → Q → R) → (r : Result A E) → OnOk r P → OnOk r Q → OnOk r R
on_both f (Ok x) h k = f h k
on_both f (Err e) h k = tt

pub if_ok : {A E : Type 0} {P Q : A → Type 0} → ((x : A) → P x → Q x) → (r : Result A E) → IfOk r P → IfOk r Q
if_ok f (Ok x) h = f x h
if_ok f (Err e) h = tt

-- ---- entries beside their versions

pub beside_long : (entries : List KnownItem) (chains : List (List Version)) → length chains ≡ length entries → length (beside entries chains) ≡ length entries
beside_long [] chains same = refl
beside_long (e ∷ entries) [] same = absurd (omega (arith, same))
beside_long (e ∷ entries) (c ∷ chains) same = ap suc (beside_long entries chains (omega (arith, same)))

pub beside_entry : (entries : List KnownItem) (chains : List (List Version)) (n : ℕ) (h : Holding) (d : KnownItem) → slice_get (beside entries chains) n ≡ Some h → get_or entries n d ≡ h.entry
beside_entry [] chains n h d is = absurd cc
beside_entry (e ∷ entries) [] n h d is = absurd cc
beside_entry (e ∷ entries) (c ∷ chains) zero h d is =
    let same : record { entry = e; versions = c } ≡ h = cc in
    ap (λ (k : Holding). k.entry) same
beside_entry (e ∷ entries) (c ∷ chains) (suc n) h d is = beside_entry entries chains n h d is

pub beside_versions : (entries : List KnownItem) (chains : List (List Version)) (n : ℕ) (h : Holding) → slice_get (beside entries chains) n ≡ Some h → get_or chains n [] ≡ h.versions
beside_versions [] chains n h is = absurd cc
beside_versions (e ∷ entries) [] n h is = absurd cc
beside_versions (e ∷ entries) (c ∷ chains) zero h is =
    let same : record { entry = e; versions = c } ≡ h = cc in
    ap (λ (k : Holding). k.versions) same
beside_versions (e ∷ entries) (c ∷ chains) (suc n) h is = beside_versions entries chains n h is

pub beside_more : (entries : List KnownItem) (chains : List (List Version)) (e : KnownItem) (c : List Version) → length chains ≡ length entries → beside (entries ++ e ∷ []) (chains ++ c ∷ []) ≡ beside entries chains ++ record { entry = e; versions = c } ∷ []
beside_more [] [] e c same = refl
beside_more [] (d ∷ chains) e c same = absurd (omega (arith, same))
beside_more (f ∷ entries) [] e c same = absurd (omega (arith, same))
beside_more (f ∷ entries) (d ∷ chains) e c same = ap (λ (all : List Holding). record { entry = f; versions = d } ∷ all) (beside_more entries chains e c (omega (arith, same)))

-- ---- what lies at a place

pub in_part : (parts : List (List Holding)) (place : EntryPosition) (h : Holding) → held_at parts place ≡ Some h → place.at < length (get_or parts place.part [])
in_part parts place h is = slice_get_within (get_or parts place.part []) place.at h is

pub in_parts : (parts : List (List Holding)) (place : EntryPosition) (h : Holding) → held_at parts place ≡ Some h → place.part < length parts
in_parts parts place h is = elim (cases_lt place.part (length parts)) [
  | inl less ↦ less
  | inr more ↦ absurd (omega (arith, in_part parts place h is, ap (λ (part : List Holding). length part) (get_or-eq_default parts [] more)))
]

behind : {X : Type 0} (xs ys : List X) (n : ℕ) (x : X) → slice_get xs n ≡ Some x → slice_get (xs ++ ys) n ≡ Some x
behind [] ys n x is = absurd cc
behind (z ∷ xs) ys zero x is = is
behind (z ∷ xs) ys (suc n) x is = behind xs ys n x is

last_one : {X : Type 0} (xs : List X) (x : X) → slice_get (xs ++ x ∷ []) (length xs) ≡ Some x
last_one [] x = refl
last_one (z ∷ xs) x = last_one xs x

-- a part that was put
pub put_here : (parts : List (List Holding)) (at : ℕ) (part : List Holding) → at ≤ length parts → get_or (put_at parts at part) at [] ≡ part
put_here [] zero part within = refl
put_here [] (suc at) part within = absurd (omega (arith, within))
put_here (p ∷ parts) zero part within = refl
put_here (p ∷ parts) (suc at) part within = put_here parts at part (omega (arith, within))

pub put_other : (parts : List (List Holding)) (at n : ℕ) (part : List Holding) → at ≤ length parts → n ≢ at → get_or (put_at parts at part) n [] ≡ get_or parts n []
put_other [] zero zero part within other = absurd (other refl)
put_other [] zero (suc n) part within other = refl
put_other [] (suc at) n part within other = absurd (omega (arith, within))
put_other (p ∷ parts) zero zero part within other = absurd (other refl)
put_other (p ∷ parts) zero (suc n) part within other = refl
put_other (p ∷ parts) (suc at) zero part within other = refl
put_other (p ∷ parts) (suc at) (suc n) part within other = put_other parts at n part (omega (arith, within)) (λ e. other (ap suc e))

-- it has more
pub more_put : (parts : List (List Holding)) (free : ℕ) (part more : List Holding) (place : EntryPosition) (h : Holding) → free ≤ length parts → held_at (put_at parts free part) place ≡ Some h → held_at (put_at parts free (part ++ more)) place ≡ Some h
more_put parts free part more place h within is = elim (same_or_not place.part free) [
  | inl same ↦
      ap (λ (n : ℕ). slice_get (get_or (put_at parts free (part ++ more)) n []) place.at) same
      ∙ ap (λ (p : List Holding). slice_get p place.at) (put_here parts free (part ++ more) within)
      ∙ behind part more place.at h
      (sym (ap (λ (n : ℕ). slice_get (get_or (put_at parts free part) n []) place.at) same
      ∙ ap (λ (p : List Holding). slice_get p place.at) (put_here parts free part within)) ∙ is)
  | inr other ↦
      ap (λ (p : List Holding). slice_get p place.at) (put_other parts free place.part (part ++ more) within other ∙ sym (put_other parts free place.part part within other)) ∙ is
]

pub last_put : (parts : List (List Holding)) (free : ℕ) (part : List Holding) (h : Holding) → free ≤ length parts → held_at (put_at parts free (part ++ h ∷ [])) (record { part = free; at = length part }) ≡ Some h
last_put parts free part h within =
    ap (λ (p : List Holding). slice_get p (length part)) (put_here parts free (part ++ h ∷ []) within) ∙ last_one part h

-- ---- what lies at places

none_same : {X : Type 0} (x : X) (xs : List X) → [] ≡ x ∷ xs → ⊥
none_same x xs same = absurd (omega (arith, ap length same))

pub still_at : (parts after : List (List Holding)) (places : List EntryPosition) (all : List Holding) → ((place : EntryPosition) (h : Holding) → held_at parts place ≡ Some h → held_at after place ≡ Some h) → LieAt parts places all → LieAt after places all
still_at parts after [] [] still lie = refl
still_at parts after [] (h ∷ all) still lie = absurd (none_same _ _ lie)
still_at parts after (p ∷ places) [] still lie = absurd (none_same _ _ (sym lie))
still_at parts after (p ∷ places) (h ∷ all) still lie =
    let first : held_at parts p ≡ Some h = cc in
    let rest : LieAt parts places all = cc in
    λ i. still p h first i ∷ still_at parts after places all still rest i

pub one_more_at : (parts : List (List Holding)) (places : List EntryPosition) (all : List Holding) (place : EntryPosition) (h : Holding) → LieAt parts places all → held_at parts place ≡ Some h → LieAt parts (places ++ place ∷ []) (all ++ h ∷ [])
one_more_at parts places all place h lie at =
    map-append (held_at parts) places (place ∷ []) ∙ (λ i. lie i ++ at i ∷ []) ∙ sym (map-append Some all (h ∷ []))

pub listed_is : (parts : List (List Holding)) (places : List EntryPosition) (all : List Holding) → LieAt parts places all → listed parts places ≡ all
listed_is parts [] [] lie = refl
listed_is parts [] (h ∷ all) lie = absurd (none_same _ _ lie)
listed_is parts (p ∷ places) [] lie = absurd (none_same _ _ (sym lie))
listed_is parts (p ∷ places) (h ∷ all) lie =
    let first : held_at parts p ≡ Some h = cc in
    let rest : LieAt parts places all = cc in
    λ i. found (first i) ∷ listed_is parts places all rest i

module _ (parts : List (List Holding)) (places : List EntryPosition) (all : List Holding) (lie : LieAt parts places all) where
  pub as_many : length places ≡ length all
  as_many = sym (length-map places (held_at parts)) ∙ ap length lie ∙ length-map all Some

  pub lies_there : (n : ℕ) (d : EntryPosition) (e : Holding) → n < length all → held_at parts (get_or places n d) ≡ Some (get_or all n e)
  lies_there n d e less =
      sym (get_or-map (held_at parts) places n d None (omega (arith, less, as_many)))
      ∙ ap (λ (os : List (Option Holding)). get_or os n None) lie ∙ get_or-map Some all n e None less

-- and so where the places tell what is seen
module _ (parts : List (List Holding)) (places : List EntryPosition) (inside all : List Holding) (lie : LieAt parts places inside) (view : inside ≡ all) where
  pub seen_at : LieAt parts places all
  seen_at = lie ∙ ap (map Some) view

  pub place_there : (n : ℕ) (d here : EntryPosition) → here ≡ get_or places n d → n < length all → held_at parts here ≡ Some (get_or all n none_held)
  place_there n d here is less = ap (held_at parts) is ∙ lies_there parts places all seen_at n d none_held less

-- ---- one item more

module _ (parts : List (List Holding)) (free : ℕ) (within : free ≤ length parts) (part : List Holding) (places : List EntryPosition) (all : List Holding) (place : EntryPosition) (h : Holding) (lie : LieAt (put_at parts free part) places all) where
  pub put_new : place ≡ record { part = free; at = length part } → LieAt (put_at parts free (part ++ h ∷ [])) (places ++ place ∷ []) (all ++ h ∷ [])
  put_new is =
      let after = put_at parts free (part ++ h ∷ []) in
      one_more_at after places all place h (still_at (put_at parts free part) after places all (λ p k at. more_put parts free part (h ∷ []) p k within at) lie) (ap (held_at after) is ∙ last_put parts free part h within)

  pub put_old : place.part ≢ free → held_at parts place ≡ Some h → LieAt (put_at parts free part) (places ++ place ∷ []) (all ++ h ∷ [])
  put_old other at =
      one_more_at (put_at parts free part) places all place h lie (ap (λ (p : List Holding). slice_get p place.at) (put_other parts free place.part part within other) ∙ at)

-- what lies at a place of a part that two lists share
pub known_there : (parts begun : List (List Holding)) (place spot : EntryPosition) (h k : Holding) → get_or parts place.part [] ≡ get_or begun place.part [] → spot ≡ place → held_at parts place ≡ Some h → held_at begun spot ≡ Some k → k ≡ h
known_there parts begun place spot h k same is at was =
    let both : Some k ≡ Some h = sym was ∙ ap (held_at begun) is ∙ ap (λ (part : List Holding). slice_get part place.at) (sym same) ∙ at in
    cc
