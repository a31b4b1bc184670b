-- The keys of a write are apart, so that a Prepared is taken at one place.
use Rattle.std.proofs.Common.{◌≡◌, ◌≢◌, ℕ, zero, suc, ◌+◌, ◌<◌, ◌≤◌, List, [], ◌∷◌, Bool, true, false, ◌&&◌, ◌||◌, not, map, length, get_or, set, arith, ap, sym, ◌∙◌, refl, cond, Some, None}
use Rattle.std.specs.Prelude.{AllPairs, is_some, bytes_eq, nat_lt, position}
use Rattle.std.specs.List.{list_any, position_or_len}
use Rattle.std.proofs.lemmas.List.{get_or-map, length-map}
use Rattle.std.proofs.lemmas.List.Quantifiers.{position-Some}
use Rattle.std.proofs.lemmas.Bool.{and_parts, ltb-true, ltb-false, lt-ltb, le-ltb}
use Rattle.stamps.specs.declared.record.Item.{Item}
use Rattle.plain_store.specs.Words.{Key}
use Rattle.plain_store.specs.Writing.{keys_written}
use Rattle.plain_store.proofs.ListTests.{or-false}
use Rattle.plain_store.proofs.Stamps.{key_is}
use Rattle.put_all.specs.WriteProgress.{AreApart, place_for, with_prepared, awaits_prepared}
use Rattle.put_all.specs.declared.write_progress.ItemProgress.{ItemProgress}

-- f changes no element but one
fixed_all : {X : Type 0} (f : X → X) (xs : List X) (d : X) → ((k : ℕ) → k < length xs → f (get_or xs k d) ≡ get_or xs k d) → map f xs ≡ xs
fixed_all f [] d fixed = refl
fixed_all f (x ∷ xs) d fixed = λ i. fixed zero (omega arith) i ∷ fixed_all f xs d (λ k within. fixed (suc k) (omega arith)) i

changed_at : {X : Type 0} (f : X → X) (xs : List X) (at : ℕ) (d : X) → at < length xs → ((k : ℕ) → k < length xs → k ≢ at → f (get_or xs k d) ≡ get_or xs k d)
    → map f xs ≡ set xs at (f (get_or xs at d))
changed_at f [] at d within fixed = absurd (omega arith)
changed_at f (x ∷ xs) zero d within fixed = λ i. f x ∷ fixed_all f xs d (λ k within. fixed (suc k) (omega arith) (λ same. omega arith)) i
changed_at f (x ∷ xs) (suc at) d within fixed =
    λ i. fixed zero (omega arith) (λ same. omega arith) i ∷ changed_at f xs at d (omega arith) (λ k within other. fixed (suc k) (omega arith) (λ same. other (omega arith))) i

-- an item of another key stays as it is
other_key : (key : Key) (place : ItemProgress) → bytes_eq place.key key ≡ false → with_prepared key place ≡ place
other_key key place other = λ i. record { key = place.key; home = place.home; is_prepared = stays i; is_committed = place.is_committed }
  where
    stays : (place.is_prepared || bytes_eq place.key key) ≡ place.is_prepared
    stays = ap (λ b. place.is_prepared || b) other ∙ or-false place.is_prepared

-- one that waits is prepared then
waiting_place : (key : Key) (place : ItemProgress) → awaits_prepared key place ≡ true → with_prepared key place ≡ record place { is_prepared = true }
waiting_place key place waits = λ i. record { key = place.key; home = place.home; is_prepared = now i; is_committed = place.is_committed }
  where
    or_true : (b : Bool) → (b || true) ≡ true
    or_true true = refl
    or_true false = refl

    now : (place.is_prepared || bytes_eq place.key key) ≡ true
    now = ap (λ b. place.is_prepared || b) (and_parts (bytes_eq place.key key) (not place.is_prepared) waits).0 ∙ or_true place.is_prepared

module _ (key : Key) (places : List ItemProgress) (at : ℕ) (found : position (awaits_prepared key) places ≡ Some at) where
  pub place_within : (d : ItemProgress) → at < length places
  place_within d = (position-Some (awaits_prepared key) places at d found).0

  pub place_waits : (d : ItemProgress) → awaits_prepared key (get_or places at d) ≡ true
  place_waits d = (position-Some (awaits_prepared key) places at d found).1

  pub place_unprepared : (x : ItemProgress) → x ≡ get_or places at x → x.is_prepared ≡ false
  place_unprepared x is = go x.is_prepared (and_parts (bytes_eq x.key key) (not x.is_prepared) (ap (awaits_prepared key) is ∙ place_waits x)).1
    where
      go : (b : Bool) → not b ≡ true → b ≡ false
      go true h = cc
      go false h = refl

  pub one_place : (x : ItemProgress) → AreApart places → x ≡ get_or places at x → set places at (record x { is_prepared = true }) ≡ map (with_prepared key) places
  one_place x apart is =
      ap (set places at) (sym (waiting_place key x waits) ∙ ap (with_prepared key) is)
      ∙ sym (changed_at (with_prepared key) places at x (place_within x) (λ k within other. other_key key (get_or places k x) (differs k within other)))
    where
      waits : awaits_prepared key x ≡ true
      waits = ap (awaits_prepared key) is ∙ place_waits x

      key_here : x.key ≡ key
      key_here = key_is x.key key (and_parts (bytes_eq x.key key) (not x.is_prepared) waits).0

      differs : (k : ℕ) → k < length places → k ≢ at → bytes_eq (get_or places k x).key key ≡ false
      differs k within other = go (bytes_eq (get_or places k x).key key) refl
        where
          here : (get_or places at x).key ≡ key
          here = ap (λ (y : ItemProgress). y.key) (sym is) ∙ key_here

          go : (b : Bool) → bytes_eq (get_or places k x).key key ≡ b → b ≡ false
          go true same =
              let one : (get_or places k x).key ≡ (get_or places at x).key = key_is (get_or places k x).key key same ∙ sym here in
              ordered (nat_lt k at) refl one
            where
              ordered : (below : Bool) → nat_lt k at ≡ below → (get_or places k x).key ≡ (get_or places at x).key → true ≡ false
              ordered true e one = absurd (apart k at x (ltb-true k at e) (place_within x) one)
              ordered false e one =
                  let above : at ≤ k = ltb-false k at e in
                  let past : at < k = omega (arith, above) in
                  absurd (apart at k x past within (sym one))
          go false same = refl

past_first : (a b : ℕ) → nat_lt a b ≡ nat_lt (1 + a) (suc b)
past_first a b = go (nat_lt a b) refl
  where
    go : (below : Bool) → nat_lt a b ≡ below → nat_lt a b ≡ nat_lt (1 + a) (suc b)
    go true e =
        let below = ltb-true a b e in
        e ∙ sym (lt-ltb (1 + a) (suc b) (omega (arith, below)))
    go false e =
        let above = ltb-false a b e in
        e ∙ sym (le-ltb (1 + a) (suc b) (omega (arith, above)))

any_within : {X : Type 0} (p : X → Bool) (xs : List X) → list_any p xs ≡ nat_lt (position_or_len p xs) (length xs)
any_within p [] = refl
any_within p (x ∷ xs) = go (p x) (any_within p xs)
  where
    go : (b : Bool) → list_any p xs ≡ nat_lt (position_or_len p xs) (length xs)
        → (b || list_any p xs) ≡ nat_lt (cond (not b) (1 + position_or_len p xs) zero) (suc (length xs))
    go true rest = sym (lt-ltb zero (suc (length xs)) (omega arith))
    go false rest = rest ∙ past_first (position_or_len p xs) (length xs)

-- some slot waits exactly where one is found
pub awaits_found : {X : Type 0} (p : X → Bool) (xs : List X) → list_any p xs ≡ is_some (position p xs)
awaits_found p xs = any_within p xs ∙ sym (is_there (nat_lt (position_or_len p xs) (length xs)) (position_or_len p xs))
  where
    is_there : (b : Bool) (n : ℕ) → is_some (cond b (Some n) None) ≡ b
    is_there true n = refl
    is_there false n = refl

-- what leaves the keys leaves them apart
pub still_apart : (f : ItemProgress → ItemProgress) → ((place : ItemProgress) → (f place).key ≡ place.key) → (places : List ItemProgress) → AreApart places → AreApart (map f places)
still_apart f keeps places apart = λ i j d before within same.
    let fewer : j < length places = omega (arith, length-map places f) in
    let key_at : (k : ℕ) → k < length places → (get_or (map f places) k d).key ≡ (get_or places k d).key = λ k in_range. ap (λ (place : ItemProgress). place.key) (get_or-map f places k d d in_range) ∙ keeps (get_or places k d) in
    apart i j d before fewer (sym (key_at i (omega arith)) ∙ same ∙ key_at j fewer)

-- the items of apart keys
pub new_apart : (parts : ℕ) (items : List Item) → AllPairs (λ (j k : Key). j ≢ k) (keys_written items) → AreApart (map (λ (item : Item). place_for parts item.key) items)
new_apart parts [] apart = λ i j d before within same. absurd (omega (arith, within))
new_apart parts (first ∷ rest) apart = λ i j d before within same.
    let items = first ∷ rest in
    let place = λ (item : Item). place_for parts item.key in
    let fewer : j < length items = omega (arith, length-map items place) in
    let key_at : (k : ℕ) → k < length items → (get_or (map place items) k d).key ≡ get_or (keys_written items) k d.key = λ k in_range.
    ap (λ (p : ItemProgress). p.key) (get_or-map place items k first d in_range) ∙ sym (get_or-map (λ (item : Item). item.key) items k first d.key in_range) in
    apart i j d.key before (omega (arith, fewer, length-map items (λ (item : Item). item.key))) (sym (key_at i (omega arith)) ∙ same ∙ key_at j fewer)

-- where no item waits for it, a Prepared marks none
pub none_marked : (key : Key) (places : List ItemProgress) → list_any (awaits_prepared key) places ≡ false → map (with_prepared key) places ≡ places
none_marked key [] none = refl
none_marked key (place ∷ places) none = λ i. same (bytes_eq place.key key) place.is_prepared refl refl none i ∷ none_marked key places (rest (awaits_prepared key place) none) i
  where
    rest : (b : Bool) → (b || list_any (awaits_prepared key) places) ≡ false → list_any (awaits_prepared key) places ≡ false
    rest true all = cc
    rest false all = all

    same : (is_key was : Bool) → bytes_eq place.key key ≡ is_key → place.is_prepared ≡ was → ((is_key && not was) || list_any (awaits_prepared key) places) ≡ false → with_prepared key place ≡ place
    same is_key was named prepared fails = λ i. record { key = place.key; home = place.home; is_prepared = kept i; is_committed = place.is_committed }
      where
        stays : (a b : Bool) → ((a && not b) || list_any (awaits_prepared key) places) ≡ false → (b || a) ≡ b
        stays true true f = refl
        stays true false f = cc
        stays false true f = refl
        stays false false f = refl

        kept : (place.is_prepared || bytes_eq place.key key) ≡ place.is_prepared
        kept = ap (λ b. b || bytes_eq place.key key) prepared ∙ ap (λ b. was || b) named ∙ stays is_key was fails ∙ sym prepared
