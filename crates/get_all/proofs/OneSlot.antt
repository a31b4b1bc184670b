-- A read's keys are apart, so that what round one shows of a key is taken at one place.
use Rattle.std.proofs.Common.{◌≡◌, ◌≢◌, ℕ, zero, suc, ◌+◌, ◌<◌, ◌≤◌, List, [], ◌∷◌, Bool, true, false, ◌||◌, not, map, length, get_or, set, arith, ap, sym, ◌∙◌, refl, cond, Option, Some, None}
use Rattle.std.specs.Prelude.{AllPairs, is_some, bytes_eq, nat_lt, position}
use Rattle.std.specs.List.{list_any, position_or_len}
use Rattle.std.proofs.lemmas.List.{get_or-map, get_or_default, length-map}
use Rattle.std.proofs.lemmas.List.Quantifiers.{position-Some}
use Rattle.std.proofs.lemmas.Bool.{and_parts, ltb-true, ltb-false, lt-ltb, le-ltb}
use Rattle.stamps.specs.Record.{Record}
use Rattle.plain_store.specs.Words.{Key}
use Rattle.plain_store.specs.Rounds.{some_or}
use Rattle.plain_store.proofs.Stamps.{key_is}
use Rattle.get_all.specs.ReadProgress.{AreApart, count_unshown, slot_for, with_first, awaits_first}
use Rattle.get_all.proofs.CountUnshown.{one_fewer}
use Rattle.get_all.specs.declared.read_progress.KeyProgress.{KeyProgress}

-- f changes no element but one
fixed_all : {X : Type 0} (f : X → X) (xs : List X) (d : X) → ((k : ℕ) → k < length xs → f (get_or xs k d) ≡ get_or xs k d) → map f xs ≡ xs
fixed_all f [] d fixed = refl
fixed_all f (x ∷ xs) d fixed = λ i. fixed zero (omega arith) i ∷ fixed_all f xs d (λ k within. fixed (suc k) (omega arith)) i

changed_at : {X : Type 0} (f : X → X) (xs : List X) (at : ℕ) (d : X) → at < length xs → ((k : ℕ) → k < length xs → k ≢ at → f (get_or xs k d) ≡ get_or xs k d)
    → map f xs ≡ set xs at (f (get_or xs at d))
changed_at f [] at d within fixed = absurd (omega arith)
changed_at f (x ∷ xs) zero d within fixed = λ i. f x ∷ fixed_all f xs d (λ k within. fixed (suc k) (omega arith) (λ same. omega arith)) i
changed_at f (x ∷ xs) (suc at) d within fixed =
    λ i. fixed zero (omega arith) (λ same. omega arith) i ∷ changed_at f xs at d (omega arith) (λ k within other. fixed (suc k) (omega arith) (λ same. other (omega arith))) i

-- a slot of another key stays as it is
other_key : (key : Key) (shown : Option Record) (slot : KeyProgress) → bytes_eq slot.key key ≡ false → with_first key shown slot ≡ slot
other_key key shown slot other = λ i. record { key = slot.key; first = stays slot.first i; second = slot.second }
  where
    stays : (first : Option (Option Record)) → some_or first (cond (bytes_eq slot.key key) (Some shown) None) ≡ first
    stays None = ap (λ b. cond b (Some shown) None) other
    stays (Some first) = refl

-- a slot that waits has it then
waiting_slot : (key : Key) (shown : Option Record) (slot : KeyProgress) → awaits_first key slot ≡ true → with_first key shown slot ≡ record slot { first = Some shown }
waiting_slot key shown slot waits =
    let is = and_parts (bytes_eq slot.key key) (not (is_some slot.first)) waits in
    λ i. record { key = slot.key; first = shows slot.first is.1 i; second = slot.second }
  where
    named : bytes_eq slot.key key ≡ true
    named = (and_parts (bytes_eq slot.key key) (not (is_some slot.first)) waits).0

    shows : (first : Option (Option Record)) → not (is_some first) ≡ true → some_or first (cond (bytes_eq slot.key key) (Some shown) None) ≡ Some shown
    shows None nothing = ap (λ b. cond b (Some shown) None) named
    shows (Some first) nothing = cc

module _ (key : Key) (slots : List KeyProgress) (at : ℕ) (found : position (awaits_first key) slots ≡ Some at) where
  pub place_within : (d : KeyProgress) → at < length slots
  place_within d = (position-Some (awaits_first key) slots at d found).0

  place_waits : (d : KeyProgress) → awaits_first key (get_or slots at d) ≡ true
  place_waits d = (position-Some (awaits_first key) slots at d found).1

  -- of one key fewer nothing was shown
  pub one_less : (shown : Option Record) (new : List KeyProgress)
      → ((slot : KeyProgress) → slot ≡ get_or slots at slot → new ≡ set slots at (record slot { first = Some shown }))
      → count_unshown slots ≡ suc (count_unshown new)
  one_less shown new put =
      let slot = get_or slots at (slot_for key) in
      let within = place_within (slot_for key) in
      let is : slot ≡ get_or slots at slot = get_or_default slots at (slot_for key) slot within in
      let waits = (and_parts (bytes_eq slot.key key) (not (is_some slot.first)) (place_waits (slot_for key))).1 in
      one_fewer slots at slot shown within is (is_nothing (is_some slot.first) waits) ∙ ap (λ zs. suc (count_unshown zs)) (sym (put slot is))
    where
      is_nothing : (b : Bool) → not b ≡ true → b ≡ false
      is_nothing true none = cc
      is_nothing false none = refl

  pub one_slot : (shown : Option Record) (new : List KeyProgress) → AreApart slots
      → ((slot : KeyProgress) → slot ≡ get_or slots at slot → new ≡ set slots at (record slot { first = Some shown }))
      → new ≡ map (with_first key shown) slots
  one_slot shown new apart put =
      put slot is ∙ ap (set slots at) (sym (waiting_slot key shown slot (place_waits (slot_for key))))
      ∙ sym (changed_at (with_first key shown) slots at (slot_for key) (place_within (slot_for key)) (λ k within other. other_key key shown (get_or slots k (slot_for key)) (differs k within other)))
    where
      slot : KeyProgress
      slot = get_or slots at (slot_for key)

      is : slot ≡ get_or slots at slot
      is = get_or_default slots at (slot_for key) slot (place_within (slot_for key))

      key_here : slot.key ≡ key
      key_here = key_is slot.key key (and_parts (bytes_eq slot.key key) (not (is_some slot.first)) (place_waits (slot_for key))).0

      differs : (k : ℕ) → k < length slots → k ≢ at → bytes_eq (get_or slots k (slot_for key)).key key ≡ false
      differs k within other = go (bytes_eq (get_or slots k (slot_for key)).key key) refl
        where
          go : (b : Bool) → bytes_eq (get_or slots k (slot_for key)).key key ≡ b → b ≡ false
          go true same =
              let one : (get_or slots k (slot_for key)).key ≡ slot.key = key_is (get_or slots k (slot_for key)).key key same ∙ sym key_here in
              ordered (nat_lt k at) refl one
            where
              ordered : (below : Bool) → nat_lt k at ≡ below → (get_or slots k (slot_for key)).key ≡ slot.key → true ≡ false
              ordered true e one = absurd (apart k at (slot_for key) (ltb-true k at e) (place_within (slot_for key)) one)
              ordered false e one =
                  let above : at ≤ k = ltb-false k at e in
                  let past : at < k = omega (arith, above) in
                  absurd (apart at k (slot_for key) past within (sym one))
          go false same = refl

past_first : (a b : ℕ) → nat_lt a b ≡ nat_lt (1 + a) (suc b)
past_first a b = go (nat_lt a b) refl
  where
    go : (below : Bool) → nat_lt a b ≡ below → nat_lt a b ≡ nat_lt (1 + a) (suc b)
    go true e =
        let below = ltb-true a b e in
        e ∙ sym (lt-ltb (1 + a) (suc b) (omega (arith, below)))
    go false e =
        let above = ltb-false a b e in
        e ∙ sym (le-ltb (1 + a) (suc b) (omega (arith, above)))

any_within : {X : Type 0} (p : X → Bool) (xs : List X) → list_any p xs ≡ nat_lt (position_or_len p xs) (length xs)
any_within p [] = refl
any_within p (x ∷ xs) = go (p x) (any_within p xs)
  where
    go : (b : Bool) → list_any p xs ≡ nat_lt (position_or_len p xs) (length xs)
        → (b || list_any p xs) ≡ nat_lt (cond (not b) (1 + position_or_len p xs) zero) (suc (length xs))
    go true rest = sym (lt-ltb zero (suc (length xs)) (omega arith))
    go false rest = rest ∙ past_first (position_or_len p xs) (length xs)

-- some slot waits exactly where one is found
pub awaits_found : {X : Type 0} (p : X → Bool) (xs : List X) → list_any p xs ≡ is_some (position p xs)
awaits_found p xs = any_within p xs ∙ sym (is_there (nat_lt (position_or_len p xs) (length xs)) (position_or_len p xs))
  where
    is_there : (b : Bool) (n : ℕ) → is_some (cond b (Some n) None) ≡ b
    is_there true n = refl
    is_there false n = refl

-- what leaves the keys leaves them apart
pub still_apart : (f : KeyProgress → KeyProgress) → ((slot : KeyProgress) → (f slot).key ≡ slot.key) → (slots : List KeyProgress) → AreApart slots → AreApart (map f slots)
still_apart f keeps slots apart = λ i j d before within same.
    let fewer : j < length slots = omega (arith, length-map slots f) in
    let key_at : (k : ℕ) → k < length slots → (get_or (map f slots) k d).key ≡ (get_or slots k d).key = λ k in_range. ap (λ (slot : KeyProgress). slot.key) (get_or-map f slots k d d in_range) ∙ keeps (get_or slots k d) in
    apart i j d before fewer (sym (key_at i (omega arith)) ∙ same ∙ key_at j fewer)

-- keys that are apart make slots that are
pub new_apart : (keys : List Key) → AllPairs (λ (j k : Key). j ≢ k) keys → AreApart (map slot_for keys)
new_apart keys apart = λ i j d before within same.
    let fewer : j < length keys = omega (arith, length-map keys slot_for) in
    let key_at : (k : ℕ) → k < length keys → (get_or (map slot_for keys) k d).key ≡ get_or keys k d.key = λ k in_range. ap (λ (slot : KeyProgress). slot.key) (get_or-map slot_for keys k d.key d in_range) in
    apart i j d.key before fewer (sym (key_at i (omega arith)) ∙ same ∙ key_at j fewer)
