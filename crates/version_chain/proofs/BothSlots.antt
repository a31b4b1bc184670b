-- For `ChainSlots`. Both slots of a chain, as two lists.
use Rattle.std.proofs.Common.{◌≡◌, ℕ, zero, suc, ◌<◌, ◌∷◌, List, length, map, set, get_or, replicate, Option, None, refl, sym, ap, ◌∙◌}
use Rattle.std.proofs.lemmas.List.{get_or-map, map-set, set-get_or}
use Rattle.version_chain.specs.declared.chain_slots.ChainSlot.{ChainSlot}

abbrev pub no_slots : ChainSlot
no_slots = record { head = None; latest = None }

abbrev pub heads_of : List ChainSlot → List (Option ℕ)
heads_of slots = map (λ (s : ChainSlot). s.head) slots

abbrev pub latest_of : List ChainSlot → List (Option ℕ)
latest_of slots = map (λ (s : ChainSlot). s.latest) slots

pub no_heads : (n : ℕ) → heads_of (replicate n no_slots) ≡ replicate n None
no_heads zero = refl
no_heads (suc n) = ap (λ (xs : List (Option ℕ)). None ∷ xs) (no_heads n)

pub no_latest : (n : ℕ) → latest_of (replicate n no_slots) ≡ replicate n None
no_latest zero = refl
no_latest (suc n) = ap (λ (xs : List (Option ℕ)). None ∷ xs) (no_latest n)

module _ (slots : List ChainSlot) (chain : ℕ) (old : ChainSlot) (known : chain < length slots) (is : old ≡ get_or slots chain old) where
  pub head_is : old.head ≡ get_or (heads_of slots) chain None
  head_is = ap (λ (s : ChainSlot). s.head) is ∙ sym (get_or-map (λ (s : ChainSlot). s.head) slots chain old None known)

  pub latest_is : old.latest ≡ get_or (latest_of slots) chain None
  latest_is = ap (λ (s : ChainSlot). s.latest) is ∙ sym (get_or-map (λ (s : ChainSlot). s.latest) slots chain old None known)

  -- one of the two slots is written
  pub heads_stay : (latest : Option ℕ) → heads_of (set slots chain (record { head = old.head; latest = latest })) ≡ heads_of slots
  heads_stay latest =
      map-set (λ (s : ChainSlot). s.head) slots chain (record { head = old.head; latest = latest })
      ∙ ap (λ (x : Option ℕ). set (heads_of slots) chain x) head_is
      ∙ set-get_or (heads_of slots) chain None

  pub latest_stays : (head : Option ℕ) → latest_of (set slots chain (record { head = head; latest = old.latest })) ≡ latest_of slots
  latest_stays head =
      map-set (λ (s : ChainSlot). s.latest) slots chain (record { head = head; latest = old.latest })
      ∙ ap (λ (x : Option ℕ). set (latest_of slots) chain x) latest_is
      ∙ set-get_or (latest_of slots) chain None
