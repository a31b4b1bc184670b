-- Of how many keys round one showed nothing.
use Rattle.std.proofs.Common.{◌≡◌, ℕ, zero, suc, ◌<◌, List, [], ◌∷◌, Bool, true, false, ◌&&◌, ◌==◌, Option, Some, map, length, get_or, set, cond, arith, ap, sym, ◌∙◌, refl}
use Rattle.std.specs.Prelude.{is_some}
use Rattle.std.specs.List.{list_all}
use Rattle.std.proofs.lemmas.Bool.{ne_eqb}
use Rattle.stamps.specs.Record.{Record}
use Rattle.plain_store.specs.Words.{Key}
use Rattle.get_all.specs.ReadProgress.{count_unshown, has_first, slot_for, with_second}
use Rattle.get_all.specs.declared.read_progress.KeyProgress.{KeyProgress}

-- it is none exactly where something was shown of each
pub none_unshown : (slots : List KeyProgress) → (count_unshown slots == 0) ≡ list_all has_first slots
none_unshown [] = refl
none_unshown (slot ∷ slots) = go (is_some slot.first) (none_unshown slots)
  where
    go : (b : Bool) → (count_unshown slots == 0) ≡ list_all has_first slots
        → (cond b (count_unshown slots) (suc (count_unshown slots)) == 0) ≡ (b && list_all has_first slots)
    go true rest = rest
    go false rest = ne_eqb (suc (count_unshown slots)) 0 (λ same. omega (arith, same))

-- one fewer once one more is shown
pub one_fewer : (slots : List KeyProgress) (at : ℕ) (x : KeyProgress) (shown : Option Record) → at < length slots → x ≡ get_or slots at x → is_some x.first ≡ false
    → count_unshown slots ≡ suc (count_unshown (set slots at (record x { first = Some shown })))
one_fewer [] at x shown within is waits = absurd (omega (arith, within))
one_fewer (slot ∷ slots) zero x shown within is waits =
    ap (λ b. cond b (count_unshown slots) (suc (count_unshown slots))) (sym (ap (λ (one : KeyProgress). is_some one.first) is) ∙ waits)
one_fewer (slot ∷ slots) (suc at) x shown within is waits =
    shift (is_some slot.first) (count_unshown slots) (count_unshown (set slots at (record x { first = Some shown }))) (one_fewer slots at x shown (omega (arith, within)) is waits)
  where
    shift : (b : Bool) (n m : ℕ) → n ≡ suc m → cond b n (suc n) ≡ suc (cond b m (suc m))
    shift true n m fewer = fewer
    shift false n m fewer = ap suc fewer

-- as many after a reply of round two
pub as_many : (key : Key) (version : Record) (slots : List KeyProgress) → count_unshown (map (with_second key version) slots) ≡ count_unshown slots
as_many key version [] = refl
as_many key version (slot ∷ slots) = ap (λ n. cond (is_some slot.first) n (suc n)) (as_many key version slots)

-- all of those of which nothing was shown
pub each_unshown : (keys : List Key) → count_unshown (map slot_for keys) ≡ length keys
each_unshown [] = refl
each_unshown (key ∷ keys) = ap suc (each_unshown keys)
