-- Of how many items no PREPARE was answered Prepared.
use Rattle.std.proofs.Common.{◌≡◌, ℕ, zero, suc, ◌<◌, List, [], ◌∷◌, Bool, true, false, ◌&&◌, ◌==◌, map, length, get_or, set, cond, arith, ap, sym, ◌∙◌, refl}
use Rattle.std.specs.List.{list_all}
use Rattle.std.proofs.lemmas.Bool.{ne_eqb}
use Rattle.stamps.specs.declared.record.Item.{Item}
use Rattle.put_all.specs.WriteProgress.{count_awaited, place_for, with_committed}
use Rattle.put_all.specs.declared.write_progress.ItemProgress.{ItemProgress}

-- it is none exactly where each is prepared
pub none_awaited : (places : List ItemProgress) → (count_awaited places == 0) ≡ list_all (λ (place : ItemProgress). place.is_prepared) places
none_awaited [] = refl
none_awaited (place ∷ places) = go place.is_prepared (none_awaited places)
  where
    go : (b : Bool) → (count_awaited places == 0) ≡ list_all (λ (one : ItemProgress). one.is_prepared) places
        → (cond b (count_awaited places) (suc (count_awaited places)) == 0) ≡ (b && list_all (λ (one : ItemProgress). one.is_prepared) places)
    go true rest = rest
    go false rest = ne_eqb (suc (count_awaited places)) 0 (λ same. omega (arith, same))

-- one fewer once one more is prepared
pub one_fewer : (places : List ItemProgress) (at : ℕ) (x : ItemProgress) → at < length places → x ≡ get_or places at x → x.is_prepared ≡ false
    → count_awaited places ≡ suc (count_awaited (set places at (record x { is_prepared = true })))
one_fewer [] at x within is waits = absurd (omega (arith, within))
one_fewer (place ∷ places) zero x within is waits =
    ap (λ b. cond b (count_awaited places) (suc (count_awaited places))) (sym (ap (λ (one : ItemProgress). one.is_prepared) is) ∙ waits)
one_fewer (place ∷ places) (suc at) x within is waits =
    shift place.is_prepared (count_awaited places) (count_awaited (set places at (record x { is_prepared = true }))) (one_fewer places at x (omega (arith, within)) is waits)
  where
    shift : (b : Bool) (n m : ℕ) → n ≡ suc m → cond b n (suc n) ≡ suc (cond b m (suc m))
    shift true n m fewer = fewer
    shift false n m fewer = ap suc fewer

-- as many after an answered COMMIT
pub as_many : (partition : ℕ) (places : List ItemProgress) → count_awaited (map (with_committed partition) places) ≡ count_awaited places
as_many partition [] = refl
as_many partition (place ∷ places) = ap (λ n. cond place.is_prepared n (suc n)) (as_many partition places)

-- all of those of which nothing was answered
pub each_awaited : (parts : ℕ) (items : List Item) → count_awaited (map (λ (item : Item). place_for parts item.key) items) ≡ length items
each_awaited parts [] = refl
each_awaited parts (item ∷ items) = ap suc (each_awaited parts items)
