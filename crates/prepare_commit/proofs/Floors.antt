-- For `PartEntries`. Keys beside their floors.
use Rattle.std.proofs.Common.{◌≡◌, ◌<◌, ℕ, zero, suc, List, [], ◌∷◌, ◌++◌, length, get_or, Some, refl, ap, subst, arith}
use Rattle.std.specs.Prelude.{slice_get}
use Rattle.stamps.specs.Key.{IsKey}
use Rattle.prepare_commit.specs.declared.items.KnownItem.{KnownItem}
use Rattle.prepare_commit.specs.Floors.{AreKeys, with_floors}

pub entries_long : (keys : List (List ℕ)) (floors : List ℕ) → length keys ≡ length floors → length (with_floors keys floors) ≡ length floors
entries_long [] [] same = refl
entries_long [] (f ∷ floors) same = absurd (omega (arith, same))
entries_long (k ∷ keys) [] same = refl
entries_long (k ∷ keys) (f ∷ floors) same = ap suc (entries_long keys floors (omega (arith, same)))

pub entry_there : (keys : List (List ℕ)) (floors : List ℕ) (n : ℕ) (key : List ℕ) (d : ℕ) → length keys ≡ length floors → n < length floors → Some key ≡ slice_get keys n → (other : KnownItem) → record { key = key; floor = get_or floors n d } ≡ get_or (with_floors keys floors) n other
entry_there [] [] n key d same less is other = absurd (omega (arith, less))
entry_there [] (f ∷ floors) n key d same less is other = absurd (omega (arith, same))
entry_there (k ∷ keys) [] n key d same less is other = absurd (omega (arith, less))
entry_there (k ∷ keys) (f ∷ floors) zero key d same less is other =
    let first : key ≡ k = cc in
    λ i. record { key = first i; floor = f }
entry_there (k ∷ keys) (f ∷ floors) (suc n) key d same less is other = entry_there keys floors n key d (omega (arith, same)) (omega (arith, less)) is other

pub key_there : (keys : List (List ℕ)) (n : ℕ) (key : List ℕ) → AreKeys keys → Some key ≡ slice_get keys n → IsKey key
key_there [] n key all is = absurd (cc)
key_there (k ∷ keys) zero key all is = let same : k ≡ key = cc in subst IsKey same all.0
key_there (k ∷ keys) (suc n) key all is = key_there keys n key all.1 is

pub one_more_key : (keys : List (List ℕ)) (key : List ℕ) → AreKeys keys → IsKey key → AreKeys (keys ++ key ∷ [])
one_more_key [] key all is = (is, tt)
one_more_key (k ∷ keys) key all is = (all.0, one_more_key keys key all.1 is)

pub one_more_entry : (keys : List (List ℕ)) (floors : List ℕ) (e : KnownItem) → length keys ≡ length floors → with_floors (keys ++ e.key ∷ []) (floors ++ e.floor ∷ []) ≡ with_floors keys floors ++ e ∷ []
one_more_entry [] [] e same = refl
one_more_entry [] (f ∷ floors) e same = absurd (omega (arith, same))
one_more_entry (k ∷ keys) [] e same = absurd (omega (arith, same))
one_more_entry (k ∷ keys) (f ∷ floors) e same = ap (λ (all : List KnownItem). record { key = k; floor = f } ∷ all) (one_more_entry keys floors e (omega (arith, same)))
