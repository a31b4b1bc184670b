-- Keys that are read one after the other, each where it stays.
use Rattle.std.proofs.Common.{◌≡◌, ℕ, zero, suc, ◌-◌, ◌<◌, List, [], ◌∷◌, length, Option, Some, None, refl, sym, ap, ◌∙◌, arith}
use Rattle.std.specs.Prelude.{IsSome, is_some}
use Rattle.std.specs.Option.{option_map_or}
use Rattle.std.proofs.lemmas.Bool.{false≢true}
use Rattle.stamps.specs.WriteSet.{IsWriteSet}
use Rattle.packed.specs.Reading.{◌>>=◌, key_at, keys_at, keys_in, writes_of}
use Rattle.packed.proofs.BodyParts.{found, pair_parts, set_here}

-- the keys that were read, if any were
abbrev read_in : Option (List (List ℕ) × List ℕ) → List (List ℕ)
read_in o = option_map_or (λ read. read.0) o []

-- where a key is left, one lies at the front
pub key_first : (left : ℕ) (bytes : List ℕ) → 0 < length (keys_in left bytes) → (0 < left) × IsSome (key_at bytes)
unfolding keys_at
key_first zero bytes some = absurd (omega (arith, some))
key_first (suc n) bytes some = (omega arith, go (key_at bytes) refl some)
  where
    go : (o : Option (List ℕ × List ℕ)) → key_at bytes ≡ o
        → 0 < length (read_in (o >>= λ key. keys_at n key.1 >>= λ more. Some (key.0 ∷ more.0, more.1))) → IsSome (key_at bytes)
    go None none there = absurd (omega (arith, there))
    go (Some x) is there = ap is_some is

-- behind it lie the others
pub key_next : (left : ℕ) (bytes key after : List ℕ) → 0 < length (keys_in left bytes) → found key after ≡ key_at bytes
    → keys_in left bytes ≡ key ∷ keys_in (left - 1) after
unfolding keys_at
key_next zero bytes key after some is = absurd (omega (arith, some))
key_next (suc n) bytes key after some is =
    let less : n ≡ suc n - 1 = omega arith in
    rw (← is) (go (keys_at n after) refl (rw (← is) at some) ∙ ap (λ m. key ∷ keys_in m after) less)
  where
    go : (o : Option (List (List ℕ) × List ℕ)) → keys_at n after ≡ o
        → 0 < length (read_in (keys_at n after >>= λ more. Some (key ∷ more.0, more.1)))
        → read_in (keys_at n after >>= λ more. Some (key ∷ more.0, more.1)) ≡ key ∷ keys_in n after
    go None none there = absurd (omega (arith, (rw none at there)))
    go (Some x) read there = rw read refl

-- as many are read as were asked for
keys_long : (count : ℕ) (bytes : List ℕ) (keys : List (List ℕ)) (rest : List ℕ) → keys_at count bytes ≡ found keys rest → length keys ≡ count
unfolding keys_at
keys_long zero bytes keys rest read = ap length (sym (pair_parts [] keys bytes rest read).0)
keys_long (suc n) bytes keys rest read = go (λ after more end. keys_long n after more end) (key_at bytes) read
  where
    As_many : Type 0
    As_many = (after : List ℕ) (more : List (List ℕ)) (end : List ℕ) → keys_at n after ≡ found more end → length more ≡ n

    behind : As_many → (key : List ℕ) (o : Option (List (List ℕ) × List ℕ)) (after : List ℕ) → keys_at n after ≡ o
        → (o >>= λ more. found (key ∷ more.0) more.1) ≡ found keys rest → length keys ≡ suc n
    behind shorter key None after none is = absurd (false≢true (ap is_some is))
    behind shorter key (Some more) after there is =
        ap length (sym (pair_parts (key ∷ more.0) keys more.1 rest is).0) ∙ ap suc (shorter after more.0 more.1 there)

    go : As_many → (o : Option (List ℕ × List ℕ)) → (o >>= λ key. keys_at n key.1 >>= λ more. found (key.0 ∷ more.0) more.1) ≡ found keys rest → length keys ≡ suc n
    go shorter None is = absurd (false≢true (ap is_some is))
    go shorter (Some key) is = behind shorter key.0 (keys_at n key.1) key.1 refl is

-- the keys of a write set that is there
pub set_in : (count : ℕ) (bytes : List ℕ) → 0 < count → IsSome (writes_of count bytes)
    → (length (keys_in count bytes) ≡ count) × IsWriteSet (keys_in count bytes) × ((rest : List ℕ) × (found (keys_in count bytes) rest ≡ writes_of count bytes))
unfolding writes_of
set_in count bytes some there = go (keys_at count bytes) refl
  where
    go : (o : Option (List (List ℕ) × List ℕ)) → keys_at count bytes ≡ o
        → (length (keys_in count bytes) ≡ count) × IsWriteSet (keys_in count bytes) × ((rest : List ℕ) × (found (keys_in count bytes) rest ≡ writes_of count bytes))
    go None none = absurd (false≢true (rw none at there))
    go (Some x) read =
        let long = keys_long count bytes x.0 x.1 read in
        let set = set_here count bytes x.0 x.1 (omega (arith, some, long)) read there in
        let is : keys_in count bytes ≡ x.0 = ap read_in read in
        rw is (long, set.0, (x.1, set.1))
