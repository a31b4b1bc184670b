-- Reading so many things one by one, as a loop does.
use Rattle.std.proofs.Common.{◌≡◌, ℕ, suc, ◌+◌, ◌-◌, ◌<◌, List, [], ◌∷◌, ◌++◌, length, Option, Some, None, refl, sym, ap, ◌∙◌, append_assoc, arith}
use Rattle.std.specs.List.{flat_map, AllByRecursion}
use Rattle.std.proofs.lemmas.List.{append-nil}
use Rattle.std.proofs.lemmas.List.Concat.{flat_map-cons}
use Rattle.packed.specs.Reading.{◌>>=◌}
use Rattle.packed_steps.specs.Lists.{many_at}

-- those so far, and those that are still read
abbrev pub with_front : {X : Type 0} → List X → Option (List X × List ℕ) → Option (List X × List ℕ)
with_front front read = read >>= λ x. Some (front ++ x.0, x.1)

regroup : {X : Type 0} → (front : List X) (one : X) (read : Option (List X × List ℕ)) → with_front front (read >>= λ x. Some (one ∷ x.0, x.1)) ≡ with_front (front ++ one ∷ []) read
regroup front one (Some x) = ap (λ (xs : List _). Some (xs, x.1)) (simp append_assoc)
regroup front one None = refl

one_more : {X : Type 0} → (read : List ℕ → Option (X × List ℕ)) (front : List X) (n : ℕ) (bytes : List ℕ) (one : X) (after : List ℕ) → read bytes ≡ Some (one, after)
    → with_front front (many_at read (suc n) bytes) ≡ with_front (front ++ one ∷ []) (many_at read n after)
unfolding many_at
one_more read front n bytes one after is = rw is (regroup front one (many_at read n after))

no_more : {X : Type 0} → (read : List ℕ → Option (X × List ℕ)) (front : List X) (n : ℕ) (bytes : List ℕ) → read bytes ≡ None → with_front front (many_at read (suc n) bytes) ≡ None
unfolding many_at
no_more read front n bytes is = rw is refl

same : {X : Type 0} → (read : Option (List X × List ℕ)) → with_front [] read ≡ read
same (Some x) = refl
same None = refl

-- these were read first, and the others are still to be read
abbrev pub ManySoFar : {X : Type 0} → (List ℕ → Option (X × List ℕ)) → ℕ → List ℕ → List X → ℕ → List ℕ → Type 0
ManySoFar read count bytes front at rest = with_front front (many_at read (count - at) rest) ≡ many_at read count bytes

pub many_begin : {X : Type 0} → (read : List ℕ → Option (X × List ℕ)) (count : ℕ) (bytes : List ℕ) → ManySoFar read count bytes [] 0 bytes
many_begin read count bytes =
    let k : count - 0 ≡ count = omega arith in
    ap (λ (n : ℕ). with_front [] (many_at read n bytes)) k ∙ same (many_at read count bytes)

pub many_go_on : {X : Type 0} → (read : List ℕ → Option (X × List ℕ)) (count : ℕ) (bytes : List ℕ) (front : List X) (at : ℕ) (rest : List ℕ) (one : X) (after : List ℕ) → at < count → read rest ≡ Some (one, after)
    → ManySoFar read count bytes front at rest → ManySoFar read count bytes (front ++ one ∷ []) (at + 1) after
many_go_on read count bytes front at rest one after lt is so_far =
    let k : count - at ≡ suc (count - (at + 1)) = omega arith in
    sym (one_more read front (count - (at + 1)) rest one after is) ∙ ap (λ (n : ℕ). with_front front (many_at read n rest)) (sym k) ∙ so_far

pub many_stop : {X : Type 0} → (read : List ℕ → Option (X × List ℕ)) (count : ℕ) (bytes : List ℕ) (front : List X) (at : ℕ) (rest : List ℕ) → at < count → read rest ≡ None
    → ManySoFar read count bytes front at rest → many_at read count bytes ≡ None
many_stop read count bytes front at rest lt is so_far =
    let k : count - at ≡ suc (count - (at + 1)) = omega arith in
    sym so_far ∙ ap (λ (n : ℕ). with_front front (many_at read n rest)) k ∙ no_more read front (count - (at + 1)) rest is

pub many_end : {X : Type 0} → (read : List ℕ → Option (X × List ℕ)) (count : ℕ) (bytes : List ℕ) (front : List X) (at : ℕ) (rest : List ℕ) → count ≡ at
    → ManySoFar read count bytes front at rest → many_at read count bytes ≡ Some (front, rest)
unfolding many_at
many_end read count bytes front at rest all so_far =
    let k : count - at ≡ 0 = omega arith in
    let one : with_front front (many_at read (count - at) rest) ≡ Some (front, rest) = rw k (ap (λ (xs : List _). Some (xs, rest)) (append-nil front)) in
    sym so_far ∙ one

-- ---- what was packed is read again

pub many_again : {X : Type 0} → (read : List ℕ → Option (X × List ℕ)) (packed : X → List ℕ) (IsOne : X → Type 0)
    → ((x : X) (rest : List ℕ) → IsOne x → read (packed x ++ rest) ≡ Some (x, rest))
    → (xs : List X) (rest : List ℕ) → AllByRecursion IsOne xs → many_at read (length xs) (flat_map packed xs ++ rest) ≡ Some (xs, rest)
unfolding many_at
many_again read packed IsOne each [] rest h = refl
many_again read packed IsOne each (x ∷ xs) rest h =
    let others = flat_map packed xs ++ rest in
    let regrouped : flat_map packed (x ∷ xs) ++ rest ≡ packed x ++ others = ap (λ (b : List ℕ). b ++ rest) (flat_map-cons packed x xs) ∙ append_assoc (packed x) (flat_map packed xs) rest in
    ap (many_at read (suc (length xs))) regrouped ∙ rw (each x others h.0, many_again read packed IsOne each xs rest h.1) refl
