-- Reading keys one by one, as a loop does.
use Rattle.std.proofs.Common.{◌≡◌, ℕ, suc, ◌+◌, ◌-◌, ◌<◌, List, [], ◌∷◌, ◌++◌, length, take, set, Option, Some, None, refl, sym, ap, ◌∙◌, append_assoc, arith}
use Rattle.std.proofs.lemmas.List.{append-nil, take_more_set}
use Rattle.packed.specs.Reading.{◌>>=◌, text_at, key_from, key_at, keys_at, writes_from, writes_of}

-- a key is a text that may be one
pub key_found : (bytes text after key : List ℕ) → text_at bytes ≡ Some (text, after) → key_from text ≡ Some key → key_at bytes ≡ Some (key, after)
unfolding key_at
key_found bytes text after key is key_is = rw (is, key_is) refl

pub no_text : (bytes : List ℕ) → text_at bytes ≡ None → key_at bytes ≡ None
unfolding key_at
no_text bytes is = rw is refl

pub no_key : (bytes text after : List ℕ) → text_at bytes ≡ Some (text, after) → key_from text ≡ None → key_at bytes ≡ None
unfolding key_at
no_key bytes text after is key_is = rw (is, key_is) refl

-- the keys so far, and those that are still read
abbrev pub with_front : List (List ℕ) → Option (List (List ℕ) × List ℕ) → Option (List (List ℕ) × List ℕ)
with_front front read = read >>= λ x. Some (front ++ x.0, x.1)

regroup : (front : List (List ℕ)) (key : List ℕ) (read : Option (List (List ℕ) × List ℕ)) → with_front front (read >>= λ x. Some (key ∷ x.0, x.1)) ≡ with_front (front ++ key ∷ []) read
regroup front key (Some x) = ap (λ (keys : List (List ℕ)). Some (keys, x.1)) (simp append_assoc)
regroup front key None = refl

one_more : (front : List (List ℕ)) (n : ℕ) (bytes : List ℕ) (key : List ℕ) (after : List ℕ) → key_at bytes ≡ Some (key, after)
    → with_front front (keys_at (suc n) bytes) ≡ with_front (front ++ key ∷ []) (keys_at n after)
unfolding keys_at
one_more front n bytes key after is = rw is (regroup front key (keys_at n after))

no_more : (front : List (List ℕ)) (n : ℕ) (bytes : List ℕ) → key_at bytes ≡ None → with_front front (keys_at (suc n) bytes) ≡ None
unfolding keys_at
no_more front n bytes is = rw is refl

same : (read : Option (List (List ℕ) × List ℕ)) → with_front [] read ≡ read
same (Some x) = refl
same None = refl

-- the first `at` keys are those in the array, and the others are still to be read
abbrev pub SoFar : ℕ → List ℕ → List (List ℕ) → ℕ → List ℕ → Type 0
SoFar count bytes keys at rest = with_front (take at keys) (keys_at (count - at) rest) ≡ keys_at count bytes

pub begins : (count : ℕ) (bytes key after : List ℕ) → 0 < count → key_at bytes ≡ Some (key, after) → with_front (key ∷ []) (keys_at (count - 1) after) ≡ keys_at count bytes
begins count bytes key after some is =
    let k : count ≡ suc (count - 1) = omega arith in
    let one : keys_at (suc (count - 1)) bytes ≡ with_front (key ∷ []) (keys_at (count - 1) after) = sym (same (keys_at (suc (count - 1)) bytes)) ∙ one_more [] (count - 1) bytes key after is in
    sym one ∙ ap (λ (n : ℕ). keys_at n bytes) (sym k)

pub begins_not : (count : ℕ) (bytes : List ℕ) → 0 < count → key_at bytes ≡ None → writes_of count bytes ≡ None
unfolding writes_of
begins_not count bytes some is =
    let k : count ≡ suc (count - 1) = omega arith in
    let none : keys_at count bytes ≡ None = ap (λ (n : ℕ). keys_at n bytes) k ∙ sym (same (keys_at (suc (count - 1)) bytes)) ∙ no_more [] (count - 1) bytes is in
    rw none refl

pub goes_on : (count : ℕ) (bytes : List ℕ) (keys : List (List ℕ)) (at : ℕ) (rest key after : List ℕ) → at < count → at < length keys → key_at rest ≡ Some (key, after)
    → SoFar count bytes keys at rest → SoFar count bytes (set keys at key) (at + 1) after
goes_on count bytes keys at rest key after lt within is so_far =
    let k : count - at ≡ suc (count - (at + 1)) = omega arith in
    ap (λ (ks : List (List ℕ)). with_front ks (keys_at (count - (at + 1)) after)) (take_more_set keys at key within)
    ∙ sym (one_more (take at keys) (count - (at + 1)) rest key after is)
    ∙ ap (λ (n : ℕ). with_front (take at keys) (keys_at n rest)) (sym k) ∙ so_far

pub stops : (count : ℕ) (bytes : List ℕ) (keys : List (List ℕ)) (at : ℕ) (rest : List ℕ) → at < count → key_at rest ≡ None → SoFar count bytes keys at rest → writes_of count bytes ≡ None
unfolding writes_of
stops count bytes keys at rest lt is so_far =
    let k : count - at ≡ suc (count - (at + 1)) = omega arith in
    let none : keys_at count bytes ≡ None = sym so_far ∙ ap (λ (n : ℕ). with_front (take at keys) (keys_at n rest)) k ∙ no_more (take at keys) (count - (at + 1)) rest is in
    rw none refl

pub ends : (count : ℕ) (bytes : List ℕ) (keys : List (List ℕ)) (at : ℕ) (rest : List ℕ) → count ≡ at → SoFar count bytes keys at rest → keys_at count bytes ≡ Some (take count keys, rest)
unfolding keys_at
ends count bytes keys at rest all so_far =
    let k : count - at ≡ 0 = omega arith in
    let one : with_front (take at keys) (keys_at (count - at) rest) ≡ Some (take at keys, rest) = rw k (ap (λ (ks : List (List ℕ)). Some (ks, rest)) (append-nil (take at keys))) in
    sym so_far ∙ one ∙ ap (λ (n : ℕ). Some (take n keys, rest)) (sym all)

pub written : (count : ℕ) (bytes : List ℕ) (keys : List (List ℕ)) (rest : List ℕ) (writes : List (List ℕ)) → keys_at count bytes ≡ Some (take count keys, rest) → Some writes ≡ writes_from (take count keys) → Some (writes, rest) ≡ writes_of count bytes
unfolding writes_of
written count bytes keys rest writes read made = rw (read, ← made) refl

pub refused : (count : ℕ) (bytes : List ℕ) (keys : List (List ℕ)) (rest : List ℕ) → keys_at count bytes ≡ Some (take count keys, rest) → None ≡ writes_from (take count keys) → None ≡ writes_of count bytes
unfolding writes_of
refused count bytes keys rest read made = rw (read, ← made) refl
