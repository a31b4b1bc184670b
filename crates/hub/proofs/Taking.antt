-- The replies among entries, as these grow: for the functions of an operation.
use Rattle.std.proofs.Common.{◌≡◌, ◌≤◌, ◌+◌, ℕ, Bool, true, false, cond, List, [], ◌∷◌, ◌++◌, ap, refl, arith}
use Rattle.std.proofs.lemmas.List.Sums.{sum_by-append, sum_by-cons}
use Rattle.entry_list.specs.declared.kinds.Entry.{Entry}
use Rattle.hub.specs.Taken.{is_reply, replies_in}

pub replies-push : (es : List Entry) (e : Entry) → replies_in (es ++ e ∷ []) ≡ replies_in es + cond (is_reply e) 1 0
replies-push es e =
    let f : Entry → ℕ = λ x. cond (is_reply x) 1 0 in
    omega (arith, sum_by-append f es (e ∷ []), sum_by-cons f e [])

-- after one that is none
pub replies-other : (old new : List Entry) (e : Entry) → is_reply e ≡ false → new ≡ old ++ e ∷ [] → replies_in new ≡ replies_in old
replies-other old new e none is =
    let Q : Bool → ℕ = λ b. cond b 1 0 in
    omega (arith, ap replies_in is, replies-push old e, ap Q none)

-- after one more
pub replies-more : (old new : List Entry) (e : Entry) → new ≡ old ++ e ∷ [] → replies_in new ≤ replies_in old + 1
replies-more old new e is = go (is_reply e) refl
  where
    go : (b : Bool) → is_reply e ≡ b → replies_in new ≤ replies_in old + 1
    go true at = let Q : Bool → ℕ = λ b. cond b 1 0 in omega (arith, ap replies_in is, replies-push old e, ap Q at)
    go false at = let Q : Bool → ℕ = λ b. cond b 1 0 in omega (arith, ap replies_in is, replies-push old e, ap Q at)
