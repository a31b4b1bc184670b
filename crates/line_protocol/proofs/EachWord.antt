-- A list whose words are read one by one.
use Rattle.std.proofs.Common.{◌≡◌, ℕ, ◌+◌, ◌≤◌, List, [], ◌∷◌, ◌++◌, length, Option, Some, None, Result, Ok, Err, refl, sym, ap, subst, ◌∙◌, append_assoc, length-append, arith}
use Rattle.std.specs.Prelude.{OnOk, IsOk}
use Rattle.std.proofs.lemmas.Option.{same_Some}
use Rattle.std.proofs.lemmas.List.{append-nil}
use Rattle.line_protocol.specs.Reading.{◌>>=◌, split_first, part_by, part_at, parts_in, each_at}
use Rattle.line_protocol.proofs.Splits.{bind_some, split_first-parts, parts-next}

-- how much is left to be read
abbrev pub size_of : Option (List ℕ) → ℕ
size_of None = 0
size_of (Some text) = 1 + length text

-- ---- how far the words were read

-- These words can be read. What they are read as was kept, unless there was no memory for it.
abbrev pub IsKept : {A E : Type 0} → (List ℕ → Option A) → List (List ℕ) → Result (Unit {0}) E → List A → Type 0
IsKept at words (Ok done) items = each_at at words ≡ Some items
IsKept {A} at words (Err e) items = (first : A) × (more : List A) × (each_at at words ≡ Some (first ∷ more))

-- the words that were read stand before those that are left
pub record IsReadTo {A E : Type 0} (at : List ℕ → Option A) (text rest : Option (List ℕ)) (kept : Result (Unit {0}) E) (items : List A) : Type 0 where
  pub front : List (List ℕ)
  pub parts : parts_in 32 text ≡ front ++ parts_in 32 rest
  pub is_kept : IsKept at front kept items

each-push : {A : Type 0} (at : List ℕ → Option A) (front : List (List ℕ)) (word : List ℕ) (all : List A) (a : A) → each_at at front ≡ Some all → at word ≡ Some a → each_at at (front ++ word ∷ []) ≡ Some (all ++ a ∷ [])
unfolding each_at
each-push {A} at [] word all a e is = rw is (ap (λ (xs : List A). Some (xs ++ a ∷ [])) (same_Some [] all e))
each-push {A} at (w ∷ front) word all a e is =
    let x = bind_some (at w) (λ x. each_at at front >>= λ more. Some (x ∷ more)) all e in
    let xs = bind_some (each_at at front) (λ more. Some (x.0 ∷ more)) all x.2 in
    rw (x.1, each-push at front word xs.0 a xs.1 is) (ap (λ (ys : List A). Some (ys ++ a ∷ [])) (same_Some (x.0 ∷ xs.0) all xs.2))

found_none : {A B : Type 0} (o : Option A) (f : A → Option B) → ((x : A) → f x ≡ None) → (o >>= f) ≡ None
found_none None f h = refl
found_none (Some x) f h = h x

each-stops : {A : Type 0} (at : List ℕ → Option A) (front : List (List ℕ)) (word : List ℕ) (rest : List (List ℕ)) → at word ≡ None → each_at at (front ++ word ∷ rest) ≡ None
unfolding each_at
each-stops at [] word rest is = rw is refl
each-stops at (w ∷ front) word rest is = rw (each-stops at front word rest is) (found_none (at w) _ (λ x. refl))

-- what the words so far are read as
read_so_far : {A E : Type 0} (at : List ℕ → Option A) (front : List (List ℕ)) (kept : Result (Unit {0}) E) (items : List A) → IsKept at front kept items → (all : List A) × (each_at at front ≡ Some all) × (IsOk kept → all ≡ items)
read_so_far at front (Ok done) items h = (items, h, λ _. refl)
read_so_far at front (Err e) items h = (h.0 ∷ h.1, h.2, λ is. absurd cc)

some_more : {A : Type 0} (xs : List A) (a : A) → (first : A) × (more : List A) × (xs ++ a ∷ [] ≡ first ∷ more)
some_more [] a = (a, [], refl)
some_more (x ∷ xs) a = (x, xs ++ a ∷ [], refl)

kept_more : {A E F : Type 0} (at : List ℕ → Option A) (front : List (List ℕ)) (word : List ℕ) (old : Result (Unit {0}) E) (new : Result (Unit {0}) F) (items longer : List A) (a : A)
    → IsKept at front old items → at word ≡ Some a → OnOk new (IsOk old × (longer ≡ items ++ a ∷ [])) → IsKept at (front ++ word ∷ []) new longer
kept_more {A} at front word old (Ok done) items longer a h is kept =
    let all = read_so_far at front old items h in
    each-push at front word all.0 a all.1 is ∙ ap (λ (xs : List A). Some (xs ++ a ∷ [])) (all.2 kept.0) ∙ ap (λ (xs : List A). Some xs) (sym kept.1)
kept_more {A} at front word old (Err e) items longer a h is kept =
    let all = read_so_far at front old items h in
    let some = some_more all.0 a in
    (some.0, some.1, each-push at front word all.0 a all.1 is ∙ ap (λ (xs : List A). Some xs) some.2)

-- ---- the goals of `read_each`

pub read-begins : {A E : Type 0} (at : List ℕ → Option A) (text : Option (List ℕ)) (done : Unit {0}) (items : List A) → items ≡ [] → IsReadTo {E = E} at text text (Ok done) items
unfolding each_at
read-begins {A} at text done items none = record { front = []; parts = refl; is_kept = ap (λ (xs : List A). Some xs) (sym none) }

pub read-goes_on : {A E F : Type 0} (at : List ℕ → Option A) (text : Option (List ℕ)) (more word : List ℕ) (after : Option (List ℕ)) (old : Result (Unit {0}) E) (new : Result (Unit {0}) F) (items longer : List A) (a : A)
    → IsReadTo at text (Some more) old items → (word, after) ≡ part_at 32 more → at word ≡ Some a → OnOk new (IsOk old × (longer ≡ items ++ a ∷ [])) → IsReadTo at text after new longer
read-goes_on at text more word after old new items longer a h part is kept = record {
  front = h.front ++ word ∷ [];
  parts = h.parts ∙ ap (λ (ws : List (List ℕ)). h.front ++ ws) (parts-next 32 more word after part) ∙ sym (append_assoc h.front (word ∷ []) (parts_in 32 after));
  is_kept = kept_more at h.front word old new items longer a h.is_kept is kept;
}

pub read-stops : {A E : Type 0} (at : List ℕ → Option A) (text : Option (List ℕ)) (more word : List ℕ) (after : Option (List ℕ)) (kept : Result (Unit {0}) E) (items : List A)
    → IsReadTo at text (Some more) kept items → (word, after) ≡ part_at 32 more → None ≡ at word → each_at at (parts_in 32 text) ≡ None
read-stops at text more word after kept items h part is =
    ap (each_at at) (h.parts ∙ ap (λ (ws : List (List ℕ)). h.front ++ ws) (parts-next 32 more word after part)) ∙ each-stops at h.front word (parts_in 32 after) (sym is)

pub read-ends : {A E : Type 0} (at : List ℕ → Option A) (text : Option (List ℕ)) (kept : Result (Unit {0}) E) (items : List A) → IsReadTo at text None kept items → IsKept at (parts_in 32 text) kept items
read-ends at text kept items h = subst (λ (ws : List (List ℕ)). IsKept at ws kept items) (sym (h.parts ∙ append-nil h.front)) h.is_kept

smaller-by : (text : List ℕ) (o : Option (List ℕ × List ℕ)) → split_first 32 text ≡ o → size_of (part_by text o).1 ≤ length text
smaller-by text None parts = omega arith
smaller-by text (Some p) parts = let e = ap length (split_first-parts 32 text p.0 p.1 parts).parts in omega (arith, length-append p.0 (32 ∷ p.1), e)

pub read-smaller : (text word : List ℕ) (after : Option (List ℕ)) → (word, after) ≡ part_at 32 text → size_of after ≤ length text
unfolding part_at
read-smaller text word after is = subst (λ (p : List ℕ × Option (List ℕ)). size_of p.1 ≤ length text) (sym is) (smaller-by text (split_first 32 text) refl)
