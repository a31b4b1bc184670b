-- Bytes that are cut into pieces: a piece at a place, and one piece more.
use Rattle.std.proofs.Common.{◌≡◌, ℕ, zero, suc, ◌+◌, ◌-◌, ◌<◌, ◌≤◌, List, [], ◌∷◌, ◌++◌, length, get_or, take, drop, Some, refl, sym, ap, subst, ◌∙◌, take-append-drop, drop-drop, length-take-le, arith}
use Rattle.std.specs.Prelude.{slice_get}
use Rattle.std.specs.List.{flat_map}
use Rattle.std.proofs.lemmas.List.Concat.{flat_map-cons}
use Rattle.std.proofs.lemmas.List.{take-append-le, drop-append-le, drop_at, take_at, drop_all, append-nil, length-drop}
use Rattle.packed.specs.Cuts.{IsCut, pieces, start_of}

pub cut_rises : (start : ℕ) (ends : List ℕ) (total : ℕ) → IsCut start ends total → start ≤ total
cut_rises start [] total cut = omega (arith, cut)
cut_rises start (end ∷ ends) total cut = omega (arith, cut.0, cut_rises end ends total cut.1)

pub as_many : {X : Type 0} (bytes : List X) (start : ℕ) (ends : List ℕ) → length (pieces bytes start ends) ≡ length ends
as_many bytes start [] = refl
as_many bytes start (end ∷ ends) = ap suc (as_many bytes end ends)

-- ---- the piece at a place

abbrev pub piece_at : {X : Type 0} → List X → ℕ → List ℕ → ℕ → List X
piece_at bytes start ends at = take (get_or ends at 0 - start_of start ends at) (drop (start_of start ends at) bytes)

pub begins_before : (start : ℕ) (ends : List ℕ) (total at : ℕ) → IsCut start ends total → at < length ends → start_of start ends at ≤ get_or ends at 0
begins_before start [] total at cut lt = absurd (omega (arith, lt))
begins_before start (end ∷ ends) total zero cut lt = cut.0
begins_before start (end ∷ ends) total (suc zero) cut lt = begins_before end ends total zero cut.1 (omega (arith, lt))
begins_before start (end ∷ ends) total (suc (suc at)) cut lt = begins_before end ends total (suc at) cut.1 (omega (arith, lt))

pub ends_within : (start : ℕ) (ends : List ℕ) (total at : ℕ) → IsCut start ends total → at < length ends → get_or ends at 0 ≤ total
ends_within start [] total at cut lt = absurd (omega (arith, lt))
ends_within start (end ∷ ends) total zero cut lt = cut_rises end ends total cut.1
ends_within start (end ∷ ends) total (suc at) cut lt = ends_within end ends total at cut.1 (omega (arith, lt))

pub is_piece : {X : Type 0} (bytes : List X) (start : ℕ) (ends : List ℕ) (at : ℕ) → at < length ends → slice_get (pieces bytes start ends) at ≡ Some (piece_at bytes start ends at)
is_piece bytes start [] at lt = absurd (omega (arith, lt))
is_piece bytes start (end ∷ ends) zero lt = refl
is_piece bytes start (end ∷ ends) (suc zero) lt = is_piece bytes end ends zero (omega (arith, lt))
is_piece bytes start (end ∷ ends) (suc (suc at)) lt = is_piece bytes end ends (suc at) (omega (arith, lt))

pub piece_there : {X : Type 0} (bytes : List X) (start : ℕ) (ends : List ℕ) (at : ℕ) → at < length ends → get_or (pieces bytes start ends) at [] ≡ piece_at bytes start ends at
piece_there bytes start [] at lt = absurd (omega (arith, lt))
piece_there bytes start (end ∷ ends) zero lt = refl
piece_there bytes start (end ∷ ends) (suc zero) lt = piece_there bytes end ends zero (omega (arith, lt))
piece_there bytes start (end ∷ ends) (suc (suc at)) lt = piece_there bytes end ends (suc at) (omega (arith, lt))

pub start_behind : (ends : List ℕ) (at : ℕ) → 0 < at → get_or ends (at - 1) 0 ≡ start_of 0 ends at
start_behind ends zero lt = absurd (omega (arith, lt))
start_behind ends (suc at) lt = let e : suc at - 1 ≡ at = omega arith in rw e refl

-- ---- one piece more

pub cut_once_more : (start : ℕ) (ends : List ℕ) (total more : ℕ) → IsCut start ends total → IsCut start (ends ++ (total + more) ∷ []) (total + more)
cut_once_more start [] total more cut = (omega (arith, cut), refl)
cut_once_more start (end ∷ ends) total more cut = (cut.0, cut_once_more end ends total more cut.1)

-- a range that ends within the first bytes is one of them
within : {X : Type 0} (bytes more : List X) (start end : ℕ) → start ≤ end → end ≤ length bytes → take (end - start) (drop start (bytes ++ more)) ≡ take (end - start) (drop start bytes)
within bytes more start end rises small =
    ap (take (end - start)) (drop-append-le start bytes more (omega (arith, rises, small)))
    ∙ take-append-le (end - start) (drop start bytes) more (omega (arith, rises, small, length-drop start bytes))

last : {X : Type 0} (bytes more : List X) (start : ℕ) → start ≡ length bytes → take ((length bytes + length more) - start) (drop start (bytes ++ more)) ≡ more
last bytes more start is =
    let behind : drop start (bytes ++ more) ≡ more = drop_at bytes more start (sym is) in
    let many : length more ≡ (length bytes + length more) - start = omega (arith, is) in
    ap (take ((length bytes + length more) - start)) (behind ∙ sym (append-nil more)) ∙ take_at more [] ((length bytes + length more) - start) many

pub pieces_once_more : {X : Type 0} (bytes more : List X) (start : ℕ) (ends : List ℕ) → IsCut start ends (length bytes)
    → pieces (bytes ++ more) start (ends ++ (length bytes + length more) ∷ []) ≡ pieces bytes start ends ++ more ∷ []
pieces_once_more {X} bytes more start [] cut = ap (λ (piece : List X). piece ∷ []) (last bytes more start cut)
pieces_once_more {X} bytes more start (end ∷ ends) cut =
    ap (λ (piece : List X). piece ∷ pieces (bytes ++ more) end (ends ++ (length bytes + length more) ∷ [])) (within bytes more start end cut.0 (cut_rises end ends (length bytes) cut.1))
    ∙ ap (λ (others : List (List X)). take (end - start) (drop start bytes) ∷ others) (pieces_once_more bytes more end ends cut.1)

-- ---- the same pieces

none_same : {X : Type 0} (x : X) (xs : List X) → [] ≡ x ∷ xs → ⊥
none_same x xs same = absurd (omega (arith, ap length same))

-- pieces that are the same end at the same places
pub same_ends : (a b : List ℕ) (start : ℕ) (ends others : List ℕ) → IsCut start ends (length a) → IsCut start others (length b) → pieces a start ends ≡ pieces b start others → ends ≡ others
same_ends a b start [] [] cut apart same = refl
same_ends a b start [] (other ∷ others) cut apart same = absurd (none_same _ _ same)
same_ends a b start (end ∷ ends) [] cut apart same = absurd (none_same _ _ (sym same))
same_ends a b start (end ∷ ends) (other ∷ others) cut apart same =
    let first : take (end - start) (drop start a) ≡ take (other - start) (drop start b) = cc in
    let long : length (take (end - start) (drop start a)) ≡ end - start = length-take-le (end - start) (drop start a) (omega (arith, length-drop start a, cut_rises end ends (length a) cut.1)) in
    let wide : length (take (other - start) (drop start b)) ≡ other - start = length-take-le (other - start) (drop start b) (omega (arith, length-drop start b, cut_rises other others (length b) apart.1)) in
    let is : end ≡ other = omega (arith, ap length first, long, wide, cut.0, apart.0) in
    let later : pieces a end ends ≡ pieces b other others = cc in
    let rest : ends ≡ others = same_ends a b end ends others cut.1 (subst (λ (n : ℕ). IsCut n others (length b)) (sym is) apart.1) (later ∙ ap (λ (n : ℕ). pieces b n others) (sym is)) in
    λ i. is i ∷ rest i

-- bytes from a place on are the first piece from there, and those behind it
parted : {X : Type 0} (bytes : List X) (start end : ℕ) → start ≤ end → drop start bytes ≡ take (end - start) (drop start bytes) ++ drop end bytes
parted {X} bytes start end rises =
    let there : start + (end - start) ≡ end = omega (arith, rises) in
    sym (take-append-drop (end - start) (drop start bytes)) ∙ ap (λ (more : List X). take (end - start) (drop start bytes) ++ more) (drop-drop (end - start) start bytes ∙ ap (λ (n : ℕ). drop n bytes) there)

-- pieces that are the same are those of the same bytes
pub same_bytes : (a b : List ℕ) (start : ℕ) (ends : List ℕ) → IsCut start ends (length a) → IsCut start ends (length b) → pieces a start ends ≡ pieces b start ends → drop start a ≡ drop start b
same_bytes a b start [] cut apart same = drop_all start a (omega (arith, cut)) ∙ sym (drop_all start b (omega (arith, apart)))
same_bytes a b start (end ∷ ends) cut apart same =
    let first : take (end - start) (drop start a) ≡ take (end - start) (drop start b) = cc in
    let later : pieces a end ends ≡ pieces b end ends = cc in
    parted a start end cut.0 ∙ (λ i. first i ++ same_bytes a b end ends cut.1 apart.1 later i) ∙ sym (parted b start end apart.0)

pub same_pieces : (a b ends others : List ℕ) → IsCut 0 ends (length a) → IsCut 0 others (length b) → pieces a 0 ends ≡ pieces b 0 others → (ends ≡ others) × (a ≡ b)
same_pieces a b ends others cut apart same =
    let is = same_ends a b 0 ends others cut apart same in
    (is, same_bytes a b 0 ends cut (subst (λ (es : List ℕ). IsCut 0 es (length b)) (sym is) apart) (same ∙ ap (pieces b 0) (sym is)))

-- the pieces, one behind the other, are all that was cut
pub joined : {X : Type 0} (all : List X) (start : ℕ) (ends : List ℕ) → IsCut start ends (length all) → flat_map (λ (piece : List X). piece) (pieces all start ends) ≡ drop start all
joined all start [] cut = sym (drop_all start all (omega (arith, cut)))
joined {X} all start (end ∷ ends) cut =
    flat_map-cons (λ (piece : List X). piece) (take (end - start) (drop start all)) (pieces all end ends)
    ∙ ap (λ (more : List X). take (end - start) (drop start all) ++ more) (joined all end ends cut.1) ∙ sym (parted all start end cut.0)

-- ---- a part of a list, one element more

there : {X : Type 0} (xs : List X) (n : ℕ) (x : X) → Some x ≡ slice_get xs n → take (suc n) xs ≡ take n xs ++ x ∷ []
there [] n x is = absurd cc
there (y ∷ ys) zero x is = let same : y ≡ x = cc in ap (λ z. z ∷ []) same
there {X} (y ∷ ys) (suc n) x is = ap (λ (zs : List X). y ∷ zs) (there ys n x is)

after : {X : Type 0} (xs : List X) (from count n : ℕ) → n ≡ from + count → slice_get xs n ≡ slice_get (drop from xs) count
after xs zero count n e =
    let same : n ≡ count = omega (arith, e) in
    ap (slice_get xs) same
after [] (suc from) count n e = refl
after (y ∷ ys) (suc from) count zero e = absurd (omega (arith, e))
after (y ∷ ys) (suc from) count (suc n) e = after ys from count n (omega (arith, e))

pub part_more : {X : Type 0} (xs : List X) (from count : ℕ) (x : X) → Some x ≡ slice_get xs (from + count) → take (count + 1) (drop from xs) ≡ take count (drop from xs) ++ x ∷ []
part_more xs from count x is =
    let one : count + 1 ≡ suc count = omega arith in
    ap (λ n. take n (drop from xs)) one ∙ there (drop from xs) count x (is ∙ after xs from count (from + count) refl)

-- the elements of parts that are the same are the same
pub part_same : {X : Type 0} (xs ys : List X) (at from count nth : ℕ) → nth < count → take count (drop at xs) ≡ take count (drop from ys) → slice_get xs (at + nth) ≡ slice_get ys (from + nth)
part_same xs ys at from count nth less same =
    after xs at nth (at + nth) refl ∙ sym (taken (drop at xs) count nth less) ∙ ap (λ zs. slice_get zs nth) same ∙ taken (drop from ys) count nth less ∙ sym (after ys from nth (from + nth) refl)
  where
    taken : {X : Type 0} (xs : List X) (n k : ℕ) → k < n → slice_get (take n xs) k ≡ slice_get xs k
    taken xs zero k less = absurd (omega (arith, less))
    taken [] (suc n) k less = refl
    taken (x ∷ xs) (suc n) zero less = refl
    taken (x ∷ xs) (suc n) (suc k) less = taken xs n k (omega (arith, less))
