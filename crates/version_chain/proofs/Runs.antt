-- For `StampList::sweep_at` and `mark_cut`. A run of a list, whose other elements all pass a test.
use Rattle.std.proofs.Common.{◌≡◌, inl, inr, ℕ, ◌+◌, ◌-◌, ◌≤◌, ◌&&◌, not, Bool, cond, if◌then◌else◌, List, [], ◌∷◌, ◌++◌, filter, map, take, drop, length, length-drop, length-append, count_by, refl, sym, ap, ◌∙◌, arith, append_assoc}
use Rattle.std.proofs.lemmas.Bool.{cases_Bool}
use Rattle.std.proofs.lemmas.List.{map-append, take-append-drop, take-append-le, length-take-le}
use Rattle.std.proofs.lemmas.List.Elements.{filter-append}
use Rattle.std.proofs.lemmas.List.Sums.{sum_by-append}
use Rattle.std.proofs.Math.Seq.{take-add, drop-drop, take-append_seam, drop-append_seam, take-append-add, drop-append-add}
use Rattle.std.specs.Prelude.{slice_range}
use Rattle.std.specs.List.{remove_range}
use Rattle.version_chain.proofs.Listing.{cons, both, count_filter, count_le}

-- where a run stands in a list that has all elements that pass a test
module _ {X : Type 0} (s : X → Bool) (xs : List X) (first end : ℕ) (ordered : first ≤ end) (together : slice_range xs first end ≡ filter s xs) where
  parts : (take first xs ++ slice_range xs first end) ++ drop end xs ≡ xs
  parts =
      let there : first + (end - first) ≡ end = omega arith in
      ap (λ ys. ys ++ drop end xs) (sym (take-add first (end - first) xs) ∙ ap (λ n. take n xs) there) ∙ take-append-drop end xs

  counted : (p : X → Bool) → count_by p (take first xs) + count_by p (slice_range xs first end) + count_by p (drop end xs) ≡ count_by p xs
  counted p =
      let two : count_by p (take first xs ++ slice_range xs first end) ≡ count_by p (take first xs) + count_by p (slice_range xs first end) = sum_by-append (λ x. cond (p x) 1 0) (take first xs) (slice_range xs first end) in
      let one : count_by p ((take first xs ++ slice_range xs first end) ++ drop end xs) ≡ count_by p (take first xs ++ slice_range xs first end) + count_by p (drop end xs) =
      sum_by-append (λ x. cond (p x) 1 0) (take first xs ++ slice_range xs first end) (drop end xs) in
      omega (arith, one, two, ap (count_by p) parts)

  -- all that the other test passes stands in the run
  in_run : count_by s xs ≤ count_by s (slice_range xs first end)
  in_run =
      let same = ap (count_by s) together ∙ count_filter s s xs in
      let less = count_le s (λ x. s x && s x) xs (λ x e. both (s x) (s x) e e) in
      omega (arith, same, less)

module _ {X : Type 0} (q s : X → Bool) where
  abbrev fails : X → Bool
  fails x = not (s x) && not (q x)

  -- outside of the run each element passes
  all_pass : (xs : List X) → count_by s xs ≡ 0 → count_by fails xs ≡ 0 → filter q xs ≡ xs
  all_pass [] outside none = refl
  all_pass (x ∷ xs) outside none =
      let one = cons s x xs in
      let two = cons fails x xs in
      let rest = all_pass xs (omega (arith, outside, one)) (omega (arith, none, two)) in
      elim (cases_Bool (s x)) [
        | inl e ↦ absurd (let yes = ap {B = ℕ} (λ b. cond b 1 0) e in omega (arith, outside, one, yes))
        | inr e ↦ elim (cases_Bool (q x)) [
          | inl f ↦ ap (λ b. cond b (x ∷ filter q xs) (filter q xs)) f ∙ ap (λ ys. x ∷ ys) rest
          | inr f ↦ absurd (let yes : cond {A = ℕ} (fails x) 1 0 ≡ 1 = (λ i. cond (not (e i) && not (f i)) 1 0) in omega (arith, none, two, yes))
        ]
      ]

  module _ (xs : List X) (first end : ℕ) (ordered : first ≤ end) (together : slice_range xs first end ≡ filter s xs) (but : count_by fails xs ≡ 0) where
    pub run_swept : (take first xs ++ filter q (slice_range xs first end)) ++ drop end xs ≡ filter q xs
    run_swept =
        let before = all_pass (take first xs) (omega (arith, counted s xs first end ordered together s, in_run s xs first end ordered together)) (omega (arith, counted s xs first end ordered together fails, but)) in
        let after = all_pass (drop end xs) (omega (arith, counted s xs first end ordered together s, in_run s xs first end ordered together)) (omega (arith, counted s xs first end ordered together fails, but)) in
        (λ i. (sym before i ++ filter q (slice_range xs first end)) ++ sym after i)
        ∙ ap (λ ys. ys ++ filter q (drop end xs)) (sym (filter-append q (take first xs) (slice_range xs first end)))
        ∙ sym (filter-append q (take first xs ++ slice_range xs first end) (drop end xs))
        ∙ ap (filter q) (parts s xs first end ordered together)

-- a run of which each element is written over, where no other element passes the test
module _ {X : Type 0} (s : X → Bool) (f : X → X) where
  abbrev pub where_passed : X → X
  where_passed x = if s x then f x else x

  none_mapped : (xs : List X) → count_by s xs ≡ 0 → map where_passed xs ≡ xs
  none_mapped [] none = refl
  none_mapped (x ∷ xs) none =
      let one = cons s x xs in
      let rest = none_mapped xs (omega (arith, none, one)) in
      elim (cases_Bool (s x)) [
        | inl e ↦ absurd (let yes = ap {B = ℕ} (λ b. cond b 1 0) e in omega (arith, none, one, yes))
        | inr e ↦ (λ i. (if e i then f x else x) ∷ rest i)
      ]

  all_mapped : (xs : List X) → map where_passed (filter s xs) ≡ map f (filter s xs)
  all_mapped [] = refl
  all_mapped (x ∷ xs) =
      elim (cases_Bool (s x)) [
        | inl e ↦ rw e (λ i. (if e i then f x else x) ∷ all_mapped xs i)
        | inr e ↦ rw e (all_mapped xs)
      ]

  module _ (xs : List X) (first end : ℕ) (ordered : first ≤ end) (together : slice_range xs first end ≡ filter s xs) where
    pub run_mapped : (take first xs ++ map f (slice_range xs first end)) ++ drop end xs ≡ map where_passed xs
    run_mapped =
        let before = none_mapped (take first xs) (omega (arith, counted s xs first end ordered together s, in_run s xs first end ordered together)) in
        let after = none_mapped (drop end xs) (omega (arith, counted s xs first end ordered together s, in_run s xs first end ordered together)) in
        let run : map f (slice_range xs first end) ≡ map where_passed (slice_range xs first end) = ap (map f) together ∙ sym (all_mapped xs) ∙ ap (map where_passed) (sym together) in
        (λ i. (sym before i ++ run i) ++ sym after i)
        ∙ ap (λ ys. ys ++ map where_passed (drop end xs)) (sym (map-append where_passed (take first xs) (slice_range xs first end)))
        ∙ sym (map-append where_passed (take first xs ++ slice_range xs first end) (drop end xs))
        ∙ ap (map where_passed) (parts s xs first end ordered together)

-- a run that was written over, of which some elements at the front are left
module _ {X : Type 0} (ls run more : List X) (first end held len : ℕ) (ordered : first ≤ end) (within : end ≤ length ls) (long : length run ≡ length (slice_range ls first end)) (full : length ls ≡ len)
    (few : held ≤ length (slice_range ls first end)) where
  abbrev written : List X
  written = take first ls ++ (run ++ drop (end - first) (drop first ls))

  before_long : length (take first ls) ≡ first
  before_long = length-take-le first ls (omega arith)

  run_long : length run ≡ end - first
  run_long = let rest = length-drop first ls in long ∙ length-take-le (end - first) (drop first ls) (omega (arith, rest))

  after : drop (end - first) (drop first ls) ≡ drop end ls
  after =
      let there : first + (end - first) ≡ end = omega arith in
      drop-drop (end - first) first ls ∙ ap (λ n. drop n ls) there

  written_long : length written ≡ len
  written_long =
      let one = length-append (take first ls) (run ++ drop (end - first) (drop first ls)) in
      let two = length-append run (drop (end - first) (drop first ls)) in
      let three = length-drop end ls in
      omega (arith, one, two, three, before_long, run_long, ap (λ (ys : List X). length ys) after, full)

  pub run_left : remove_range (take len (written ++ more)) (first + held) end ≡ (take first ls ++ take held run) ++ drop end ls
  run_left =
      let whole : take len (written ++ more) ≡ written = ap (λ n. take n (written ++ more)) (sym written_long) ∙ take-append_seam written more in
      let front : take (first + held) written ≡ take first ls ++ take held run =
      ap (λ n. take (n + held) written) (sym before_long)
      ∙ take-append-add (take first ls) (run ++ drop (end - first) (drop first ls)) held
      ∙ ap (λ ys. take first ls ++ ys) (take-append-le held run (drop (end - first) (drop first ls)) (omega (arith, few, long))) in
      let place : end ≡ length (take first ls) + length run = omega (arith, before_long, run_long) in
      let back : drop end written ≡ drop end ls =
      ap (λ n. drop n written) place
      ∙ drop-append-add (take first ls) (run ++ drop (end - first) (drop first ls)) (length run)
      ∙ drop-append_seam run (drop (end - first) (drop first ls))
      ∙ after in
      ap (λ ys. remove_range ys (first + held) end) whole ∙ (λ i. front i ++ back i)

  -- all of them are left
  pub run_written : take len (written ++ more) ≡ (take first ls ++ run) ++ drop end ls
  run_written =
      ap (λ n. take n (written ++ more)) (sym written_long) ∙ take-append_seam written more
      ∙ ap (λ ys. take first ls ++ (run ++ ys)) after ∙ sym (append_assoc (take first ls) run (drop end ls))
