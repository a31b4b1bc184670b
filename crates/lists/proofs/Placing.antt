-- For `RowList`, all its functions. What a change of the rows or of their numbers does to the list.
use Rattle.std.proofs.Common.{◌≡◌, ◌≢◌, ℕ, zero, suc, ◌+◌, ◌<◌, ◌≤◌, Bool, true, false, cond, List, [], ◌∷◌, ◌++◌, length, get_or, set, Some, inl, inr, refl, sym, ◌∙◌, ap, subst, arith}
use Rattle.std.specs.Prelude.{◌==◌, count_by, insert, remove, slice_get}
use Rattle.std.proofs.lemmas.Bool.{eqb-true}
use Rattle.std.proofs.lemmas.Option.{get_or_from_slice_get}
use Rattle.std.proofs.lemmas.List.{length-set, length-append, get_or_default}
use Rattle.std.proofs.lemmas.List.Sums.{sum_by-cons}
use Rattle.std.proofs.lemmas.List.Edits.{length-insert, length-remove}
use Rattle.lists.specs.Listing.{Listing}
use Rattle.lists.specs.Placed.{in_front, listed, AreBelow, ArePlaced, IsPut}

-- ---- numbers

same_number : (n : ℕ) → (n == n) ≡ true
same_number n = grind arith

same_of : (m n : ℕ) → (m == n) ≡ true → m ≡ n
same_of m n h = eqb-true m n h

apart : (m n : ℕ) → (m == n) ≡ false → m ≢ n
apart m n differ same = let here : (m == n) ≡ true = rw same (same_number n) in cc

count_cons : (n x : ℕ) (xs : List ℕ) → count_by (λ p. p == n) (x ∷ xs) ≡ cond (x == n) 1 0 + count_by (λ p. p == n) xs
count_cons n x xs = sum_by-cons (λ p. cond (p == n) 1 0) x xs

counted_here : (n x : ℕ) (xs : List ℕ) → x ≡ n → count_by (λ p. p == n) (x ∷ xs) ≡ suc (count_by (λ p. p == n) xs)
counted_here n x xs same =
    let here : (x == n) ≡ true = rw same (same_number n) in
    let one : ◌≡◌ {A = ℕ} (cond (x == n) 1 0) 1 = ap (λ b. cond b 1 0) here in
    omega (arith, one, count_cons n x xs)

not_here : (n x : ℕ) (xs : List ℕ) → count_by (λ p. p == n) (x ∷ xs) ≡ 0 → (x ≢ n) × (count_by (λ p. p == n) xs ≡ 0)
not_here n x xs none = (λ same. let some = counted_here n x xs same in absurd (omega arith), omega (arith, none, count_cons n x xs))

count_insert : (n : ℕ) (xs : List ℕ) (k x : ℕ) → k ≤ length xs → count_by (λ p. p == n) (insert xs k x) ≡ count_by (λ p. p == n) (x ∷ xs)
count_insert n xs zero x within = refl
count_insert n [] (suc k) x within = absurd (omega arith)
count_insert n (y ∷ xs) (suc k) x within =
    omega (arith, count_cons n y (insert xs k x), count_cons n y xs, count_cons n x (y ∷ xs), count_cons n x xs, count_insert n xs k x (omega arith))

count_remove : (n : ℕ) (xs : List ℕ) (k : ℕ) → k < length xs → count_by (λ p. p == n) (get_or xs k 0 ∷ remove xs k) ≡ count_by (λ p. p == n) xs
count_remove n [] k within = absurd (omega arith)
count_remove n (y ∷ xs) zero within = refl
count_remove n (y ∷ xs) (suc k) within =
    omega (arith, count_cons n y (remove xs k), count_cons n (get_or xs k 0) (y ∷ remove xs k), count_cons n (get_or xs k 0) (remove xs k), count_cons n y xs, count_remove n xs k (omega arith))

count_end : (n : ℕ) (xs : List ℕ) (x : ℕ) → count_by (λ p. p == n) (xs ++ x ∷ []) ≡ count_by (λ p. p == n) (x ∷ xs)
count_end n [] x = refl
count_end n (y ∷ xs) x = omega (arith, count_cons n y (xs ++ x ∷ []), count_cons n y xs, count_cons n x (y ∷ xs), count_cons n x xs, count_end n xs x)

-- a number that stands in a list is counted
counted_at : (xs : List ℕ) (k : ℕ) → k < length xs → 0 < count_by (λ p. p == get_or xs k 0) xs
counted_at xs k within =
    omega (arith, counted_here (get_or xs k 0) (get_or xs k 0) (remove xs k) refl, count_remove (get_or xs k 0) xs k within)

-- ---- numbers below a bound

below_more : (m n : ℕ) (xs : List ℕ) → m ≤ n → AreBelow m xs → AreBelow n xs
below_more m n [] more below = tt
below_more m n (x ∷ xs) more below = (omega (arith, below.0), below_more m n xs more below.1)

below_at : (n : ℕ) (xs : List ℕ) (k : ℕ) → AreBelow n xs → k < length xs → get_or xs k 0 < n
below_at n [] k below within = absurd (omega arith)
below_at n (x ∷ xs) zero below within = below.0
below_at n (x ∷ xs) (suc k) below within = below_at n xs k below.1 (omega arith)

below_insert : (n : ℕ) (xs : List ℕ) (k x : ℕ) → k ≤ length xs → AreBelow n xs → x < n → AreBelow n (insert xs k x)
below_insert n xs zero x within below less = (less, below)
below_insert n [] (suc k) x within below less = absurd (omega arith)
below_insert n (y ∷ xs) (suc k) x within below less = (below.0, below_insert n xs k x (omega arith) below.1 less)

below_remove : (n : ℕ) (xs : List ℕ) (k : ℕ) → k < length xs → AreBelow n xs → AreBelow n (remove xs k)
below_remove n [] k within below = absurd (omega arith)
below_remove n (x ∷ xs) zero within below = below.1
below_remove n (x ∷ xs) (suc k) within below = (below.0, below_remove n xs k (omega arith) below.1)

below_end : (n : ℕ) (xs : List ℕ) (x : ℕ) → AreBelow n xs → x < n → AreBelow n (xs ++ x ∷ [])
below_end n [] x below less = (less, tt)
below_end n (y ∷ xs) x below less = (below.0, below_end n xs x below.1 less)

pub below_ended : (n : ℕ) (xs : List ℕ) (x : ℕ) → AreBelow n (xs ++ x ∷ []) → AreBelow n xs × (x < n)
below_ended n [] x below = (tt, below.0)
below_ended n (y ∷ xs) x below = let rest = below_ended n xs x below.1 in ((below.0, rest.0), rest.1)

-- a number that is not below the bound is not among those that are
none_past : (n : ℕ) (xs : List ℕ) → AreBelow n xs → count_by (λ p. p == n) xs ≡ 0
none_past n [] below = refl
none_past n (x ∷ xs) below = by (x == n) refl (none_past n xs below.1)
  where
    by : (b : Bool) → (x == n) ≡ b → count_by (λ p. p == n) xs ≡ 0 → count_by (λ p. p == n) (x ∷ xs) ≡ 0
    by true here rest = absurd (let same = same_of x n here in omega (arith, below.0, same))
    by false differ rest =
        let none : ◌≡◌ {A = ℕ} (cond (x == n) 1 0) 0 = ap (λ b. cond b 1 0) differ in
        omega (arith, none, count_cons n x xs, rest)

-- a number that is counted is below the bound
counted_below : (n : ℕ) (xs : List ℕ) (x : ℕ) → AreBelow n xs → 0 < count_by (λ p. p == x) xs → x < n
counted_below n [] x below some = absurd (omega arith)
counted_below n (y ∷ xs) x below some = by (y == x) refl (counted_below n xs x below.1)
  where
    by : (b : Bool) → (y == x) ≡ b → (0 < count_by (λ p. p == x) xs → x < n) → x < n
    by true here rest = let same = same_of y x here in omega (arith, same, below.0)
    by false differ rest =
        let none : ◌≡◌ {A = ℕ} (cond (y == x) 1 0) 0 = ap (λ b. cond b 1 0) differ in
        rest (omega (arith, some, none, count_cons x y xs))

module _ {T : Type 0} where
  -- ---- one row

  held : (rows : List T) (place : ℕ) → place < length rows → (x : T) × (slice_get rows place ≡ Some x)
  held [] place within = absurd (omega arith)
  held (x ∷ rows) zero within = (x, refl)
  held (x ∷ rows) (suc place) within = held rows place (omega arith)

  held-set_same : (rows : List T) (place : ℕ) (x : T) → place < length rows → slice_get (set rows place x) place ≡ Some x
  held-set_same [] place x within = absurd (omega arith)
  held-set_same (y ∷ rows) zero x within = refl
  held-set_same (y ∷ rows) (suc place) x within = held-set_same rows place x (omega arith)

  held-set_other : (rows : List T) (place other : ℕ) (x : T) → other ≢ place → slice_get (set rows place x) other ≡ slice_get rows other
  held-set_other [] place other x differ = refl
  held-set_other (y ∷ rows) zero zero x differ = absurd (differ refl)
  held-set_other (y ∷ rows) zero (suc other) x differ = refl
  held-set_other (y ∷ rows) (suc place) zero x differ = refl
  held-set_other (y ∷ rows) (suc place) (suc other) x differ = held-set_other rows place other x (λ same. differ (ap suc same))

  held-append : (rows more : List T) (place : ℕ) → place < length rows → slice_get (rows ++ more) place ≡ slice_get rows place
  held-append [] more place within = absurd (omega arith)
  held-append (y ∷ rows) more zero within = refl
  held-append (y ∷ rows) more (suc place) within = held-append rows more place (omega arith)

  held-end : (rows : List T) (x : T) → slice_get (rows ++ x ∷ []) (length rows) ≡ Some x
  held-end [] x = refl
  held-end (y ∷ rows) x = held-end rows x

  -- ---- the list

  pub length-listed : (rows : List T) (places : List ℕ) → AreBelow (length rows) places → length (listed rows places) ≡ length places
  length-listed rows [] below = refl
  length-listed rows (place ∷ places) below =
      let here = held rows place below.0 in
      let rest = length-listed rows places below.1 in
      rw here.1 (ap suc rest)

  pub listed_at : (rows : List T) (places : List ℕ) (k : ℕ) (d : T) → AreBelow (length rows) places → k < length places → get_or (listed rows places) k d ≡ get_or rows (get_or places k 0) d
  listed_at rows [] k d below within = absurd (omega arith)
  listed_at rows (place ∷ places) zero d below within =
      let here = held rows place below.0 in
      rw here.1 (sym (get_or_from_slice_get rows place here.0 d here.1))
  listed_at rows (place ∷ places) (suc k) d below within =
      let here = held rows place below.0 in
      rw here.1 (listed_at rows places k d below.1 (omega arith))

  same_rows : (old new : List T) (places : List ℕ) → ((place : ℕ) → 0 < count_by (λ p. p == place) places → slice_get new place ≡ slice_get old place) → listed new places ≡ listed old places
  same_rows old new [] same = refl
  same_rows old new (place ∷ places) same =
      let here = same place (omega (arith, counted_here place place places refl)) in
      let rest = same_rows old new places (λ p some. same p (omega (arith, count_cons p place places))) in
      λ i. in_front (here i) (rest i)

  listed-insert : (rows : List T) (places : List ℕ) (k place : ℕ) (x : T) → AreBelow (length rows) places → k ≤ length places → slice_get rows place ≡ Some x
      → listed rows (insert places k place) ≡ insert (listed rows places) k x
  listed-insert rows places zero place x below within is = ap (λ o. in_front o (listed rows places)) is
  listed-insert rows [] (suc k) place x below within is = absurd (omega arith)
  listed-insert rows (first ∷ places) (suc k) place x below within is =
      let here = held rows first below.0 in
      let rest = listed-insert rows places k place x below.1 (omega arith) is in
      rw (here.1, rest) refl

  pub listed-remove : (rows : List T) (places : List ℕ) (k : ℕ) → AreBelow (length rows) places → k < length places → listed rows (remove places k) ≡ remove (listed rows places) k
  listed-remove rows [] k below within = absurd (omega arith)
  listed-remove rows (first ∷ places) zero below within = let here = held rows first below.0 in rw here.1 refl
  listed-remove rows (first ∷ places) (suc k) below within =
      let here = held rows first below.0 in
      let rest = listed-remove rows places k below.1 (omega arith) in
      rw (here.1, rest) refl

  listed-set : (rows : List T) (places : List ℕ) (k : ℕ) (x : T) → AreBelow (length rows) places → ((place : ℕ) → count_by (λ p. p == place) places ≤ 1) → k < length places
      → listed (set rows (get_or places k 0) x) places ≡ set (listed rows places) k x
  listed-set rows [] k x below once within = absurd (omega arith)
  listed-set rows (place ∷ places) zero x below once within =
      let was = held rows place below.0 in
      let rest = same_rows rows (set rows place x) places (λ other some.
      held-set_other rows place other x (λ same. let two = counted_here place place places refl in let most = once place in
      let others : 0 < count_by (λ p. p == place) places = subst (λ n. 0 < count_by (λ p. p == n) places) same some in absurd (omega arith))) in
      rw (was.1, held-set_same rows place x below.0, rest) refl
  listed-set rows (first ∷ places) (suc k) x below once within =
      let was = held rows first below.0 in
      let place = get_or places k 0 in
      let some = counted_at places k (omega arith) in
      let differ : first ≢ place = λ same. let two = counted_here place first places same in let most = once place in absurd (omega arith) in
      let here = held-set_other rows place first x differ in
      let rest = listed-set rows places k x below.1 (λ p. let most = once p in omega (arith, count_cons p first places)) (omega arith) in
      rw (here, was.1, rest) refl

  -- ---- the functions

  pub placed_none : (room : ℕ) → ArePlaced {T = T} room [] [] []
  placed_none room = record { within = tt; free_within = tt; once = λ place. omega arith; counted = refl; fits = omega arith }

  pub seen : (room : ℕ) (rows : List T) (places : List ℕ) (list : Listing T) → ◌≡◌ {A = Listing T} (record { room = room; items = listed rows places }) list → length (listed rows places) ≡ length list.items
  seen room rows places list is = ap (λ (l : Listing T). length l.items) is

  module _ (room : ℕ) (rows : List T) (places free : List ℕ) (placed : ArePlaced room rows places free) where
    pub long : length (listed rows places) ≡ length places
    long = length-listed rows places placed.within

    -- what a read of the list reads
    pub place_is : (k p : ℕ) → k < length (listed rows places) → p ≡ get_or places k p → p ≡ get_or places k 0
    place_is k p within is = is ∙ get_or_default places k p 0 (omega (arith, within, long))

    pub element_is : (k p : ℕ) (x : T) → k < length (listed rows places) → p ≡ get_or places k p → x ≡ get_or rows p x → x ≡ get_or (listed rows places) k x
    element_is k p x within at is = is ∙ ap (λ n. get_or rows n x) (place_is k p within at) ∙ sym (listed_at rows places k x placed.within (omega (arith, within, long)))

    pub row_within : (k : ℕ) → k < length (listed rows places) → get_or places k 0 < length rows
    row_within k within = below_at (length rows) places k placed.within (omega (arith, long))

    -- a row that is written over
    pub written : (k : ℕ) (x : T) → k < length (listed rows places) → listed (set rows (get_or places k 0) x) places ≡ set (listed rows places) k x
    written k x within = listed-set rows places k x placed.within (λ place. let most = placed.once place in omega arith) (omega (arith, long))

    pub placed_written : (place : ℕ) (x : T) → ArePlaced room (set rows place x) places free
    placed_written place x =
        let same = length-set rows place x in record {
          within = rw same placed.within;
          free_within = rw same placed.free_within;
          once = placed.once;
          counted = omega (arith, placed.counted, same);
          fits = omega (arith, placed.fits, same);
        }

    -- an element that is taken out
    pub taken : (k : ℕ) → k < length (listed rows places) → listed rows (remove places k) ≡ remove (listed rows places) k
    taken k within = listed-remove rows places k placed.within (omega (arith, long))

    pub placed_taken : (k : ℕ) → k < length (listed rows places) → ArePlaced room rows (remove places k) (free ++ get_or places k 0 ∷ [])
    placed_taken k within =
        let there : k < length places = omega (arith, long) in
        let place = get_or places k 0 in
        record {
          within = below_remove (length rows) places k there placed.within;
          free_within = below_end (length rows) free place placed.free_within (row_within k within);
          once = λ p.
              let most = placed.once p in
              omega (arith, count_remove p places k there, count_end p free place, count_cons p place (remove places k), count_cons p place free);
          counted = omega (arith, placed.counted, length-remove places k there, length-append free (place ∷ []));
          fits = placed.fits;
        }

    -- an element that is put in
    module _ (value : T) (new : List T) (left : List ℕ) (place k : ℕ) (within : k ≤ length (listed rows places)) (less : length (listed rows places) < room) where
      there : k ≤ length places
      there = omega (arith, long)

      reused : free ≡ left ++ place ∷ [] → new ≡ set rows place value → ArePlaced room new (insert places k place) left × (listed new (insert places k place) ≡ insert (listed rows places) k value)
      reused was is =
          let free_below = below_ended (length rows) left place (subst (AreBelow (length rows)) was placed.free_within) in
          let same : length new ≡ length rows = ap length is ∙ length-set rows place value in
          let counts = λ (n : ℕ). ap (count_by (λ p. p == n)) was ∙ count_end n left place in
          let unused : count_by (λ p. p == place) places ≡ 0 = omega (arith, placed.once place, counts place, counted_here place place left refl) in
          let kept : listed new places ≡ listed rows places = same_rows rows new places (λ other some.
          ap (λ rs. slice_get rs other) is ∙ held-set_other rows place other value (λ level. let here : 0 < count_by (λ p. p == place) places = subst (λ n. 0 < count_by (λ p. p == n) places) level some in absurd (omega arith))) in
          let now_below : AreBelow (length new) places = rw same placed.within in (
            record {
              within = below_insert (length new) places k place there now_below (omega (arith, free_below.1, same));
              free_within = rw same free_below.0;
              once = λ n. let most = placed.once n in omega (arith, counts n, count_insert n places k place there, count_cons n place places, count_cons n place left);
              counted = omega (arith, placed.counted, same, length-insert places k place there, ap length was, length-append left (place ∷ []));
              fits = omega (arith, placed.fits, same);
            },
            listed-insert new places k place value now_below there (ap (λ rs. slice_get rs place) is ∙ held-set_same rows place value free_below.1) ∙ ap (λ xs. insert xs k value) kept,
          )

      grown : free ≡ [] → left ≡ [] → place ≡ length rows → new ≡ rows ++ value ∷ [] → ArePlaced room new (insert places k place) left × (listed new (insert places k place) ≡ insert (listed rows places) k value)
      grown none no_left last is =
          let longer : length new ≡ length rows + 1 = ap length is ∙ length-append rows (value ∷ []) in
          let unused : count_by (λ p. p == place) places ≡ 0 = subst (λ n. count_by (λ p. p == n) places ≡ 0) (sym last) (none_past (length rows) places placed.within) in
          let kept : listed new places ≡ listed rows places = same_rows rows new places (λ other some.
          ap (λ rs. slice_get rs other) is ∙ held-append rows (value ∷ []) other (counted_below (length rows) places other placed.within some)) in
          let now_below : AreBelow (length new) places = below_more (length rows) (length new) places (omega arith) placed.within in
          let all = ap length none in (
            record {
              within = below_insert (length new) places k place there now_below (omega (arith, last, longer));
              free_within = subst (AreBelow (length new)) (sym no_left) tt;
              once = λ n.
                  let most = placed.once n in
                  let nothing : count_by (λ p. p == n) left ≡ 0 = ap (count_by (λ p. p == n)) no_left in
                  elim (place == n) as (λ b. (place == n) ≡ b → count_by (λ p. p == n) (insert places k place) + count_by (λ p. p == n) left ≤ 1) [
                    | true ↦ λ here. let alone : count_by (λ p. p == n) places ≡ 0 = subst (λ m. count_by (λ p. p == m) places ≡ 0) (same_of place n here) unused in
                        let one : ◌≡◌ {A = ℕ} (cond (place == n) 1 0) 1 = ap (λ b. cond b 1 0) here in omega (arith, nothing, alone, one, count_insert n places k place there, count_cons n place places)
                    | false ↦ λ differ. let none_here : ◌≡◌ {A = ℕ} (cond (place == n) 1 0) 0 = ap (λ b. cond b 1 0) differ in omega (arith, most, nothing, none_here, count_insert n places k place there, count_cons n place places)
                  ] refl;
              counted = omega (arith, placed.counted, longer, length-insert places k place there, all, ap length no_left);
              fits = omega (arith, placed.counted, all, long, less, longer);
            },
            listed-insert new places k place value now_below there (ap (λ rs. slice_get rs place) is ∙ ap (slice_get (rows ++ value ∷ [])) last ∙ held-end rows value) ∙ ap (λ xs. insert xs k value) kept,
          )

      pub put_in : IsPut rows free value new left place → ArePlaced room new (insert places k place) left × (listed new (insert places k place) ≡ insert (listed rows places) k value)
      put_in (inl again) = reused again.0 again.1
      put_in (inr fresh) = grown fresh.0 fresh.1 fresh.2 fresh.3
