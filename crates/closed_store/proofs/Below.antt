-- What holds of each element that a loop has passed.
use Rattle.std.proofs.Common.{◌≡◌, ◌⊎◌, inl, inr, ℕ, ◌+◌, ◌<◌, ◌≤◌, List, length, set, get_or-set_same, get_or-set_other, Option, Some, None, refl, sym, ap, ◌∙◌, subst, arith}
use Rattle.std.specs.Prelude.{slice_get}
use Rattle.std.specs.Global.{Vec}
use Rattle.std.proofs.lemmas.Option.{same_Some, slice_get_within, slice_get-get_or, slice_get_past}
use Rattle.std.proofs.lemmas.List.{length-set}
use Rattle.std.proofs.lemmas.Bool.{cases_lt}
use Rattle.partition.specs.declared.journal.Journal.{Journal}
use Rattle.closed_store.specs.Joins.{DoRise, AllRise, journal_in}

abbrev pub EachBelow : {A : Type 0} → (A → Type 0) → List A → ℕ → Type 0
EachBelow {A} P xs n = (place : ℕ) (x : A) → place < n → slice_get xs place ≡ Some x → P x

pub each_none : {A : Type 0} (P : A → Type 0) (xs : List A) → EachBelow P xs 0
each_none P xs place x under at = absurd (omega (arith, under))

pub each_more : {A : Type 0} (P : A → Type 0) (xs : List A) (k : ℕ) (x : A) → slice_get xs k ≡ Some x → P x → EachBelow P xs k → EachBelow P xs (k + 1)
each_more {A} P xs k x here holds below place y under at = go (cases_lt place k)
  where
    go : (place < k) ⊎ (k ≤ place) → P y
    go (inl less) = below place y less at
    go (inr from) =
        let here_is : place ≡ k = omega (arith, under, from) in
        subst P (same_Some x y (sym here ∙ ap (slice_get xs) (sym here_is) ∙ at)) holds

pub each_all : {A : Type 0} (P : A → Type 0) (xs : List A) (n : ℕ) → length xs ≤ n → EachBelow P xs n → (place : ℕ) (x : A) → slice_get xs place ≡ Some x → P x
each_all P xs n long below place x at =
    let within = slice_get_within xs place x at in below place x (omega (arith, long, within)) at

-- ---- a list whose elements are written in turn

-- each element below a place has become one that stands so to it, and the others are as they were
pub record AreDone {A : Type 0} (To : ℕ → A → A → Type 0) (old now : List A) (n : ℕ) : Type 0 where
  pub done : (place : ℕ) (x : A) → place < n → slice_get old place ≡ Some x → (y : A) × (slice_get now place ≡ Some y) × To place x y
  pub left : (place : ℕ) → n ≤ place → slice_get now place ≡ slice_get old place

pub done_none : {A : Type 0} (To : ℕ → A → A → Type 0) (old : List A) → AreDone To old old 0
done_none To old = record {
  done = λ place x under at. absurd (omega (arith, under));
  left = λ place from. refl;
}

pub slice_get-set_same : {A : Type 0} (xs : List A) (i : ℕ) (y : A) → i < length xs → slice_get (set xs i y) i ≡ Some y
slice_get-set_same xs i y h = slice_get-get_or (set xs i y) i y (omega (arith, h, length-set xs i y)) ∙ ap Some (get_or-set_same xs i y y h)

pub slice_get-set_other : {A : Type 0} (xs : List A) (i j : ℕ) (y : A) → (j ≡ i → ⊥) → slice_get (set xs i y) j ≡ slice_get xs j
slice_get-set_other xs i j y apart = go (cases_lt j (length xs))
  where
    go : (j < length xs) ⊎ (length xs ≤ j) → slice_get (set xs i y) j ≡ slice_get xs j
    go (inl h) =
        slice_get-get_or (set xs i y) j y (omega (arith, h, length-set xs i y)) ∙ ap Some (get_or-set_other xs i j y y apart) ∙ sym (slice_get-get_or xs j y h)
    go (inr h) = slice_get_past (set xs i y) j (omega (arith, h, length-set xs i y)) ∙ sym (slice_get_past xs j h)

module _ {A : Type 0} (To : ℕ → A → A → Type 0) (old now : List A) (k : ℕ) (x y : A) (within : k < length now) (here : slice_get now k ≡ Some x) (to : To k x y) where
  pub done_more : AreDone To old now k → AreDone To old (set now k y) (k + 1)
  done_more are = record {
    done = λ place z under at. go place z under at (cases_lt place k);
    left = λ place from. slice_get-set_other now k place y (λ same. omega (arith, from, same)) ∙ are.left place (omega (arith, from));
  }
    where
      go : (place : ℕ) (z : A) → place < k + 1 → slice_get old place ≡ Some z → (place < k) ⊎ (k ≤ place) → (w : A) × (slice_get (set now k y) place ≡ Some w) × To place z w
      go place z under at (inl less) =
          let was = are.done place z less at in
          (was.0, slice_get-set_other now k place y (λ same. omega (arith, less, same)) ∙ was.1, was.2)
      go place z under at (inr from) =
          let is : place ≡ k = omega (arith, under, from) in
          let same : x ≡ z = same_Some x z (sym here ∙ are.left k (omega arith) ∙ ap (slice_get old) (sym is) ∙ at) in
          (y, ap (slice_get (set now k y)) is ∙ slice_get-set_same now k y within, subst (λ p. To p z y) (sym is) (subst (λ (v : A). To k v y) same to))

pub done_all : {A : Type 0} (To : ℕ → A → A → Type 0) (old now : List A) (n : ℕ) → length old ≤ n → AreDone To old now n
    → (place : ℕ) (x : A) → slice_get old place ≡ Some x → (y : A) × (slice_get now place ≡ Some y) × To place x y
done_all To old now n long are place x at =
    let within = slice_get_within old place x at in are.done place x (omega (arith, long, within)) at

-- ---- rows of journals

abbrev pub AllOfRow : List Journal → Type 0
AllOfRow row = (tenant : ℕ) (journal : Journal) → slice_get row tenant ≡ Some journal → DoRise journal.events.items

abbrev pub RowRises : Vec Journal → Type 0
RowRises row = AllOfRow row.items

in_row : (found : Option (Vec Journal)) (tenant : ℕ) (journal : Journal) → journal_in found tenant ≡ Some journal
    → (row : Vec Journal) × (found ≡ Some row) × (slice_get row.items tenant ≡ Some journal)
in_row None tenant journal at = absurd (cc)
in_row (Some row) tenant journal at = (row, refl, at)

pub rows_rise : (rows : List (Vec Journal)) (n : ℕ) → length rows ≤ n → EachBelow RowRises rows n → AllRise rows
rows_rise rows n long below partition tenant journal at =
    let found = in_row (slice_get rows partition) tenant journal at in
    each_all RowRises rows n long below partition found.0 found.1 tenant journal found.2

pub row_rises_of : (rows : List (Vec Journal)) (k : ℕ) (row : Vec Journal) → slice_get rows k ≡ Some row → AllRise rows → RowRises row
row_rises_of rows k row here all tenant journal at = all k tenant journal (ap (λ (o : Option (Vec Journal)). journal_in o tenant) here ∙ at)
