-- The cells of an arena, of which each has a value or none, and a state once it was used.
use Rattle.std.proofs.Common.{◌≡◌, ℕ, zero, suc, ◌<◌, ◌≤◌, List, [], ◌∷◌, ◌++◌, length, get_or, set, replicate, Option, Some, None, refl, ap, arith}
use Rattle.version_arena.specs.CellState.{CellState}
use Rattle.version_arena.specs.CellState as state
use Rattle.version_arena.specs.Cells.{Free, Live, cell_of, unused, places}

module _ {T : Type 0} where
  pub length-places : (values : List (Option T)) (states : List CellState) → length (places values states) ≡ length values
  length-places [] states = refl
  length-places (value ∷ values) [] = ap suc (length-places values [])
  length-places (value ∷ values) (one ∷ states) = ap suc (length-places values states)

  -- ---- writes

  -- a value and a state are written at a cell that was used
  pub places-set : (values : List (Option T)) (states : List CellState) (i : ℕ) (value : Option T) (one : CellState) → i < length states
      → places (set values i value) (set states i one) ≡ set (places values states) i (cell_of value one)
  places-set [] states i value one within = refl
  places-set (v ∷ values) [] i value one within = absurd (omega (arith, within))
  places-set (v ∷ values) (s ∷ states) zero value one within = refl
  places-set (v ∷ values) (s ∷ states) (suc i) value one within = ap (λ cells. cell_of v s ∷ cells) (places-set values states i value one (omega (arith, within)))

  -- a cell that was never used gets a value and a state
  pub places-push : (values : List (Option T)) (states : List CellState) (i : ℕ) (value : Option T) (one : CellState) → i ≡ length states → i < length values
      → places (set values i value) (states ++ one ∷ []) ≡ set (places values states) i (cell_of value one)
  places-push [] states i value one at within = absurd (omega (arith, within))
  places-push (v ∷ values) [] zero value one at within = refl
  places-push (v ∷ values) [] (suc i) value one at within = absurd (omega (arith, at))
  places-push (v ∷ values) (s ∷ states) zero value one at within = absurd (omega (arith, at))
  places-push (v ∷ values) (s ∷ states) (suc i) value one at within =
      ap (λ cells. cell_of v s ∷ cells) (places-push values states i value one (omega (arith, at)) (omega (arith, within)))

  -- a live cell gets another slot beside its value
  pub places-next : (values : List (Option T)) (states : List CellState) (i : ℕ) (v : T) (after : Option ℕ) → i < length states → get_or values i None ≡ Some v
      → places values (set states i (state.Live after)) ≡ set (places values states) i (Some (Live v after))
  places-next [] states i v after within is = absurd cc
  places-next (w ∷ values) [] i v after within is = absurd (omega (arith, within))
  places-next (w ∷ values) (s ∷ states) zero v after within is = ap (λ (o : Option T). cell_of o (state.Live after) ∷ places values states) is
  places-next (w ∷ values) (s ∷ states) (suc i) v after within is = ap (λ cells. cell_of w s ∷ cells) (places-next values states i v after (omega (arith, within)) is)

  -- ---- reads

  live_parts : (value : Option T) (one : CellState) (v : T) (next : Option ℕ) → cell_of value one ≡ Some (Live v next) → (value ≡ Some v) × (one ≡ state.Live next)
  live_parts None (state.Free n) v next is = absurd cc
  live_parts None (state.Live n) v next is = absurd cc
  live_parts (Some w) (state.Free n) v next is = absurd cc
  live_parts (Some w) (state.Live n) v next is = (cc, cc)

  free_parts : (value : Option T) (one : CellState) (next : Option ℕ) → cell_of value one ≡ Some (Free next) → (value ≡ None) × (one ≡ state.Free next)
  free_parts None (state.Free n) next is = (refl, cc)
  free_parts None (state.Live n) next is = absurd cc
  free_parts (Some w) (state.Free n) next is = absurd cc
  free_parts (Some w) (state.Live n) next is = absurd cc

  -- a live cell has its value and its state
  pub live_at : (values : List (Option T)) (states : List CellState) (i : ℕ) (v : T) (next : Option ℕ) (other : CellState) → i < length states → get_or (places values states) i None ≡ Some (Live v next)
      → (get_or values i None ≡ Some v) × (get_or states i other ≡ state.Live next)
  live_at [] states i v next other within is = absurd cc
  live_at (w ∷ values) [] i v next other within is = absurd (omega (arith, within))
  live_at (w ∷ values) (s ∷ states) zero v next other within is = live_parts w s v next is
  live_at (w ∷ values) (s ∷ states) (suc i) v next other within is = live_at values states i v next other (omega (arith, within)) is

  -- a live cell gets another value
  pub places-value : (values : List (Option T)) (states : List CellState) (i : ℕ) (v : T) (next : Option ℕ) (w : T) → i < length states → get_or (places values states) i None ≡ Some (Live v next)
      → places (set values i (Some w)) states ≡ set (places values states) i (Some (Live w next))
  places-value [] states i v next w within is = absurd cc
  places-value (x ∷ values) [] i v next w within is = absurd (omega (arith, within))
  places-value (x ∷ values) (s ∷ states) zero v next w within is = ap (λ (one : CellState). cell_of (Some w) one ∷ places values states) (live_parts x s v next is).1
  places-value (x ∷ values) (s ∷ states) (suc i) v next w within is = ap (λ cells. cell_of x s ∷ cells) (places-value values states i v next w (omega (arith, within)) is)

  -- a free cell has no value
  pub free_at : (values : List (Option T)) (states : List CellState) (i : ℕ) (next : Option ℕ) (other : CellState) → i < length states → get_or (places values states) i None ≡ Some (Free next)
      → (get_or values i None ≡ None) × (get_or states i other ≡ state.Free next)
  free_at [] states i next other within is = absurd cc
  free_at (w ∷ values) [] i next other within is = absurd (omega (arith, within))
  free_at (w ∷ values) (s ∷ states) zero next other within is = free_parts w s next is
  free_at (w ∷ values) (s ∷ states) (suc i) next other within is = free_at values states i next other (omega (arith, within)) is

  no_value : (value : Option T) → unused value ≡ None → value ≡ None
  no_value None is = refl
  no_value (Some v) is = absurd cc

  -- a place that was never used has no value
  pub empty_at : (values : List (Option T)) (states : List CellState) (i : ℕ) → length states ≤ i → get_or (places values states) i None ≡ None → get_or values i None ≡ None
  empty_at [] states i behind is = refl
  empty_at (w ∷ values) [] zero behind is = no_value w is
  empty_at (w ∷ values) [] (suc i) behind is = empty_at values [] i (omega arith) is
  empty_at (w ∷ values) (s ∷ states) zero behind is = absurd (omega (arith, behind))
  empty_at (w ∷ values) (s ∷ states) (suc i) behind is = empty_at values states i (omega (arith, behind)) is

  -- ---- none

  pub places-empty : (count : ℕ) → places (replicate {A = Option T} count None) [] ≡ replicate count None
  places-empty zero = refl
  places-empty (suc count) = ap (λ cells. None ∷ cells) (places-empty count)
