-- What the parts of an arena have of a live cell, and of the first free one.
use Rattle.std.proofs.Common.{◌≡◌, ℕ, zero, suc, ◌<◌, List, map, length, get_or, Option, Some, None, is_some, IsSome, IsNone, nat_lt, if◌then◌else◌, ◌⊎◌, inl, inr, true, false, true≢false, refl, sym, ap, subst, ◌∙◌, arith}
use Rattle.version_arena.specs.CellState.{CellState}
use Rattle.version_arena.specs.CellState as state
use Rattle.version_arena.specs.Cells.{ArenaCell, Free, Live, held_in, is_live, places, IsThreaded, IsFreeList}
use Rattle.version_arena.proofs.Places.{length-places, live_at, free_at, empty_at}
use Rattle.version_arena.proofs.Threading.{held_at, live_within, below_used, within_row, slot_here}

module _ {T : Type 0} where
  -- a live cell, with its value and the slot beside it
  pub record LiveCell (values : List (Option T)) (states : List CellState) (slot : ℕ) : Type 0 where
    pub value : T
    pub next : Option ℕ
    pub found : get_or (places values states) slot None ≡ Some (Live value next)
    pub entry : get_or (map held_in (places values states)) slot None ≡ Some (value, next)
    pub held : get_or values slot None ≡ Some value
    pub state_is : (other : CellState) → get_or states slot other ≡ state.Live next
    pub used : slot < length states
    pub within : slot < length values

  pub live_cell : (values : List (Option T)) (states : List CellState) (live : ℕ) (free : Option ℕ) (slot : ℕ) → IsThreaded (places values states) (length states) live free
      → IsSome (get_or (map held_in (places values states)) slot None) → LiveCell values states slot
  live_cell values states live free slot threaded some = by (get_or (places values states) slot None) refl
    where
      cells : List (Option (ArenaCell T))
      cells = places values states

      within : slot < length cells
      within = live_within cells slot some

      by : (place : Option (ArenaCell T)) → get_or cells slot None ≡ place → LiveCell values states slot
      by None is = absurd (true≢false (sym some ∙ ap is_some (held_at cells slot None within is)))
      by (Some (Free next)) is = absurd (true≢false (sym some ∙ ap is_some (held_at cells slot (Some (Free next)) within is)))
      by (Some (Live value next)) is =
          let used = below_used cells (length states) slot (Live value next) threaded.empty is in
          record {
            value = value;
            next = next;
            found = is;
            entry = held_at cells slot (Some (Live value next)) within is;
            held = (live_at values states slot value next (state.Live next) used is).0;
            state_is = λ other. (live_at values states slot value next other used is).1;
            used = used;
            within = omega (arith, within, length-places values states);
          }

  -- the first free cell, with the one that was freed before it
  pub record FreeCell (values : List (Option T)) (states : List CellState) (slot : ℕ) : Type 0 where
    pub next : Option ℕ
    pub found : get_or (places values states) slot None ≡ Some (Free next)
    pub entry : get_or (map held_in (places values states)) slot None ≡ None
    pub empty : get_or values slot None ≡ None
    pub state_is : (other : CellState) → get_or states slot other ≡ state.Free next
    pub used : slot < length states
    pub within : slot < length values

  pub free_cell : (values : List (Option T)) (states : List CellState) (live : ℕ) (free : Option ℕ) (slot : ℕ) → IsThreaded (places values states) (length states) live free → free ≡ Some slot
      → FreeCell values states slot
  free_cell values states live free slot threaded first = by_count threaded.free_count threaded.linked
    where
      cells : List (Option (ArenaCell T))
      cells = places values states

      by_count : (n : ℕ) → IsFreeList cells n free → FreeCell values states slot
      by_count zero linked = absurd cc
      by_count (suc n) linked =
          let named = linked.2 in
          let same : linked.0 ≡ slot = cc in
          let next = linked.1 in
          let is : get_or cells slot None ≡ Some (Free next) = ap (λ s. get_or cells s None) (sym same) ∙ linked.3 in
          let used = below_used cells (length states) slot (Free next) threaded.empty is in
          let within = within_row cells slot (Free next) is in
          record {
            next = next;
            found = is;
            entry = held_at cells slot (Some (Free next)) within is;
            empty = (free_at values states slot next (state.Free next) used is).0;
            state_is = λ other. (free_at values states slot next other used is).1;
            used = used;
            within = omega (arith, within, length-places values states);
          }

  -- a cell that was used is as its state says
  module _ (values : List (Option T)) (states : List CellState) (live : ℕ) (free : Option ℕ) (slot : ℕ) (other : CellState) (threaded : IsThreaded (places values states) (length states) live free) where
    pub live_if : slot < length states → is_live (get_or states slot other) ≡ true → IsSome (get_or (map held_in (places values states)) slot None)
    live_if used says = let cell = threaded.filled slot used in by cell.0 cell.1
      where
        by : (cell : ArenaCell T) → get_or (places values states) slot None ≡ Some cell → IsSome (get_or (map held_in (places values states)) slot None)
        by (Free next) is = absurd (true≢false (sym says ∙ ap is_live (free_at values states slot next other used is).1))
        by (Live value next) is = ap is_some (held_at (places values states) slot (Some (Live value next)) (within_row (places values states) slot (Live value next) is) is)

    pub not_live_if : is_live (get_or states slot other) ≡ false → IsSome (get_or (map held_in (places values states)) slot None) → ⊥
    not_live_if says some =
        let cell = live_cell values states live free slot threaded some in
        true≢false (sym (ap is_live (cell.state_is other)) ∙ says)

    -- a free one has no value
    pub empty_if : slot < length states → is_live (get_or states slot other) ≡ false → get_or values slot None ≡ None
    empty_if used says = let cell = threaded.filled slot used in by cell.0 cell.1
      where
        by : (cell : ArenaCell T) → get_or (places values states) slot None ≡ Some cell → get_or values slot None ≡ None
        by (Free next) is = (free_at values states slot next other used is).0
        by (Live value next) is = absurd (true≢false (sym (ap is_live (live_at values states slot value next other used is).1) ∙ says))

  -- a cell that the next value may come into
  pub record Room (values : List (Option T)) (states : List CellState) (slot : ℕ) : Type 0 where
    pub within : slot < length values
    pub empty : get_or values slot None ≡ None
    pub entry : get_or (map held_in (places values states)) slot None ≡ None

  pub room_at : (values : List (Option T)) (states : List CellState) (live : ℕ) (free : Option ℕ) (slot : ℕ) → IsThreaded (places values states) (length states) live free
      → (free ≡ Some slot) ⊎ ((free ≡ None) × (slot ≡ length states) × (slot < length values)) → Room values states slot
  room_at values states live free slot threaded (inl first) =
      let cell = free_cell values states live free slot threaded first in
      record { within = cell.within; empty = cell.empty; entry = cell.entry }
  room_at values states live free slot threaded (inr unused) =
      let none = threaded.empty slot (omega (arith, unused.1)) in record {
        within = unused.2;
        empty = empty_at values states slot (omega (arith, unused.1)) none;
        entry = held_at (places values states) slot None (omega (arith, unused.2, length-places values states)) none;
      }

-- which cell is the first free one
pub which_cell : (free found : Option ℕ) (used cap slot : ℕ) → (IsSome free → found ≡ free) → (IsNone free → found ≡ (if nat_lt used cap then Some used else None)) → found ≡ Some slot
    → (free ≡ Some slot) ⊎ ((free ≡ None) × (slot ≡ used) × (slot < cap))
which_cell (Some s) found used cap slot freed unused is = inl (sym (freed refl) ∙ is)
which_cell None found used cap slot freed unused is =
    let here = slot_here used cap slot (sym is ∙ unused refl) in inr (refl, here.0, omega (arith, here.0, here.1))

-- where a value is put
pub put_room : {T : Type 0} (values : List (Option T)) (states : List CellState) (live : ℕ) (free : Option ℕ) (slot used cap : ℕ) → IsThreaded (places values states) (length states) live free
    → used ≡ length states → cap ≡ length values → (IsSome free → Some slot ≡ free) → (IsNone free → Some slot ≡ (if nat_lt used cap then Some used else None)) → Room values states slot
put_room values states live free slot used cap threaded many long freed unused =
    room_at values states live free slot threaded
    (elim (which_cell free (Some slot) used cap slot freed unused refl) [ inl first ↦ inl first | inr last ↦ inr (last.0, last.1 ∙ many, omega (arith, last.2, long)) ])

pub none_if : (o : Option ℕ) → is_some o ≡ false → o ≡ None
none_if None is = refl
none_if (Some n) is = cc

-- where no cell was freed, a value is put behind those that were used
pub unused_at : {T : Type 0} (values : List (Option T)) (states : List CellState) (free : Option ℕ) (slot used cap : ℕ) → used ≡ length states → cap ≡ length values → free ≡ None
    → (IsNone free → Some slot ≡ (if nat_lt used cap then Some used else None)) → (slot ≡ length states) × (slot < length values)
unused_at values states free slot used cap many long none unused =
    let here = slot_here used cap slot (unused (subst (λ (o : Option ℕ). IsNone o) (sym none) refl)) in (here.0 ∙ many, omega (arith, here.0, here.1, long))
