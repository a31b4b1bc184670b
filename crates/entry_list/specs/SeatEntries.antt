-- What contracts see of a seat's entries.
use Rattle.std.specs.Prelude.{◌≡◌, ◌+◌, ℕ, Bool, List, [], ◌∷◌, ◌++◌}
use Rattle.entry_list.specs.declared.kinds.Entry.{Entry}

-- the entries in order, for how many replies there is room, and whether they are recorded
pub record SeatEntriesView : Type 0 where
  pub items : List Entry
  pub room : ℕ
  pub recorded : Bool

-- this entry stands at the end, and took that much of the room
pub record Enters (entry : Entry) (much : ℕ) (old new : SeatEntriesView) : Type 0 where
  pub items : new.items ≡ old.items ++ entry ∷ []
  pub room : new.room + much ≡ old.room
  pub recorded : new.recorded ≡ old.recorded

-- the entries are as they were, whatever room is left
abbrev pub StaysEntered : (old new : SeatEntriesView) → Type 0
StaysEntered old new = (new.items ≡ old.items) × (new.recorded ≡ old.recorded)
