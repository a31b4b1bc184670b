-- The entries of a part, of each the bytes of its key and its floor.
use Rattle.std.specs.Prelude.{ℕ, List, [], ◌∷◌}
use Rattle.std.specs.List.{AllByRecursion}
use Rattle.stamps.specs.Key.{IsKey}
use Rattle.prepare_commit.specs.declared.items.KnownItem.{KnownItem}

-- each is a key
abbrev pub AreKeys : List (List ℕ) → Type 0
AreKeys = AllByRecursion IsKey

-- each key with the floor at its place
abbrev pub with_floors : List (List ℕ) → List ℕ → List KnownItem
with_floors [] floors = []
with_floors (k ∷ keys) [] = []
with_floors (k ∷ keys) (f ∷ floors) = record { key = k; floor = f } ∷ with_floors keys floors
