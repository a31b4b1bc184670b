-- Places, each empty or holding a value. No public clause cites this module.
use Rattle.std.specs.Prelude.{◌≡◌, ℕ, List, get_or, Option, Some, None}

module _ {C : Type 0} where
  -- the place holds a value
  abbrev pub IsFilled : List (Option C) → ℕ → Type 0
  IsFilled places index = (value : C) × (get_or places index None ≡ Some value)
