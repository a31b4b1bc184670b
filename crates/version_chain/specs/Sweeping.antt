-- When the list of the kept versions is swept. No public clause cites this module.
use Rattle.std.specs.Prelude.{ℕ, ◌+◌, ◌*◌, ◌<◌, ◌≤◌, List, length}
use Rattle.version_chain.specs.declared.stamp_list.Kept.{Kept}

-- the list has room for one more, and at most 64 versions more than twice those that are held
abbrev pub IsShort : ℕ → ℕ → List Kept → Type 0
IsShort held room kept = (length kept < room) × (length kept ≤ 2 * held + 64)
