use Rattle.std.proofs.Common.{◌≡◌, ◌≤◌, vec_len, vec_capacity}
use Rattle.std.specs.Prelude.{All}
use Rattle.world.specs.Opening.{IsOpenedShelf}
use Rattle.world.proofs.world.open_shelves.Given as goal

-- so many shelves are open, and there is room for the others
abbrev pub invariant-loop-place : goal.invariant-loop-place
invariant-loop-place l = record {
  opened : All (IsOpenedShelf l.limits) l.shelves.items;
  count : vec_len l.shelves ≡ l.place;
  room : l.parts ≤ vec_capacity l.shelves;
}
