-- For `Cell`, all its calls. What its condition says of its own parts.
use Rattle.std.proofs.Common.{◌≡◌, ℕ, ◌<◌, ◌≤◌, length, get_or, ap, sym, subst, arith}
use Rattle.version_chain.specs.Chain.{Cells}
use Rattle.prepare_commit.specs.declared.items.ChainedItem.{ChainedItem}
use Rattle.prepare_commit.specs.InBlock.{Parts, LiesIn}
use Rattle.prepare_commit.specs.Layout.{held_in, chain_lists, HaveAll}

pub lies_at : (block : Cells) (inside now : Parts) → inside ≡ now → LiesIn block now → LiesIn block inside
lies_at block inside now view lies = subst (LiesIn block) (sym view) lies

module _ (block : Cells) (cell : Parts) (lies : LiesIn block cell) (few : length cell.items ≤ cell.room.items) where
  -- the items' chains have all versions
  pub has_all : HaveAll cell.items (held_in block cell.chains)
  has_all = record { laid = lies.holds.laid; within = omega (arith, few, lies.holds.chains); counted = lies.holds.counted }

  -- an item's chain is one of those that there are
  pub in_range : (place : ℕ) (i : ChainedItem) → place < length cell.items → i ≡ get_or cell.items place i → i.chain < length (chain_lists block cell.chains)
  in_range place i within is =
      let given = lies.holds.laid.given place i within in
      omega (arith, given, ap (λ (x : ChainedItem). x.chain) is, few, lies.holds.chains)
