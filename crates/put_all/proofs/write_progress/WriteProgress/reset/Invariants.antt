use Rattle.std.proofs.Common.{◌≡◌, map, take}
use Rattle.stamps.specs.declared.record.Item.{Item}
use Rattle.put_all.specs.WriteProgress.{place_for}
use Rattle.put_all.proofs.write_progress.WriteProgress.reset.Given as goal

-- the places so far are those of the items so far
abbrev pub invariant-loop-item : goal.invariant-loop-item
invariant-loop-item l = l.self-inside.places ≡ map (λ (item : Item). place_for l.parts item.key) (take l.item-index l.items)
