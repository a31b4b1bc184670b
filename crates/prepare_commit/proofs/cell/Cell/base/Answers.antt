use Rattle.std.proofs.Common.{subst}
use Rattle.prepare_commit.specs.Begun.{HasRoomAt}
use Rattle.prepare_commit.specs.InBlock.{Parts}
use Rattle.prepare_commit.specs.Layout.{chain_lists}
use Rattle.prepare_commit.specs.Spots.{begun_by}
use Rattle.prepare_commit.proofs.Lying.{lies_at}
use Rattle.prepare_commit.proofs.Retiring.{room_at_end}
use Rattle.prepare_commit.proofs.cell.Cell.base.Goals as goal

pub base_at-requires-clause-free : goal.base_at-requires-clause-free
base_at-requires-clause-free c =
    let block = c.args.block.now in
    let cell = c.self.inside in
    let lies = lies_at block _ _ c.self.view_is c.requires.lies in
    subst (λ (p : Parts). HasRoomAt p.begun p.since p.items c.len.result) c.self.view_is
    (room_at_end (begun_by cell.last_base) cell.last_base.since cell.entries.items (chain_lists block cell.versions.chains) lies.since c.len.result c.len.ensures)
