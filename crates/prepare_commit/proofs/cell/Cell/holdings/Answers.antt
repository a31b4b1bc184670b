use Rattle.std.proofs.Common.{◌≡◌, length, arith}
use Rattle.prepare_commit.proofs.HeldAfter.{counted_in}
use Rattle.prepare_commit.proofs.Lying.{lies_at}
use Rattle.prepare_commit.proofs.cell.Cell.holdings.Goals as goal

pub returns : goal.returns
returns c block lies =
    let cell = c.self.inside in
    let long : c.len-2.result ≡ length cell.marks.items = omega (arith, c.len-2.ensures, cell.marks.ok.0) in
    rw (← c.self.view_is) (counted_in block _ _ (lies_at block _ _ c.self.view_is lies) c.self.invariant.4 c.used.ensures c.len.ensures long)
