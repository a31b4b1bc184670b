use Rattle.std.proofs.Common.{◌≡◌, ◌≤◌, ◌-◌, length}
use Rattle.shard.specs.Held.{StaysAt}
use Rattle.shard.specs.Rounds.{AreFewer, long_among}
use Rattle.shard.proofs.epoch_cut.Search.cut_next.Given as goal

-- nothing was cut so far, what was passed over is short, where all could be cut, and what could not is counted
abbrev pub invariant-loop-tenant : goal.invariant-loop-tenant
invariant-loop-tenant g l = record {
  book : l.state.book.accounts ≡ l.fn.state.book.accounts;
  stays : StaysAt l.fn.state l.state;
  from : l.self.from ≡ l.fn.self.from;
  over : l.self.is_over ≡ l.fn.self.is_over;
  passed : l.refused ≡ 0 → AreFewer l.least l.fn.state.book.accounts l.fn.self.from l.tenant;
  few : l.refused ≤ l.tenant;
  within : l.tenant - l.fn.self.from ≤ length l.fn.state.book.accounts - l.fn.self.from;
  counted : l.refused ≡ long_among l.least l.fn.state.book.accounts l.fn.self.from (l.tenant - l.fn.self.from);
}
