use Rattle.std.proofs.Common.{◌≡◌, vec_len}
use Rattle.server_verdicts.proofs.epochs.checker.unchecked_row.Given as goal

abbrev pub invariant-loop-of_tenant : goal.invariant-loop-of_tenant
invariant-loop-of_tenant l = vec_len l.row ≡ l.of_tenant-index
