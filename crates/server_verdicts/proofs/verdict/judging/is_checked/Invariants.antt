use Rattle.std.proofs.Common.{◌≡◌, ℕ, ◌<◌, Some, slice_get}
use Rattle.std.specs.Global.{Vec}
use Rattle.server_verdicts.specs.declared.epochs.ending.Ending.{Ending}
use Rattle.server_verdicts.specs.Judged.{IsRightIn}
use Rattle.server_verdicts.proofs.verdict.judging.is_checked.Given as goal

abbrev pub invariant-loop-row : goal.invariant-loop-row
invariant-loop-row l =
    (partition : ℕ) (row : Vec Ending) → partition < l.row-index → slice_get l.rows.items partition ≡ Some row → IsRightIn l.limits l.tenant row
