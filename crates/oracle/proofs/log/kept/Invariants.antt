use Rattle.std.proofs.Common.{◌≡◌, filter, take}
use Rattle.plain_store.specs.Log.{is_kept}
use Rattle.oracle.proofs.log.kept.Given as goal

abbrev pub invariant-loop-version : goal.invariant-loop-version
invariant-loop-version l = l.kept.items ≡ filter (is_kept l.log) (take l.version-index l.version-items)
