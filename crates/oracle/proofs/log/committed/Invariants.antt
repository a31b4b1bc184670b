use Rattle.std.proofs.Common.{◌≡◌, ◌&&◌, map, filter, take, bytes_eq}
use Rattle.stamps.specs.Record.{Record}
use Rattle.plain_store.specs.Log.{is_committed}
use Rattle.oracle.proofs.log.committed.Given as goal

abbrev pub invariant-loop-version : goal.invariant-loop-version
invariant-loop-version l =
    l.stamps.items ≡ map (λ (v : Record). v.stamp) (filter (λ (v : Record). bytes_eq v.key l.key && is_committed l.log v.key v.stamp) (take l.version-index l.version-items))
