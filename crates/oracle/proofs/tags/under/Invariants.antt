use Rattle.std.proofs.Common.{◌≡◌, filter, take}
use Rattle.plain_store.specs.Tags.{is_under}
use Rattle.oracle.proofs.tags.under.Given as goal

abbrev pub invariant-loop-key : goal.invariant-loop-key
invariant-loop-key l = l.under.items ≡ filter (is_under l.log l.tag) (take l.key-index l.key-items)
