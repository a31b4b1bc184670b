use Rattle.std.proofs.Common.{◌≡◌, filter, map, nat_lt, take}
use Rattle.stamps.specs.Stamp.{client_of}
use Rattle.oracle.proofs.marks.marked.Given as goal

abbrev pub invariant-loop-stamp : goal.invariant-loop-stamp
invariant-loop-stamp l = l.clients.items ≡ map client_of (filter (nat_lt 0) (take l.stamp-index l.stamp-items))
