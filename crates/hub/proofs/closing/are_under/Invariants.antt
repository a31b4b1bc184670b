use Rattle.std.proofs.Common.{◌≡◌, map, take}
use Rattle.hub.proofs.closing.are_under.Given as goal

-- the limits are the same so far
abbrev pub invariant-loop-tenant : goal.invariant-loop-tenant
invariant-loop-tenant l = map (λ journal. journal.limits) (take l.tenant l.journals) ≡ take l.tenant l.limits
