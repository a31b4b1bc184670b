use Rattle.std.proofs.Common.{◌≡◌, take}
use Rattle.plain_store.specs.Tenants.{store_answers}
use Rattle.oracle.proofs.tenants.oracle_run.Given as goal

abbrev pub invariant-loop-tenant : goal.invariant-loop-tenant
invariant-loop-tenant l = l.answers.items ≡ store_answers l.partitions (take l.tenant l.limits) l.steps
