use Rattle.std.proofs.Common.{◌≡◌, ◌∙◌, [], take_all, ap}
use Rattle.plain_store.specs.Tenants.{store_answers}
use Rattle.oracle.proofs.Merging.{isolated, no_tenants}
use Rattle.oracle.proofs.tenants.oracle_run.Goals as goal

pub loop-tenant-init : goal.loop-tenant-init
loop-tenant-init c = c.in_ok-answers.ensures ∙ no_tenants c.args.partitions [] c.args.steps.now

pub returns-clause-isolated : goal.returns-clause-isolated
returns-clause-isolated c =
    let limits = c.args.limits.now in
    let whole : c.loop-tenant.answers.items ≡ store_answers c.args.partitions limits c.args.steps.now =
    c.loop-tenant.invariant ∙ ap (λ some. store_answers c.args.partitions some c.args.steps.now) (take_all c.loop-tenant.tenant limits c.loop-tenant-test.false) in
    λ tenant its there. rw whole (isolated c.args.partitions limits c.args.steps.now tenant its there)
