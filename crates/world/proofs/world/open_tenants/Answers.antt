use Rattle.std.proofs.Common.{[], map, take, sym, ap, ◌∙◌, subst, arith}
use Rattle.std.specs.Prelude.{All}
use Rattle.plain_store.specs.Words.{setup_of}
use Rattle.world.specs.declared.tenant.Tenant.{Tenant}
use Rattle.world.specs.Opening.{IsFresh}
use Rattle.world.specs.Standing.{TenantStandsFor}
use Rattle.world.proofs.Results.{take_one}
use Rattle.std.proofs.lemmas.List.Elements.{All-push}
use Rattle.world.proofs.Opening.{limits-push}
use Rattle.world.proofs.world.open_tenants.Goals as goal

pub loop-its-preserved : goal.loop-its-preserved
loop-its-preserved c =
    let i = c.loop-its.its-index in
    let limits = c.args.limits.now in
    let tenant = c.in_ok-open.field-0 in
    let own = c.in_ok-open.ensures.limits in
    record {
      own = ap (map (λ (t : Tenant). t.limits)) c.push_reserved.ensures.items ∙ limits-push c.loop-its.tenants.items tenant (take i limits) c.its-item.result c.loop-its.invariant.own own
          ∙ sym (take_one limits i c.its-item.result c.loop-its-test.true c.its-item.is);
      fresh = subst (All (IsFresh c.args.parts)) (sym c.push_reserved.ensures.items) (All-push (IsFresh c.args.parts) c.loop-its.tenants.items tenant c.loop-its.invariant.fresh
          (record { stands = subst (λ its. TenantStandsFor (setup_of c.args.parts its) [] tenant) (sym own) c.in_ok-open.ensures.stands }));
      count = omega (arith, c.push_reserved.ensures.len, c.loop-its.invariant.count);
      room = omega (arith, c.push_reserved.ensures.capacity, c.loop-its.invariant.room);
    }
