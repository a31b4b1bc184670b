use Rattle.std.proofs.Common.{◌≡◌, ◌+◌, ◌<◌, ◌&&◌, length, ap, subst, sym, arith, ◌∙◌}
use Rattle.std.proofs.lemmas.Result.{err_from_is_err_and}
use Rattle.std.specs.Prelude.{min}
use Rattle.server_verdicts.proofs.ToldVerdicts.{TellsFirst, breaks_off, none_told, one_more}
use Rattle.server_verdicts.proofs.verdict.tell_all.Goals as goal
use Rattle.server_verdicts.proofs.verdict.tell_all.Goals.{then-all_yes, else-all_yes}

pub loop-tenant-init : goal.loop-tenant-init
loop-tenant-init g c = none_told _ _ _ _

pub loop-tenant-preserved : goal.loop-tenant-preserved
loop-tenant-preserved g c =
    let both : (c.loop-tenant.all_yes && c.in_ok-yes.yes) ≡ c.if-all_yes.all_yes = elim c.if-all_yes.branch [
      | then-all_yes w ↦ ap (λ b. b && c.in_ok-yes.yes) w.if-all_yes.true ∙ sym w.all_yes-is
      | else-all_yes w ↦ ap (λ b. b && c.in_ok-yes.yes) w.if-all_yes.false ∙ sym w.if-all_yes.false ∙ sym w.all_yes-is
    ] in
    let more = one_more _ _ _ _ _ _ _ _ _ _ c.loop-tenant.invariant c.name_at-name.ensures c.in_ok-yes.ensures.verdict c.in_ok-yes.ensures.line in
    subst (λ b. TellsFirst (g.J.Judge.is_verdict c.args.judge.now) c.args.word.now c.args.names.now (c.loop-tenant.tenant + 1) b (g.W.Write.contents c.args.writer.now) (g.W.Write.contents c.tell_verdict.new.writer)) both more

pub returns-in_err-yes : goal.returns-in_err-yes
returns-in_err-yes g c =
    let few : c.loop-tenant.tenant < min c.args.tenants (length c.args.names.now) = omega (arith, c.loop-tenant-test.true, c.min-tenant-end.ensures) in
    let p = err_from_is_err_and c.from_residual.result c.from_residual.ensures.1 in
    rw (p.1, p.2) (breaks_off (g.J.Judge.is_verdict c.args.judge.now) c.args.word.now c.args.tenants c.args.names.now c.loop-tenant.tenant c.loop-tenant.all_yes (g.W.Write.contents c.args.writer.now) (g.W.Write.contents c.loop-tenant.writer) (g.W.Write.contents c.tell_verdict.new.writer)
    c.name_at-name.result c.in_err-yes.field-0.0 c.loop-tenant.invariant c.name_at-name.ensures few c.in_err-yes.ensures.fault)
