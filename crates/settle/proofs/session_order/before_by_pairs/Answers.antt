use Rattle.std.proofs.Common.{◌+◌, ◌++◌, [], ◌∷◌, length, length-append, ap, sym, ◌∙◌, subst}
use Rattle.settle.specs.Sessions.{IsOfTenant, IsLastBefore, EachBefore}
use Rattle.settle.proofs.Passing.{each_pushed_to}
use Rattle.settle.proofs.session_order.before_by_pairs.Goals as goal

pub loop-place-preserved : goal.loop-place-preserved
loop-place-preserved c =
    let ts = c.args.transcripts.now in
    let befores = c.loop-place.before.items in
    let pushed = c.push_reserved.ensures.items ∙ ap (λ items. items ++ c.last_before.result ∷ []) c.reserve.ensures.items in record {
      sized = ap length pushed ∙ length-append befores (c.last_before.result ∷ []) ∙ ap (λ n. n + 1) c.loop-place.invariant.sized;
      each = subst (EachBefore ts c.args.tenant (length ts)) (sym pushed)
          (each_pushed_to ts c.args.tenant (length ts) befores c.last_before.result c.loop-place.invariant.each
          (λ t its. subst (λ n. IsLastBefore ts c.args.tenant (length ts) n t c.last_before.result) (sym c.loop-place.invariant.sized)
          (c.last_before.ensures t (subst (λ n. IsOfTenant ts c.args.tenant n t) c.loop-place.invariant.sized its))));
    }
