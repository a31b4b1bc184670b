use Rattle.std.proofs.Common.{sym, subst}
use Rattle.tenant_sessions.specs.Parts.{AreApart, batch_calls}
use Rattle.tenant_sessions.proofs.Placed.{prepares_apart}
use Rattle.tenant_sessions.proofs.waiting.Waiting.prepare.Goals as goal

pub invariant_of-self : goal.invariant_of-self
invariant_of-self c = (
  c.requires.parts,
  c.fill_all.ensures.within,
  c.fill_all.ensures.once,
  λ yes.
      subst (λ part. AreApart (batch_calls c.args.parts part)) (sym (c.prepare-is_made.ensures.made yes))
      (prepares_apart c.args.parts c.args.stamp c.args.items.now (c.prepare-is_made.ensures.exact.0 yes).distinct),
)
