use Rattle.std.proofs.Common.{ap, sym, ◌∙◌, subst, refl}
use Rattle.put_all.specs.WriteProgress.{AreApart, count_awaited, with_committed}
use Rattle.put_all.proofs.CountAwaited.{as_many}
use Rattle.put_all.proofs.OnePlace.{still_apart}
use Rattle.put_all.proofs.write_progress.WriteProgress.mark_committed.Goals as goal

pub invariant_of-self : goal.invariant_of-self
invariant_of-self c =
    let placed = c.take_committed_of.ensures.places in (
      subst AreApart (sym placed) (still_apart (with_committed c.args.partition) (λ place. refl) c.self.inside.places c.self.invariant.0),
      c.self.invariant.1 ∙ sym (ap count_awaited placed ∙ as_many c.args.partition c.self.inside.places),
    )
