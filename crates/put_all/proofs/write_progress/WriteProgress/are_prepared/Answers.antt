use Rattle.std.proofs.Common.{◌==◌, ap, ◌∙◌}
use Rattle.std.specs.List.{list_all}
use Rattle.put_all.specs.declared.write_progress.ItemProgress.{ItemProgress}
use Rattle.put_all.proofs.CountAwaited.{none_awaited}
use Rattle.put_all.proofs.write_progress.WriteProgress.are_prepared.Goals as goal

pub returns : goal.returns
returns c =
    ap (λ n. n == 0) c.self.invariant.1 ∙ none_awaited c.self.inside.places
    ∙ ap (list_all (λ (place : ItemProgress). place.is_prepared)) c.self.view_is
