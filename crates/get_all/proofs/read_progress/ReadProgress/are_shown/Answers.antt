use Rattle.std.proofs.Common.{◌==◌, ap, ◌∙◌}
use Rattle.std.specs.List.{list_all}
use Rattle.get_all.specs.ReadProgress.{has_first}
use Rattle.get_all.proofs.CountUnshown.{none_unshown}
use Rattle.get_all.proofs.read_progress.ReadProgress.are_shown.Goals as goal

pub returns : goal.returns
returns c = ap (λ n. n == 0) c.self.invariant.4 ∙ none_unshown c.self.inside.slots ∙ ap (list_all has_first) c.self.view_is
