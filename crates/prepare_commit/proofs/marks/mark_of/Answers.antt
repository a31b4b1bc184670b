use Rattle.std.proofs.Common.{ap, sym, ◌∙◌}
use Rattle.std.specs.Prelude.{unwrap_or}
use Rattle.std.proofs.lemmas.Cmp.{nat_cmp_total}
use Rattle.std.specs.FinMap.{nat_cmp-IsAntisymmetric}
use Rattle.std.specs.Ordering.{nat_cmp}
use Rattle.secondary_index.proofs.Ordered.{find-StandsAt, find-BelongsAt, get-map_of}
use Rattle.prepare_commit.specs.Marks.{mark_row}
use Rattle.prepare_commit.proofs.marks.mark_of.Goals as goal

pub returns-in-Ok : goal.returns-in-Ok
returns-in-Ok c =
    c.index-marks-place.is
    ∙ ap (λ o. unwrap_or o 0) (sym (get-map_of nat_cmp nat_cmp_total nat_cmp-IsAntisymmetric mark_row c.args.marks.now c.requires c.args.client
    ∙ find-StandsAt nat_cmp nat_cmp_total nat_cmp-IsAntisymmetric mark_row c.args.marks.now c.in-Ok.place c.args.client c.requires c.in-Ok.ensures c.index-marks-place.result))

pub returns-in-Err : goal.returns-in-Err
returns-in-Err c =
    ap (λ o. unwrap_or o 0) (sym (get-map_of nat_cmp nat_cmp_total nat_cmp-IsAntisymmetric mark_row c.args.marks.now c.requires c.args.client
    ∙ find-BelongsAt nat_cmp nat_cmp_total nat_cmp-IsAntisymmetric mark_row c.args.marks.now _ c.args.client c.in-Err.ensures))
