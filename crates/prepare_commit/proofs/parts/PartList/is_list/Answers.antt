use Rattle.std.proofs.Common.{List, length, ap, ◌∙◌, arith}
use Rattle.std.specs.Prelude.{slice_get}
use Rattle.prepare_commit.specs.Begun.{Holding}
use Rattle.prepare_commit.proofs.Places.{in_part, in_parts}
use Rattle.prepare_commit.proofs.parts.PartList.is_list.Goals as goal

pub part-requires : goal.part-requires
part-requires c = in_parts c.args.self.now c.args.place c.requires.0 c.requires.1

pub is_list-requires : goal.is_list-requires
is_list-requires c =
    let inside = in_part c.args.self.now c.args.place c.requires.0 c.requires.1 in
    omega (arith, inside, ap (λ (p : List Holding). length p) c.part.ensures)

pub returns : goal.returns
returns c h is = c.is_list.ensures h (ap (λ (p : List Holding). slice_get p c.args.place.at) c.part.ensures ∙ is)
