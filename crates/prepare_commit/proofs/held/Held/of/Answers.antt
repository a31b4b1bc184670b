use Rattle.std.proofs.Common.{map, Some, sym, ap, ◌∙◌}
use Rattle.prepare_commit.proofs.Places.{listed_is}
use Rattle.prepare_commit.proofs.held.Held.of.Goals as goal

pub invariant_of-result : goal.invariant_of-result
invariant_of-result c =
    let it = c.requires in
    it.1 ∙ ap (map Some) (sym (listed_is c.args.parts c.args.places.items it.0 it.1))

pub returns : goal.returns
returns c all lie = listed_is c.args.parts c.args.places.items all lie
