use Rattle.std.proofs.Common.{◌∙◌}
use Rattle.secondary_index.proofs.Setting.{searched_is_known}
use Rattle.secondary_index.proofs.tag_index.TagIndex.is_known.Goals as goal

pub returns : goal.returns
returns c = c.is_ok.ensures.value
    ∙ searched_is_known c.args.self.now c.self.inside.room c.self.inside.entries.items c.self.invariant.0.in_order c.self.view_is c.args.key.now c.search.result c.search.ensures
