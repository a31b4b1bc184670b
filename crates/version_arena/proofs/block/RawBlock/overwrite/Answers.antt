use Rattle.std.proofs.Common.{Some, None, set, ap, ◌∙◌, set-set}
use Rattle.version_arena.proofs.block.RawBlock.overwrite.Goals as goal

pub returns : goal.returns
returns g c =
    c.write.ensures.filled ∙ ap (λ held. set held c.args.index (Some c.args.value)) c.forget.ensures.emptied
    ∙ set-set c.self.inside.places.held c.args.index None (Some c.args.value) ∙ ap (λ held. set held c.args.index (Some c.args.value)) c.self.view_is
