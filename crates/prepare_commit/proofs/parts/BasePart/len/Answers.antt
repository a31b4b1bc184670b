use Rattle.std.proofs.Common.{List, length, sym, ap, ◌∙◌}
use Rattle.prepare_commit.specs.Begun.{Holding}
use Rattle.prepare_commit.proofs.Places.{beside_long}
use Rattle.prepare_commit.proofs.parts.BasePart.len.Goals as goal

pub returns : goal.returns
returns c =
    let p = c.self.inside in
    c.len.ensures ∙ sym (beside_long p.entries p.chains c.self.invariant) ∙ ap (λ (hs : List Holding). length hs) c.self.view_is
