use Rattle.std.proofs.Common.{◌≡◌, List, length, ap, ◌∙◌, arith}
use Rattle.std.proofs.lemmas.List.{length-map}
use Rattle.std.specs.Arc.{arc_value}
use Rattle.prepare_commit.specs.Begun.{Holding, put_at}
use Rattle.prepare_commit.specs.Sharing.{shared_parts}
use Rattle.prepare_commit.proofs.Retiring.{put_set, put_push}
use Rattle.prepare_commit.proofs.parts.PartList.put.Goals as goal

pub returns-then-at-len : goal.returns-then-at-len
returns-then-at-len c =
    put_set c.self.inside.parts.items c.args.at c.in-Ok.part (omega (arith, c.if-at-len.true, c.len.ensures, c.self.inside.parts.ok.0))
    ∙ (λ i. put_at (c.self.view_is i) c.args.at (c.in-Ok.ensures.ok i))

pub returns-in_ok-push-in-Ok : goal.returns-in_ok-push-in-Ok
returns-in_ok-push-in-Ok c =
    let blocks = c.self.inside.parts.items in
    let end : c.args.at ≡ length blocks = omega (arith, c.if-at-len.false, c.len.ensures, c.self.inside.parts.ok.0, c.requires, ap (λ (ps : List (List Holding)). length ps) c.self.view_is, length-map blocks arc_value) in
    ap shared_parts c.in_ok-push-in-Ok.ensures.items ∙ put_push blocks c.args.at c.in-Ok.part end
    ∙ (λ i. put_at (c.self.view_is i) c.args.at (c.in-Ok.ensures.ok i))
