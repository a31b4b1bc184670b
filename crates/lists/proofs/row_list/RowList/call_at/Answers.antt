use Rattle.std.proofs.Common.{sym, ap, ◌∙◌, refl}
use Rattle.std.proofs.lemmas.Fn.{called}
use Rattle.std.proofs.lemmas.List.{get_or_default}
use Rattle.lists.proofs.Searching.{answers_on}
use Rattle.lists.proofs.row_list.RowList.call_at.Goals as goal

pub returns-clause-answer : goal.returns-clause-answer
returns-clause-answer g c =
    λ key computes.
    let answered = answers_on g.F.FnMut _ _ _ _ _ (called g.F.FnMut c.f.ensures refl) computes in
    (answered.1, λ d. ap key (get_or_default c.args.self.now.items c.args.index d c.get.result.now c.requires.within ∙ sym c.get.ensures) ∙ sym answered.0)
