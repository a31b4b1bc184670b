use Rattle.std.proofs.Common.{◌≡◌, ◌∙◌, List, None, Some, ap, inl, slice_get, subst, sym}
use Rattle.std.specs.Option.{option_copied}
use Rattle.settle.proofs.Words.{looked_up}
use Rattle.server_verdicts.specs.declared.epochs.ending.Ending.{Ending}
use Rattle.server_verdicts.specs.Judged.{IsRight, IsUntold, IsWrong}
use Rattle.server_verdicts.proofs.EndingLaws.{told_there, untold_there}
use Rattle.server_verdicts.proofs.verdict.judging.is_right_in.Goals as goal

pub returns-in-Some-clause-told : goal.returns-in-Some-clause-told
returns-in-Some-clause-told c =
    let at = sym (looked_up c.deref.result.now c.args.tenant c.get.result c.get.ensures.lookup.0 c.get.ensures.lookup.1) ∙ ap option_copied c.in-Some.is in
    told_there (IsRight c.args.limits.now) (IsWrong c.args.limits.now) c.args.row.now.items c.args.tenant c.in-Some.ending.now c.is_right.result
    (subst (λ (l : List Ending). slice_get l c.args.tenant ≡ Some c.in-Some.ending.now) c.deref.ensures.value at) c.is_right.ensures.told

pub returns-in-None-clause-told : goal.returns-in-None-clause-told
returns-in-None-clause-told c =
    let at = sym (looked_up c.deref.result.now c.args.tenant c.get.result c.get.ensures.lookup.0 c.get.ensures.lookup.1) ∙ ap option_copied c.in-None.is in
    inl (subst (λ (l : List Ending). slice_get l c.args.tenant ≡ None) c.deref.ensures.value at)

pub returns-in-Some-clause-untold : goal.returns-in-Some-clause-untold
returns-in-Some-clause-untold c =
    let at = sym (looked_up c.deref.result.now c.args.tenant c.get.result c.get.ensures.lookup.0 c.get.ensures.lookup.1) ∙ ap option_copied c.in-Some.is in
    untold_there (IsUntold c.args.limits.now) c.args.row.now.items c.args.tenant c.in-Some.ending.now c.is_right.result
    (subst (λ (l : List Ending). slice_get l c.args.tenant ≡ Some c.in-Some.ending.now) c.deref.ensures.value at) c.is_right.ensures.untold
