use Rattle.std.proofs.Common.{◌≡◌, ◌∙◌, Bool, List, Some, ap, slice_get, subst, sym}
use Rattle.std.specs.Option.{option_copied}
use Rattle.stamps.specs.declared.bounds.Limits.{Limits}
use Rattle.settle.proofs.Words.{looked_up}
use Rattle.server_verdicts.specs.Judged.{IsCheckedIn}
use Rattle.server_verdicts.proofs.EndingLaws.{told_by}
use Rattle.server_verdicts.proofs.verdict.judging.LastEpochsJudge.judge.Goals as goal

pub returns : goal.returns
returns c =
    let at = sym (looked_up c.deref.result.now c.args.tenant c.get.result c.get.ensures.lookup.0 c.get.ensures.lookup.1) ∙ ap option_copied c.in-Some.is in
    told_by (λ (limits : Limits) (verdict : Bool). IsCheckedIn c.args.self.now.rows.items limits c.args.tenant verdict) c.args.self.now.limits.items c.args.tenant
    c.in-Some.limits.now c.is_checked.result
    (subst (λ (l : List Limits). slice_get l c.args.tenant ≡ Some c.in-Some.limits.now) c.deref.ensures.value at) c.is_checked.ensures.told
