use Rattle.std.proofs.Common.{◌≡◌, ◌∙◌, Bool, MatchBool, subst, sym}
use Rattle.server_verdicts.specs.Judged.{IsRight, IsWrong}
use Rattle.server_verdicts.proofs.EpochLaws.{last_told, wrong_told}
use Rattle.server_verdicts.proofs.verdict.judging.is_right.Goals as goal

pub returns-in_ok-follow-in-Right-clause-told : goal.returns-in_ok-follow-in-Right-clause-told
returns-in_ok-follow-in-Right-clause-told c =
    subst (λ (yes : Bool). MatchBool yes (IsRight c.args.limits.now c.args.ending.now) (IsWrong c.args.limits.now c.args.ending.now)) (sym c.is_some.ensures)
    (last_told c.args.limits.now c.args.ending.now c.in_ok-follow-in-Right.field-0 (c.is_under.ensures.0 c.if-not-is_under.false) (sym c.standing.ensures ∙ c.in-Right.is)
    c.in_ok-follow-in-Right.ensures.exact)

pub returns-in-Wrong-clause-told : goal.returns-in-Wrong-clause-told
returns-in-Wrong-clause-told c = wrong_told c.args.limits.now c.args.ending.now (c.is_under.ensures.0 c.if-not-is_under.false) (sym c.standing.ensures ∙ c.in-Wrong.is)
