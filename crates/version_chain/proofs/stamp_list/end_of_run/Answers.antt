use Rattle.std.proofs.Common.{◌≡◌, inl, inr, get_or, ap, sym, ◌∙◌, arith}
use Rattle.std.proofs.lemmas.Bool.{cases_lt}
use Rattle.std.proofs.lemmas.List.{get_or_read}
use Rattle.version_chain.specs.declared.stamp_list.Kept.{Kept}
use Rattle.version_chain.proofs.StampParts.{same_stamp, other_stamp, ends_at_other, ends_at_end}
use Rattle.version_chain.proofs.stamp_list.end_of_run.Goals as goal

pub returns-then-ne-clause-place : goal.returns-then-ne-clause-place
returns-then-ne-clause-place c =
    let list = c.args.list.now in
    let end = c.loop-end.end in
    let here = c.index-list-end.result in
    ends_at_other list c.args.stamp c.args.first c.requires.ascends c.requires.first end c.loop-end.auto.end c.loop-end-test.true c.loop-end.invariant
    (λ d same.
    let read = get_or_read list end here c.loop-end-test.true c.index-list-end.is d in
    other_stamp (get_or list end here).stamp c.args.stamp c.ne.result c.ne.ensures c.if-ne.true (ap (λ (k : Kept). k.stamp) (sym c.index-list-end.is ∙ read) ∙ same))

pub returns-clause-place : goal.returns-clause-place
returns-clause-place c =
    ends_at_end c.args.list.now c.args.stamp c.args.first c.requires.ascends c.requires.first (λ k d from below. c.loop-end.invariant k d from (omega arith))

pub loop-end-preserved : goal.loop-end-preserved
loop-end-preserved c k d from below =
    let list = c.args.list.now in
    let end = c.loop-end.end in
    let here = c.index-list-end.result in
    elim (cases_lt k end) [
      | inl before ↦ c.loop-end.invariant k d from before
      | inr after ↦
          let last : k ≡ end = omega arith in
          let read = get_or_read list end here c.loop-end-test.true c.index-list-end.is d in
          ap (λ i. (get_or list i d).stamp) last
          ∙ ap (λ (k : Kept). k.stamp) (sym read ∙ c.index-list-end.is)
          ∙ same_stamp (get_or list end here).stamp c.args.stamp c.ne.result c.ne.ensures c.if-ne.false
    ]
