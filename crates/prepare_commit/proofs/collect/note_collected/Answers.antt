use Rattle.std.proofs.Common.{false, get_or, inl, inr, ap, sym, ◌∙◌, ◌||◌}
use Rattle.std.proofs.lemmas.Bool.{both_ways, or_parts}
use Rattle.prepare_commit.proofs.Remembering.{in_neither, neither}
use Rattle.prepare_commit.proofs.collect.note_collected.Goals as goal

pub returns-then-kept_no_more-clause-noted : goal.returns-then-kept_no_more-clause-noted
returns-then-kept_no_more-clause-noted c chain within =
    let noted = c.note_those.ensures.noted chain in
    let had = get_or c.args.since.now chain false in
    let has = get_or c.args.changed.now chain false in (
      λ free. (let both = or_parts had has (sym noted ∙ free) in (both.0, inl (c.kept_no_more.ensures.0 c.if-kept_no_more.true, both.1))),
      λ over. elim over.1 [
        | inl recent ↦ noted ∙ ap (λ b. b || has) over.0 ∙ recent.1
        | inr before ↦ noted ∙ ap (λ b. b || has) over.0 ∙ (neither c.args.left.now c.args.changed.now chain before.1).1
      ],
    )

pub returns-then-kept_no_more-2-clause-noted : goal.returns-then-kept_no_more-2-clause-noted
returns-then-kept_no_more-2-clause-noted c chain within =
    let first = c.note_those-then-kept_no_more-2.ensures.noted chain in
    let second = c.note_those-then-kept_no_more-2-2.ensures.noted chain in
    let had = get_or c.args.since.now chain false in
    let has = get_or c.args.changed.now chain false in
    let its = get_or c.args.left.now chain false in
    let between = get_or c.note_those-then-kept_no_more-2.new.self chain false in (
      λ free.
          (let last = or_parts between its (sym second ∙ free) in
          let both = or_parts had has (sym first ∙ last.0) in
          (both.0, inr (c.kept_no_more-else-kept_no_more.ensures.0 c.if-kept_no_more-2.true, in_neither c.args.left.now c.args.changed.now chain last.1 both.1))),
      λ over. elim over.1 [
        | inl recent ↦ absurd (both_ways _ c.if-kept_no_more.false (c.kept_no_more.ensures.1 recent.0))
        | inr before ↦
            let parts = neither c.args.left.now c.args.changed.now chain before.1 in
            second ∙ ap (λ b. b || its) (first ∙ ap (λ b. b || has) over.0 ∙ parts.1) ∙ parts.0
      ],
    )
