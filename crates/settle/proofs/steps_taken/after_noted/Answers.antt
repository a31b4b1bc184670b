use Rattle.std.proofs.Common.{◌≡◌, ◌+◌, [], arith, sym, ◌∙◌, subst, drop, slice_get, Some}
use Rattle.std.proofs.lemmas.Bool.{both_ways}
use Rattle.entry_list.specs.declared.kinds.Entry.TheVariants.{Answered}
use Rattle.settle.specs.Words.{Answer}
use Rattle.settle.specs.Program.{noted}
use Rattle.settle.specs.Standing.{AreAll}
use Rattle.settle.proofs.Entries.{answer_there, none_here, noted_here, items_here, all_first, all_rest, all_more}
use Rattle.settle.proofs.steps_taken.after_noted.Goals as goal

all_none : (answer : Answer) → AreAll answer []
all_none answer k d h = absurd (omega (arith, h))

pub returns-in_default : goal.returns-in_default
returns-in_default c = record {
  all = c.loop-place.invariant.whole (subst (AreAll c.args.answer.now) (sym (none_here c.args.entries.now.items c.loop-place.place c.in_default.ensures)) (all_none c.args.answer.now));
  same = c.loop-place.invariant.same;
  none = none_here c.args.entries.now.items c.loop-place.place c.in_default.ensures;
}

pub returns-then-not-is_told : goal.returns-then-not-is_told
returns-then-not-is_told c =
    let entries = c.args.entries.now.items in
    let at : slice_get entries c.loop-place.place ≡ Some (Answered c.in-Some.noted) = answer_there (slice_get entries c.loop-place.place) c.in-Some.noted c.in-Some.ensures in
    let here = noted_here entries c.loop-place.place c.in-Some.noted at in
    λ all. both_ways c.is_told.result c.if-not-is_told.true (c.is_told.ensures.1 (all_first c.args.answer.now c.in-Some.noted (noted (drop (c.loop-place.place + 1) entries)) (subst (AreAll c.args.answer.now) here (c.loop-place.invariant.rest all))))

pub loop-place-preserved : goal.loop-place-preserved
loop-place-preserved c =
    let entries = c.args.entries.now.items in
    let at : slice_get entries c.loop-place.place ≡ Some (Answered c.in-Some.noted) = answer_there (slice_get entries c.loop-place.place) c.in-Some.noted c.in-Some.ensures in
    let here = noted_here entries c.loop-place.place c.in-Some.noted at in
    record {
      whole = λ all. c.loop-place.invariant.whole (subst (AreAll c.args.answer.now) (sym here) (all_more c.args.answer.now c.in-Some.noted (noted (drop (c.loop-place.place + 1) entries)) (c.is_told.ensures.0 c.if-not-is_told.false) all));
      rest = λ all. all_rest c.args.answer.now c.in-Some.noted (noted (drop (c.loop-place.place + 1) entries)) (subst (AreAll c.args.answer.now) here (c.loop-place.invariant.rest all));
      same = sym (items_here entries c.loop-place.place c.in-Some.noted at) ∙ c.loop-place.invariant.same;
    }
