use Rattle.std.proofs.Common.{◌∙◌, sym, []}
use Rattle.plain_store.specs.declared.step.Act.TheVariants.{Find}
use Rattle.plain_store.specs.Run.{begin_tests, effect, moment_of}
use Rattle.oracle.proofs.Evaluating.{find_begins, refuses}
use Rattle.oracle.proofs.run.find.Goals as goal

pub returns-in-Some : goal.returns-in-Some
unfolding moment_of
returns-in-Some c =
    let history = c.args.history.now in
    let act = Find c.args.client c.args.tag.now in
    let told = sym c.begin_refusal.ensures ∙ c.in-Some.is in
    c.refused.ensures ∙ rw c.requires (sym (refuses act (begin_tests history c.args.client) [] (effect c.args.setup.now history act) c.in-Some.refusal told))

pub returns : goal.returns
returns c =
    let free = sym c.begin_refusal.ensures ∙ c.in_default.is in
    let begins = find_begins c.args.setup.now c.args.history.now c.args.client c.args.tag.now free in
    rw (c.requires, begins, ← c.requires) c.begin_find.ensures
