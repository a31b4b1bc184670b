use Rattle.std.proofs.Common.{◌∙◌, ◌∷◌, [], sym}
use Rattle.plain_store.specs.declared.step.Act.TheVariants.{Get as GetAll}
use Rattle.plain_store.specs.declared.refusal.Refusal.TheVariants.{BadItems}
use Rattle.plain_store.specs.Run.{◌⇒◌, are_bad, begin_tests, effect, moment_of}
use Rattle.oracle.proofs.Evaluating.{get_bad, get_begins, refuses}
use Rattle.oracle.proofs.run.get.Goals as goal

pub returns-in-Some : goal.returns-in-Some
unfolding moment_of
returns-in-Some c =
    let history = c.args.history.now in
    let act = GetAll c.args.client c.args.keys.now in
    let told = sym c.begin_refusal.ensures ∙ c.in-Some.is in
    c.refused.ensures ∙ rw c.requires (sym (refuses act (begin_tests history c.args.client) ((are_bad c.args.keys.now ⇒ BadItems) ∷ []) (effect c.args.setup.now history act) c.in-Some.refusal told))

pub returns-then-are_bad : goal.returns-then-are_bad
returns-then-are_bad c =
    let free = sym c.begin_refusal.ensures ∙ c.in_default.is in
    let bad = sym c.are_bad.ensures ∙ c.if-are_bad.true in
    c.refused-then-are_bad.ensures ∙ rw c.requires (sym (get_bad c.args.setup.now c.args.history.now c.args.client c.args.keys.now free bad))

pub returns : goal.returns
returns c =
    let free = sym c.begin_refusal.ensures ∙ c.in_default.is in
    let good = sym c.are_bad.ensures ∙ c.if-are_bad.false in
    let begins = get_begins c.args.setup.now c.args.history.now c.args.client c.args.keys.now free good in
    rw (c.requires, begins, ← c.requires) c.begin_get.ensures
