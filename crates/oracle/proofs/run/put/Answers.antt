use Rattle.std.proofs.Common.{◌≡◌, ◌≤◌, ◌<◌, ◌∙◌, ◌∷◌, [], nat_le, true, false, sym, ap, arith}
use Rattle.plain_store.specs.declared.step.Act.TheVariants.{Put}
use Rattle.plain_store.specs.declared.refusal.Refusal.TheVariants.{BadItems, StampsUsed}
use Rattle.plain_store.specs.History.{counter}
use Rattle.plain_store.specs.Writing.{keys_written}
use Rattle.plain_store.specs.Run.{◌⇒◌, are_bad, begin_tests, counter_limit, effect, moment_of}
use Rattle.oracle.proofs.Evaluating.{good_keys, put_bad, put_used, put_begins, refuses}
use Rattle.oracle.proofs.run.put.Goals as goal

pub returns-in-Some : goal.returns-in-Some
unfolding moment_of
returns-in-Some c =
    let history = c.args.history.now in
    let act = Put c.args.client c.args.items.now in
    let told = sym c.begin_refusal.ensures ∙ c.in-Some.is in
    let rest = (are_bad (keys_written c.args.items.now) ⇒ BadItems) ∷ (nat_le counter_limit (counter history c.args.client) ⇒ StampsUsed) ∷ [] in
    c.refused.ensures ∙ rw c.requires (sym (refuses act (begin_tests history c.args.client) rest (effect c.args.setup.now history act) c.in-Some.refusal told))

pub returns-then-are_bad : goal.returns-then-are_bad
returns-then-are_bad c =
    let free = sym c.begin_refusal.ensures ∙ c.in_default.is in
    let bad : are_bad (keys_written c.args.items.now) ≡ true = ap are_bad (sym c.in_ok-keys.ensures ∙ sym c.deref.ensures.value) ∙ sym c.are_bad.ensures ∙ c.if-are_bad.true in
    c.refused-then-are_bad.ensures ∙ rw c.requires (sym (put_bad c.args.setup.now c.args.history.now c.args.client c.args.items.now free bad))

pub returns-then-counter-ge-MAX_COUNTER : goal.returns-then-counter-ge-MAX_COUNTER
returns-then-counter-ge-MAX_COUNTER c =
    let free = sym c.begin_refusal.ensures ∙ c.in_default.is in
    let good : are_bad (keys_written c.args.items.now) ≡ false = ap are_bad (sym c.in_ok-keys.ensures ∙ sym c.deref.ensures.value) ∙ sym c.are_bad.ensures ∙ c.if-are_bad.false in
    let used : counter_limit ≤ counter c.args.history.now c.args.client = omega arith in
    c.refused-then-counter-ge-MAX_COUNTER.ensures ∙ rw c.requires (sym (put_used c.args.setup.now c.args.history.now c.args.client c.args.items.now free good used))

pub begin_put-requires-clause-keys : goal.begin_put-requires-clause-keys
begin_put-requires-clause-keys c =
    let good : are_bad (keys_written c.args.items.now) ≡ false = ap are_bad (sym c.in_ok-keys.ensures ∙ sym c.deref.ensures.value) ∙ sym c.are_bad.ensures ∙ c.if-are_bad.false in
    good_keys (keys_written c.args.items.now) good

pub returns : goal.returns
returns c =
    let free = sym c.begin_refusal.ensures ∙ c.in_default.is in
    let good : are_bad (keys_written c.args.items.now) ≡ false = ap are_bad (sym c.in_ok-keys.ensures ∙ sym c.deref.ensures.value) ∙ sym c.are_bad.ensures ∙ c.if-are_bad.false in
    let below : counter c.args.history.now c.args.client < counter_limit = omega arith in
    let begins = put_begins c.args.setup.now c.args.history.now c.args.client c.args.items.now free good below in
    rw (c.requires, begins, ← c.requires) c.begin_put.ensures
