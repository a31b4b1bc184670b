use Rattle.std.proofs.Common.{◌≡◌, List, ◌+◌, ◌<◌, [], ◌∷◌, ◌++◌, length, get_or, take, sym, ap, ◌∙◌, append_assoc, arith}
use Rattle.std.proofs.lemmas.Option.{get_or_from_slice_get}
use Rattle.std.proofs.lemmas.List.{take_more}
use Rattle.partition.specs.Events.{Event}
use Rattle.partition.proofs.event_list.EventList.append.Goals as goal

pub loop-at-preserved : goal.loop-at-preserved
loop-at-preserved c =
    let others = c.args.other.now.items in
    let at = c.loop-at.at in
    let e = c.event.result in
    let within : at < length others = omega (arith, c.loop-at-test.true, c.len-at-end.ensures.count) in
    let there : get_or others at e ≡ e = get_or_from_slice_get others at e e (sym c.event.ensures) in
    let more : take (at + 1) others ≡ take at others ++ e ∷ [] = take_more others at e within ∙ ap (λ (x : Event). take at others ++ x ∷ []) there in
    record {
      appended = c.in_ok-push.ensures.ok ∙ ap (λ (xs : List Event). xs ++ e ∷ []) c.loop-at.invariant.appended ∙ append_assoc c.args.self.now.items (take at others) (e ∷ []) ∙ ap (λ (xs : List Event). c.args.self.now.items ++ xs) (sym more);
      within = omega (arith, within);
    }

pub returns-in_err-push-clause-some : goal.returns-in_err-push-clause-some
returns-in_err-push-clause-some c = (c.loop-at.at, c.in_err-push.ensures.err ∙ c.loop-at.invariant.appended)

pub returns-clause-some : goal.returns-clause-some
returns-clause-some c = (c.loop-at.at, c.loop-at.invariant.appended)
