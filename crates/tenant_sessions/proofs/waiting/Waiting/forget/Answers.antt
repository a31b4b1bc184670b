use Rattle.std.proofs.Common.{◌≢◌, ap, ◌∙◌, sym, subst, not, filter, length, slice_get}
use Rattle.std.specs.Prelude.{nat_lt, AllPairs}
use Rattle.std.proofs.lemmas.List.Kept.{AllPairs-filter}
use Rattle.std.specs.List.{list_all, filter_map}
use Rattle.tenant_sessions.specs.Parts.{batch_calls, is_replaced_by, is_answered_at}
use Rattle.tenant_sessions.proofs.Placed.{forgotten, still_all, answers_one}
use Rattle.tenant_sessions.proofs.waiting.Waiting.forget.Goals as goal

pub invariant_of-self : goal.invariant_of-self
invariant_of-self c =
    let w = c.self.inside in
    let calls = batch_calls w.parts w.part in (
      c.self.invariant.0,
      ap (list_all (λ place. nat_lt place (length calls))) c.keep_unanswered.ensures
          ∙ still_all (λ place. nat_lt place (length calls)) (λ place. not (is_answered_at calls c.args.message.now place)) w.places c.self.invariant.1,
      subst (AllPairs (λ i j. i ≢ j)) (sym c.keep_unanswered.ensures)
          (AllPairs-filter (λ i j. i ≢ j) (λ place. not (is_answered_at calls c.args.message.now place)) w.places c.self.invariant.2),
      c.self.invariant.3,
    )

pub keep_unanswered-requires-clause-apart : goal.keep_unanswered-requires-clause-apart
keep_unanswered-requires-clause-apart c = λ are.
    let w = c.self.inside in
    answers_one (batch_calls w.parts w.part) c.args.message.now w.places (c.self.invariant.3 are) c.self.invariant.2

pub returns : goal.returns
returns c =
    let w = c.self.inside in
    let calls = batch_calls w.parts w.part in
    ap (filter_map (slice_get calls)) c.keep_unanswered.ensures ∙ forgotten (slice_get calls) (is_replaced_by c.args.message.now) w.places
    ∙ ap (filter (λ out. not (is_replaced_by c.args.message.now out))) c.self.view_is
