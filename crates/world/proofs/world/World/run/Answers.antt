use Rattle.std.proofs.Common.{true, is_ok, ◌≡◌, ◌+◌, [], ◌∷◌, ◌++◌, take, length, append_assoc, refl, sym, ap, ◌∙◌, subst, arith}
use Rattle.std.proofs.lemmas.List.{take_all}
use Rattle.std.proofs.lemmas.Option.{slice_get_read}
use Rattle.plain_store.specs.Tenants.{answers_after, store_answer}
use Rattle.world.specs.Content.{parts_of, limits_of}
use Rattle.world.specs.Standing.{StandsFor}
use Rattle.world.specs.Running.{steps_taken}
use Rattle.world.proofs.Results.{take_one, not_ok}
use Rattle.world.proofs.Worlds.{told_more}
use Rattle.world.specs.Promises.{IsPromisedAfter}
use Rattle.world.proofs.Promised.{are_promised, each_more, calls_of_steps, ran}
use Rattle.world.proofs.world.World.run.Goals as goal

pub returns-in_err-answer : goal.returns-in_err-answer
returns-in_err-answer c = record {
  ran = λ before stands.
      ran (parts_of c.args.self.now) (limits_of c.args.self.now) c.answer.new.self before c.args.steps.now c.args.answers.now.items c.answer.new.answers.items (is_ok c.from_residual.result) c.loop-step.step-index
      (c.in_err-answer.ensures.kept ∙ c.loop-step.invariant.told before stands) (c.in_err-answer.ensures.err (before ++ take c.loop-step.step-index c.args.steps.now) (c.loop-step.invariant.stands before stands))
      (λ whole. absurd (not_ok c.from_residual.result c.from_residual.ensures.0 whole));
  promised = λ before stands.
      are_promised (parts_of c.args.self.now) (limits_of c.args.self.now) before c.args.steps.now c.args.answers.now.items c.answer.new.answers.items c.loop-step.step-index
      (c.in_err-answer.ensures.kept ∙ c.loop-step.invariant.told before stands) (c.loop-step.invariant.promised before stands);
  calls = λ before stands.
      let stood = ran (parts_of c.args.self.now) (limits_of c.args.self.now) c.answer.new.self before c.args.steps.now c.args.answers.now.items c.answer.new.answers.items (is_ok c.from_residual.result) c.loop-step.step-index
      (c.in_err-answer.ensures.kept ∙ c.loop-step.invariant.told before stands) (c.in_err-answer.ensures.err (before ++ take c.loop-step.step-index c.args.steps.now) (c.loop-step.invariant.stands before stands))
      (λ whole. absurd (not_ok c.from_residual.result c.from_residual.ensures.0 whole)) in
      calls_of_steps c.answer.new.self (before ++ steps_taken c.args.steps.now c.args.answers.now.items c.answer.new.answers.items) stood.stands;
  parts = c.answer.ensures.parts ∙ c.loop-step.invariant.parts;
  limits = c.answer.ensures.limits ∙ c.loop-step.invariant.limits;
}

pub loop-step-preserved : goal.loop-step-preserved
loop-step-preserved c =
    let i = c.loop-step.step-index in
    let front = take i c.args.steps.now in
    let step = c.step-item.result in
    let parts = parts_of c.args.self.now in
    let limits = limits_of c.args.self.now in
    let told = c.loop-step.answers.items in
    let next : take (i + 1) c.args.steps.now ≡ front ++ step ∷ [] = take_one c.args.steps.now i step c.loop-step-test.true c.step-item.is in
    record {
      parts = c.answer.ensures.parts ∙ c.loop-step.invariant.parts;
      limits = c.answer.ensures.limits ∙ c.loop-step.invariant.limits;
      told = λ before stands.
          let one = c.in_ok-answer.ensures.ok (before ++ front) (c.loop-step.invariant.stands before stands) in
          let more : c.answer.new.answers.items ≡ told ++ store_answer parts limits (before ++ front) step ∷ [] =
          one.0 ∙ (λ j. told ++ store_answer (c.loop-step.invariant.parts j) (c.loop-step.invariant.limits j) (before ++ front) step ∷ []) in
          told_more parts limits before front step c.args.answers.now.items told c.answer.new.answers.items (c.loop-step.invariant.told before stands) more
          ∙ ap (λ steps_taken. c.args.answers.now.items ++ answers_after parts limits before steps_taken) (sym next);
      stands = λ before stands.
          let one = c.in_ok-answer.ensures.ok (before ++ front) (c.loop-step.invariant.stands before stands) in
          subst (StandsFor c.answer.new.self) (append_assoc before front (step ∷ []) ∙ ap (λ steps_taken. before ++ steps_taken) (sym next)) one.1;
      promised = λ before stands.
          each_more (λ n s. IsPromisedAfter parts limits (before ++ take n c.args.steps.now) s (store_answer parts limits (before ++ take n c.args.steps.now) s)) c.args.steps.now i step
          (slice_get_read c.args.steps.now (length c.args.steps.now) i step refl c.loop-step-test.true c.step-item.is) (c.loop-step.invariant.promised before stands)
          (subst (λ p. IsPromisedAfter p limits (before ++ front) step (store_answer p limits (before ++ front) step)) c.loop-step.invariant.parts
          (subst (λ l. IsPromisedAfter (parts_of c.loop-step.self) l (before ++ front) step (store_answer (parts_of c.loop-step.self) l (before ++ front) step)) c.loop-step.invariant.limits
          (c.in_ok-answer.ensures.promised (before ++ front) (c.loop-step.invariant.stands before stands))));
    }

pub returns : goal.returns
returns c = record {
  ran = λ before stands.
      ran (parts_of c.args.self.now) (limits_of c.args.self.now) c.loop-step.self before c.args.steps.now c.args.answers.now.items c.loop-step.answers.items true c.loop-step.step-index
      (c.loop-step.invariant.told before stands) (c.loop-step.invariant.stands before stands) (λ whole. take_all c.loop-step.step-index c.args.steps.now (omega (arith, c.loop-step-test.false)));
  promised = λ before stands.
      are_promised (parts_of c.args.self.now) (limits_of c.args.self.now) before c.args.steps.now c.args.answers.now.items c.loop-step.answers.items c.loop-step.step-index
      (c.loop-step.invariant.told before stands) (c.loop-step.invariant.promised before stands);
  calls = λ before stands.
      let stood = ran (parts_of c.args.self.now) (limits_of c.args.self.now) c.loop-step.self before c.args.steps.now c.args.answers.now.items c.loop-step.answers.items true c.loop-step.step-index
      (c.loop-step.invariant.told before stands) (c.loop-step.invariant.stands before stands) (λ whole. take_all c.loop-step.step-index c.args.steps.now (omega (arith, c.loop-step-test.false))) in
      calls_of_steps c.loop-step.self (before ++ steps_taken c.args.steps.now c.args.answers.now.items c.loop-step.answers.items) stood.stands;
  parts = c.loop-step.invariant.parts;
  limits = c.loop-step.invariant.limits;
}
