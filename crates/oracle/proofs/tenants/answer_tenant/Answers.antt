use Rattle.std.proofs.Common.{◌≡◌, ◌+◌, ◌∙◌, [], length, take, take_all, ap, arith}
use Rattle.plain_store.specs.Words.{setup_of}
use Rattle.plain_store.specs.Run.{run}
use Rattle.plain_store.specs.Tenants.{only, store_answers}
use Rattle.oracle.proofs.LogsSound.{run_sound}
use Rattle.oracle.proofs.Merging.{answers_more, history_more, valid_more, length-answers_after}
use Rattle.oracle.proofs.FewReads.{readers_few}
use Rattle.std.proofs.lemmas.List.Elements.{All-nil}
use Rattle.oracle.proofs.tenants.answer_tenant.Goals as goal

pub loop-place-init : goal.loop-place-init
loop-place-init c = record { history = c.new-history.ensures.items; valid = All-nil _; answers = c.new-answers.ensures.items }

pub answer_at-other-requires : goal.answer_at-other-requires
answer_at-other-requires c =
    let long : length c.args.others.now ≡ length c.args.steps.now = ap length c.requires.others ∙ length-answers_after c.args.partitions (take c.args.tenant c.args.limits.now) [] c.args.steps.now in
    omega arith

pub answer_step-requires : goal.answer_step-requires
answer_step-requires c =
    let acts = only c.args.tenant (take c.loop-place.place c.args.steps.now) in
    rw c.loop-place.invariant.history (record { sound = run_sound c.setup_of-setup.result [] acts (λ p. tt); few = readers_few c.setup_of-setup.result acts c.loop-place.invariant.valid })

pub loop-place-preserved : goal.loop-place-preserved
loop-place-preserved c =
    let its = c.index-limits-tenant.result in
    let i = c.loop-place.place in
    let history = c.loop-place.history.items in
    let so : history ≡ run (setup_of c.args.partitions its) [] (only c.args.tenant (take i c.args.steps.now)) = rw (← c.setup_of-setup.ensures) c.loop-place.invariant.history in
    record {
      history = history_more c.setup_of-setup.result c.args.tenant c.args.steps.now i c.index-steps-place.result history c.in_ok-after.after.items c.loop-place.invariant.history c.loop-place-test.true c.index-steps-place.is c.in_ok-after.ensures.history;
      valid = valid_more c.args.tenant c.args.steps.now i c.index-steps-place.result c.loop-place.invariant.valid c.loop-place-test.true c.index-steps-place.is c.read_client.ensures;
      answers = c.in_ok-answers.ensures ∙ answers_more c.args.partitions c.args.limits.now c.args.tenant its c.args.steps.now i c.index-steps-place.result history c.args.others.now c.loop-place.answers.items c.in_ok-after.answer c.answer_at-other.result
          c.requires.tenant c.index-limits-tenant.is so c.requires.others c.loop-place.invariant.answers c.loop-place-test.true c.index-steps-place.is c.answer_at-other.ensures
          (rw c.setup_of-setup.ensures at c.in_ok-after.ensures.answer);
    }

pub returns : goal.returns
returns c =
    c.loop-place.invariant.answers ∙ ap (store_answers c.args.partitions (take (c.args.tenant + 1) c.args.limits.now)) (take_all c.loop-place.place c.args.steps.now c.loop-place-test.false)
