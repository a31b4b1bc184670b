use Rattle.std.proofs.Common.{◌≡◌, ℕ, ◌∷◌, [], ◌++◌, refl, sym, ap, ◌∙◌, subst}
use Rattle.settle.specs.Trace.{OfJournal}
use Rattle.settle.specs.Replaying.{step_of}
use Rattle.settle.proofs.Words.{match_pushed}
use Rattle.settle.proofs.Taken.{written}
use Rattle.settle.proofs.progress.Progress.take_of_event.Goals as goal

pub returns-in-Ok-clause-takes : goal.returns-in-Ok-clause-takes
returns-in-Ok-clause-takes c input trace own found stands may =
    let origin = OfJournal c.args.partition in
    let mid = c.make_ready.new.self in
    let ready = c.in_default.ensures.ready.ok input trace c.args.partition own stands found in
    match_pushed input trace origin c.args.act c.args.self.now.replay.loses c.push_step.result _ _ c.push_step.ensures.ok c.push_step.ensures.err
    (λ pushed. written input trace origin c.args.act mid c.note_event.new.self _ ready may (c.in-Ok.ensures.notes input trace ready.noted may found) refl refl refl refl
    (subst (λ (t : ℕ). c.push_step.new.steps.items ≡ mid.steps.items ++ step_of t c.args.act ∷ []) (sym own) (pushed ∙ ap (λ steps. steps.items ++ step_of c.args.tenant c.args.act ∷ []) c.note_event.ensures.keeps.steps)))

pub returns-in-Ok-clause-keeps : goal.returns-in-Ok-clause-keeps
returns-in-Ok-clause-keeps c = record {
  sized = λ closed is.
      let sized = c.note_event.ensures.keeps.size.sized closed (c.make_ready.ensures.keeps.sized closed is) in
      record { stages = sized.stages; sent = sized.sent; replies = sized.replies };
  settings = record {
    limits = c.note_event.ensures.keeps.size.settings.limits ∙ c.make_ready.ensures.keeps.settings.limits;
    loses = c.note_event.ensures.keeps.size.settings.loses ∙ c.make_ready.ensures.keeps.settings.loses;
  };
}
