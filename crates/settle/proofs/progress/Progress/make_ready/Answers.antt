use Rattle.std.proofs.Common.{◌≡◌, ◌++◌, ◌∷◌, [], ℕ, length, ap, sym, ◌∙◌, subst}
use Rattle.settle.specs.Words.{SetKeep}
use Rattle.settle.specs.Trace.{OfJournal, after, acts_of}
use Rattle.settle.specs.Replaying.{step_of}
use Rattle.settle.specs.declared.progress.Progress.{Progress}
use Rattle.settle.proofs.Words.{on_ok_both}
use Rattle.settle.proofs.Taken.{ready_already, made_ready}
use Rattle.settle.proofs.progress.Progress.make_ready.Goals as goal

pub returns-in-Some-clause-ready : goal.returns-in-Some-clause-ready
returns-in-Some-clause-ready c = record {
  ok = on_ok_both c.set_keep.result
      (λ played steps input trace partition own stands next.
      made_ready input trace (OfJournal partition) c.args.self.now stands c.set_keep.new.self c.in-Some.keep (c.in-Some.ensures input trace partition stands.noted next)
      (played input (acts_of input trace) (after input trace) stands.noted.replays)
      (subst (λ (t : ℕ). c.set_keep.new.self.steps.items ≡ c.args.self.now.steps.items ++ step_of t (SetKeep c.in-Some.keep) ∷ []) (sym own) steps)
      (ap (λ (p : Progress). p.stages) c.set_keep.ensures.rest) (ap (λ (p : Progress). p.sent) c.set_keep.ensures.rest) (ap (λ (p : Progress). p.replies) c.set_keep.ensures.rest))
      c.set_keep.ensures.played.ok c.set_keep.ensures.steps;
  err = c.set_keep.ensures.played.err;
}

pub returns-in-None-clause-ready : goal.returns-in-None-clause-ready
returns-in-None-clause-ready c = record {
  ok = λ input trace partition own stands next. ready_already input trace (OfJournal partition) c.args.self.now stands (c.in-None.ensures input trace partition stands.noted next);
  err = tt;
}

pub returns-in-Some-clause-replies : goal.returns-in-Some-clause-replies
returns-in-Some-clause-replies c = ap (λ (p : Progress). p.replies) c.set_keep.ensures.rest

pub returns-in-Some-clause-keeps : goal.returns-in-Some-clause-keeps
returns-in-Some-clause-keeps c =
    let rest = c.set_keep.ensures.rest in
    record {
      sized = λ closed is. record {
        stages = ap (λ (p : Progress). length p.stages.items) rest ∙ is.stages;
        sent = ap (λ (p : Progress). length p.sent.items) rest ∙ is.sent;
        replies = ap (λ (p : Progress). length p.replies.items) rest ∙ is.replies;
      };
      settings = c.set_keep.ensures.settings;
    }
