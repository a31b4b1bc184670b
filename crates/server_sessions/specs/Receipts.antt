-- By what the lines of a session were answered, as its receipt says, and what is kept of it.
use Rattle.std.specs.Prelude.{◌≡◌, ◌==◌, ℕ, List, Option, None, IsSomeAnd, cond}
use Rattle.std.specs.Borrow.{Bor}
use Rattle.hub.specs.Hubs.{ConfigView}
use Rattle.server_sessions.specs.Departed.{GivesBack, IsEndCounted}
use Rattle.server_sessions.specs.declared.answer_counts.AnswerCounts.{AnswerCounts}
use Rattle.server_sessions.specs.declared.line_session.SessionRun.{SessionRun}
use Rattle.server_sessions.specs.declared.session_options.SessionOptions.{SessionOptions}

-- it was run by this store, whose tenants go by these names, with these options, its answers and its end were counted there, and its client's
-- number was given back
pub record IsRunBy {G : Type 0} (hub : ConfigView) (names : List (List ℕ)) (options : SessionOptions)
    (counts : Option (Bor AnswerCounts)) (run : SessionRun G) : Type 0 where
  pub store : run.hub.now ≡ hub
  pub tenants : run.terms.names.now ≡ names
  pub manner : run.terms.options ≡ options
  pub counted : run.terms.counts ≡ counts
  pub gives_back : GivesBack run.left run.departure
  pub ends : IsEndCounted run.terms.counts run.left run.closed

-- it was run by these names and with these options, its answers and its end were counted there, and its client's number was given back
pub record IsRunFor {G : Type 0} (names : List (List ℕ)) (options : SessionOptions) (answers : AnswerCounts)
    (run : SessionRun G) : Type 0 where
  pub tenants : run.terms.names.now ≡ names
  pub manner : run.terms.options ≡ options
  pub counted : IsSomeAnd run.terms.counts (λ counts. counts.now ≡ answers)
  pub gives_back : GivesBack run.left run.departure
  pub ends : IsEndCounted run.terms.counts run.left run.closed

-- what is kept of a session that left this: nothing where journals are cut
abbrev pub kept_of : {X : Type 0} → ℕ → Option X → Option X
kept_of epoch left = cond (epoch == 0) left None
