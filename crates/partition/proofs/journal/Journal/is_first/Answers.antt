use Rattle.std.proofs.Common.{subst}
use Rattle.prepare_commit.specs.Bases.{Frozen}
use Rattle.partition.specs.Journals.{IsSoundFrom}
use Rattle.partition.proofs.Starting.{sound_from_nothing}
use Rattle.partition.proofs.journal.Journal.is_first.Goals as goal

pub returns-then-self-eq0-clause-sound : goal.returns-then-self-eq0-clause-sound
returns-then-self-eq0-clause-sound c test sound =
    let journal = c.args.self.now in
    sound_from_nothing journal.limits journal.events.items (subst (λ (b : Frozen). IsSoundFrom b journal.events.items) (c.is_start.ensures.0 test) sound)
