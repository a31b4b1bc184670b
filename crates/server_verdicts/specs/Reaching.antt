-- Where the epochs of a journal led.
use Rattle.prepare_commit.specs.Bases.{Frozen}
use Rattle.server_verdicts.specs.declared.epochs.reached.ReachedContent.{ReachedContent}
use Rattle.server_verdicts.specs.declared.epochs.reached.ReachedContent.TheVariants.{Base, Replica}

-- what is held there
abbrev pub content_at : ReachedContent → Frozen
content_at (Base base) = base
content_at (Replica replica) = replica
