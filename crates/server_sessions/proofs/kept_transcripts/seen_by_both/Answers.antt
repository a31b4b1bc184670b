use Rattle.history.proofs.Lists.{prefix_of_itself}
use Rattle.server_sessions.proofs.kept_transcripts.seen_by_both.Goals as goal

pub returns-in-None-clause-other : goal.returns-in-None-clause-other
returns-in-None-clause-other g c = prefix_of_itself _
