use Rattle.server_status.proofs.Rows.{check_is}
use Rattle.server_status.proofs.reading.Watched.read_check.Goals as goal

pub returns-in-Some : goal.returns-in-Some
returns-in-Some g c = rw c.in-Some.is (check_is g.C.JournalChecks.has_told _ _ c.progress_at.ensures.told c.progress_at.ensures.none)

pub returns-in-None : goal.returns-in-None
returns-in-None g c = rw c.in-None.is tt
