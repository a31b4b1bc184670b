use Rattle.std.proofs.Common.{sym, arith}
use Rattle.std.proofs.lemmas.Option.{slice_get_past}
use Rattle.partition.proofs.event_list.EventList.get.Goals as goal

pub returns-else-at-len : goal.returns-else-at-len
returns-else-at-len c = sym (slice_get_past c.args.self.now.items c.args.at (omega (arith, c.if-at-len.false, c.len.ensures.count)))
