use Rattle.std.proofs.Math.Bridge.{le_prop}
use Rattle.std.proofs.Math.Logic.{∥∥₁_elim, ∥∥₁_map}
use Rattle.hub.specs.Seats.{last_operation}
use Rattle.hub.proofs.Atomic.{reads_atomic}
use Rattle.hub.proofs.Fresh.{reads_fresh}
use Rattle.hub.proofs.Replies.{both_read, if_read}
use Rattle.hub.proofs.Reported.{fresh_at, fresh_before}
use Rattle.hub.proofs.seat.Seat.get_all_into.Goals as goal

-- by the puts of the history; what had been committed before its entry is not missed
pub returns : goal.returns
returns g c =
    let ran = c.run.ensures in
    let seen = c.args.self.now.seen in
    let now = c.run.new.self in
    let looked = both_read c.run.new.answer _ _ _
    (λ told since is.
    fresh_at c.run.result seen now.seen now.name now.mark told since (λ reading stamp has committed.
    ∥∥₁_elim ran.legal le_prop (λ legal.
    reads_fresh (last_operation now) since.entry.entry.before c.args.keys.now _ now.entries told legal since.entry.entry.marked is reading stamp has committed)))
    ran.since ran.told in
    record {
      operated = record { entered = ran.entered; stopped = ran.stopped; past = ran.past; later = ran.later; moved = ran.moved };
      read = ran.told;
      atomic = if_read c.run.new.answer _ _ (λ told is. ∥∥₁_map ran.legal (λ legal. reads_atomic (last_operation now) c.args.keys.now _ now.entries told legal is)) ran.told;
      fresh = if_read c.run.new.answer _ _ (λ told is. fresh_before c.run.result seen now.seen now.name told is) looked;
      looked = looked;
    }
