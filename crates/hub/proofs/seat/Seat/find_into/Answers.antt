use Rattle.std.proofs.Common.{refl}
use Rattle.std.proofs.Math.Bridge.{le_prop}
use Rattle.std.proofs.Math.Logic.{∥∥₁_elim, ∥∥₁_map}
use Rattle.plain_store.specs.Words.{Setup}
use Rattle.hub.specs.Seats.{last_operation}
use Rattle.hub.proofs.Atomic.{lists_atomic}
use Rattle.hub.proofs.Fresh.{lists_fresh}
use Rattle.hub.proofs.Replies.{both_listed, if_listed}
use Rattle.hub.proofs.Reported.{fresh_at, fresh_before}
use Rattle.hub.proofs.seat.Seat.find_into.Goals as goal

-- by the puts of the history; what had been committed before its entry is not missed
pub returns : goal.returns
returns g c =
    let ran = c.run.ensures in
    let seen = c.args.self.now.seen in
    let now = c.run.new.self in
    let setup : Setup = record { partitions = c.args.self.now.parts; room = record { slots = 0; items = 0; clients = 0 }; keep = 0 } in
    let looked = both_listed c.run.new.answer _ _ _
    (λ told since is.
    fresh_at c.run.result seen now.seen now.name now.mark told since (λ reading stamp has committed.
    ∥∥₁_elim ran.legal le_prop (λ legal.
    lists_fresh (last_operation now) since.entry.entry.before setup c.args.tag _ now.entries told legal since.entry.entry.marked is reading stamp has committed)))
    ran.since (ran.told setup refl) in
    record {
      operated = record { entered = ran.entered; stopped = ran.stopped; past = ran.past; later = ran.later; moved = ran.moved };
      listed = ran.told;
      atomic = if_listed c.run.new.answer _ _ (λ told is. ∥∥₁_map ran.legal (λ legal. lists_atomic (last_operation now) setup c.args.tag _ now.entries told legal is)) (ran.told setup refl);
      fresh = if_listed c.run.new.answer _ _ (λ told is. fresh_before c.run.result seen now.seen now.name told is) looked;
      looked = looked;
    }
