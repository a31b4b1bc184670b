use Rattle.std.proofs.Common.{ℕ, List, sym, subst}
use Rattle.std.proofs.Math.Logic.{∥∥₁_map₂}
use mathlib.Core.List.{IsPrefix}
use Rattle.history.specs.declared.entry.HistoryEntry.{HistoryEntry}
use Rattle.history.specs.Legal.{IsAtHome}
use Rattle.history.proofs.Counts.{mark_later}
use Rattle.history.proofs.Following.{has_parts_later, of_put_later}
use Rattle.plain_store.specs.declared.message.Message.{Message}
use Rattle.shard.specs.Homes.{place_of}
use Rattle.hub.proofs.Evidence.{goes_home}
use Rattle.hub.proofs.dispatcher.Dispatcher.called.Goals as goal

-- what the seat has seen shows of which put it is, and the store's opening how many partitions there are
pub invariant_of-result-clause-may : goal.invariant_of-result-clause-may
invariant_of-result-clause-may g c =
    let queues = c.args.self.now in
    let message = c.args.message.value in
    let front = c.learn.new.self in
    let P : List HistoryEntry → Type 0 = λ l. IsPrefix l front in
    let Q : ℕ → Type 0 = λ n. IsAtHome front n message.call in
    let R : Message → Type 0 = λ m. IsAtHome front (place_of m.call queues.parts m.partition) message.call in
    ∥∥₁_map₂ c.requires.put queues.of_store (λ put has. record {
      put = of_put_later c.args.seen.now front c.args.name.now.tenant message.call (subst P c.again-front.ensures.same c.learn.ensures.this) put;
      home = subst Q (sym c.place_of-partition.ensures.value) (subst R (sym c.deref.ensures) (goes_home front queues.parts message.partition message.call (has_parts_later queues.opening front queues.parts c.learn.ensures.that has)));
    })

-- and it has the mark
pub invariant_of-result-clause-marked : goal.invariant_of-result-clause-marked
invariant_of-result-clause-marked g c =
    let front = c.learn.new.self in
    let P : List HistoryEntry → Type 0 = λ l. IsPrefix l front in
    mark_later c.args.seen.now front c.args.mark (subst P c.again-front.ensures.same c.learn.ensures.this) c.requires.marked
