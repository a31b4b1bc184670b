use Rattle.std.proofs.Common.{◌≡◌, List, length, ap, ◌∙◌, sym, subst, true, false, arith}
use Rattle.std.proofs.lemmas.List.Elements.{All-head, All-rest, All-same}
use Rattle.load.specs.declared.seats.Orders.{Orders}
use Rattle.load.specs.Rounds.{IsOfSeat}
use Rattle.server_sessions.specs.Ports.{transcripts_of}
use Rattle.load.proofs.Promised.{Handle, all_ended, drawn_more, seat_ended}
use Rattle.load.proofs.seats.join_seats.Goals as goal

pub loop-handle-preserved : goal.loop-handle-preserved
loop-handle-preserved g c =
    let handle = c.in-Some.handle in
    let next = c.in-Some.ensures.steps.0 in
    let kept = c.join_seat.ensures.kept c.if-not-join_seat.false in
    let orders : handle.promise.orders ≡ c.args.orders = All-head (λ (h : Handle). h.promise.orders ≡ c.args.orders) handle _ (All-same (λ (h : Handle). h.promise.orders ≡ c.args.orders) _ _ (sym next) c.loop-handle.invariant.left) in
    let its = subst (λ (o : Orders). IsOfSeat o.seed o.rounds o.keys handle.promise.tenant handle.promise.number kept.0) orders kept.1 in record {
      named = λ found. seat_ended handle _ _ _ _ _ kept.0 next kept.2 (ap (λ t. (t, kept.0.client)) its.of_tenant ∙ ap (λ n. (handle.promise.tenant, n)) its.of_client) (c.loop-handle.invariant.named found);
      drawn = drawn_more _ _ _ _ _ _ _ kept.0 kept.2 its c.loop-handle.invariant.drawn;
      left = All-rest (λ (h : Handle). h.promise.orders ≡ c.args.orders) handle _ _ next c.loop-handle.invariant.left;
    }

pub loop-handle-preserved-then-not-join_seat : goal.loop-handle-preserved-then-not-join_seat
loop-handle-preserved-then-not-join_seat g c = record {
  named = λ never. absurd (let bad : true ≡ false = never in cc);
  drawn = rw (c.join_seat.ensures.same c.if-not-join_seat.true) c.loop-handle.invariant.drawn;
  left = All-rest (λ (h : Handle). h.promise.orders ≡ c.args.orders) c.in-Some.handle _ _ c.in-Some.ensures.steps.0 c.loop-handle.invariant.left;
}

pub returns-clause-all : goal.returns-clause-all
returns-clause-all g c =
    let rest : List Handle = c.loop-handle.handle-iterator.rest.items in
    let none : length rest ≡ 0 = omega (arith, c.in-None.ensures.steps.0) in record {
      named = all_ended rest c.args.handles.items (transcripts_of c.loop-handle.kept) none (c.loop-handle.invariant.named c.if-lacks_memory.false);
      drawn = c.loop-handle.invariant.drawn;
    }
