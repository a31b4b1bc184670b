use Rattle.std.proofs.Common.{◌≡◌, ap, ◌∙◌, refl, sym, ℕ, Bool, true, cond, List, [], subst, arith}
use Rattle.entry_list.specs.declared.kinds.Entry.{Entry}
use Rattle.std.specs.List.{filter_map}
use Rattle.hub.specs.Limits.{max_calls}
use Rattle.hub.specs.Seats.{IsNamed}
use Rattle.server_sessions.proofs.SeatsGiven.{given_at_end, given_fresh, given_later}
use Rattle.shard.specs.declared.seat_name.SeatName.{SeatName}
use Rattle.load.specs.Rounds.{act_in, acts_drawn, next_state}
use Rattle.load.proofs.Picked.{one_round, round_more}
use Rattle.load.proofs.seats.run_rounds.Goals as goal

all_recorded : (b : Bool) (entries : List Entry) → b ≡ true → cond b entries [] ≡ entries
all_recorded b entries is = ap (λ (is_recorded : Bool). cond is_recorded entries []) is

pub loop-done-init : goal.loop-done-init
loop-done-init g c = record { name = refl; state = refl; began = λ fresh. rw fresh refl; given = given_fresh c.args.seat }

pub loop-done-preserved : goal.loop-done-preserved
loop-done-preserved g c = record {
  name = c.run_round-answer.ensures.name ∙ c.loop-done.invariant.name;
  state = c.round-round.ensures.state ∙ ap (λ (s : ℕ). next_state (next_state (next_state s))) c.loop-done.invariant.state ∙ one_round c.loop-done.done c.args.draws.state;
  began = λ fresh. round_more c.args.seat.name.client c.args.orders.keys c.loop-done.done c.args.draws.state c.loop-done.seat c.run_round-answer.new.seat c.run_round-answer.result
      (ap (λ (n : SeatName). n.client) c.loop-done.invariant.name) (c.loop-done.invariant.began fresh) (sym c.is_left_out.ensures ∙ c.if-is_left_out.false)
      (rw (c.round-round.ensures.round, c.loop-done.invariant.state) at c.run_round-answer.ensures.operated);
  given = λ fresh. given_later max_calls c.loop-done.seat c.run_round-answer.new.seat c.run_round-answer.ensures.operated.later (c.loop-done.invariant.given fresh);
}

pub returns-clause-name : goal.returns-clause-name
returns-clause-name g c =
    let gone = c.end_with_departure-transcript-2.ensures.left in
    let named = c.loop-done.invariant.name in (
      record { its_tenant = gone.tenant ∙ ap (λ (n : SeatName). n.tenant) named; its_client = gone.client ∙ ap (λ (n : SeatName). n.client) named },
      subst (IsNamed c.end_with_departure-transcript-2.result.0) named c.end_with_departure-transcript-2.ensures.name,
    )

pub returns-clause-began : goal.returns-clause-began
returns-clause-began g c = λ fresh.
    let all : c.loop-done.done ≡ c.args.orders.rounds = omega arith in
    let is_whole = ap (λ (n : SeatName). n.is_recorded) c.loop-done.invariant.name ∙ c.requires in
    rw (c.end_with_departure-transcript-2.ensures.entries ∙ all_recorded _ c.loop-done.seat.entries is_whole)
    (subst (λ (rounds : ℕ). filter_map act_in c.loop-done.seat.entries ≡ acts_drawn c.args.seat.name.client c.args.orders.keys rounds c.args.draws.state) all (c.loop-done.invariant.began fresh))

pub returns-clause-given : goal.returns-clause-given
returns-clause-given g c = λ fresh.
    let is_whole = ap (λ (n : SeatName). n.is_recorded) c.loop-done.invariant.name ∙ c.requires in
    given_at_end c.loop-done.seat c.end_with_departure-transcript-2.result.0 c.seen-seen.result c.end_with_departure-transcript-2.ensures.name
    (c.end_with_departure-transcript-2.ensures.entries ∙ all_recorded _ c.loop-done.seat.entries is_whole) c.seen-seen.ensures.same (c.loop-done.invariant.given fresh)
