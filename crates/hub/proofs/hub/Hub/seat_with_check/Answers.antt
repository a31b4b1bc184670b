use Rattle.std.proofs.Common.{ap, refl, ◌∙◌}
use Rattle.plain_store.specs.declared.refusal.Refusal.TheVariants.{RowsUsed, OutOfMemory}
use Rattle.shard.specs.declared.seat_name.SeatName.{SeatName}
use Rattle.hub.specs.Hubs.{ConfigView}
use Rattle.hub.specs.declared.clients.AdmissionCheck.{AdmissionCheck}
use Rattle.hub.proofs.Decided.{at_limits, by_offer, by_seat, by_word}
use Rattle.hub.proofs.hub.Hub.seat_with_check.Goals as goal

pub returns-in-Err-clause-decided : goal.returns-in-Err-clause-decided
returns-in-Err-clause-decided g c =
    at_limits c.args.self.now.limits _ c.args.tenant c.in-Some.limits.now _ (c.deref.ensures.value ∙ ap (λ (v : ConfigView). v.limits) c.self.view_is) c.in-Some.ensures.lookup.3.0 c.in-Some.ensures.lookup.1
    (by_offer c.deref_mut-clients.result.now.register c.args.tenant c.args.client c.in-Some.limits.now.clients c.args.base c.check-check.result c.offer.result c.in-Err.refusal c.check-check.ensures c.in-Err.is c.offer.ensures.refused c.offer.ensures.passed)

pub returns-in_default-of-clause-decided : goal.returns-in_default-of-clause-decided
returns-in_default-of-clause-decided g c =
    let is = c.check-check.ensures in
    at_limits c.args.self.now.limits _ c.args.tenant c.in-Some.limits.now _ (c.deref.ensures.value ∙ ap (λ (v : ConfigView). v.limits) c.self.view_is) c.in-Some.ensures.lookup.3.0 c.in-Some.ensures.lookup.1
    (by_word c.deref_mut-clients.result.now.register c.args.tenant c.args.client c.in-Some.limits.now.clients c.args.base c.check-check.result c.offer.result c.in-Ok.admission RowsUsed
    (ap (λ (k : AdmissionCheck). k.tenant) is, ap (λ (k : AdmissionCheck). k.client) is) (ap (λ (k : AdmissionCheck). k.seats) is) (ap (λ (k : AdmissionCheck). k.clients) is) (ap (λ (k : AdmissionCheck). k.known) is)
    c.in-Ok.is c.offer.ensures.refused refl (λ bad. absurd (cc bad)))

pub returns-in_default-ends-clause-decided : goal.returns-in_default-ends-clause-decided
returns-in_default-ends-clause-decided g c =
    let is = c.check-check.ensures in
    at_limits c.args.self.now.limits _ c.args.tenant c.in-Some.limits.now _ (c.deref.ensures.value ∙ ap (λ (v : ConfigView). v.limits) c.self.view_is) c.in-Some.ensures.lookup.3.0 c.in-Some.ensures.lookup.1
    (by_word c.deref_mut-clients.result.now.register c.args.tenant c.args.client c.in-Some.limits.now.clients c.args.base c.check-check.result c.offer.result c.in-Ok.admission OutOfMemory
    (ap (λ (k : AdmissionCheck). k.tenant) is, ap (λ (k : AdmissionCheck). k.client) is) (ap (λ (k : AdmissionCheck). k.seats) is) (ap (λ (k : AdmissionCheck). k.clients) is) (ap (λ (k : AdmissionCheck). k.known) is)
    c.in-Ok.is c.offer.ensures.refused refl (λ bad. absurd (cc bad)))

-- the word was not given, and all else that was there stays
pub returns-in-Err-admit-clause-decided : goal.returns-in-Err-admit-clause-decided
returns-in-Err-admit-clause-decided g c =
    let is = c.check-check.ensures in
    let stays = c.admit.ensures.unchanged.1 in
    let refused = c.in-Err-admit.ensures.refused in
    at_limits c.args.self.now.limits _ c.args.tenant c.in-Some.limits.now _ (c.deref.ensures.value ∙ ap (λ (v : ConfigView). v.limits) c.self.view_is) c.in-Some.ensures.lookup.3.0 c.in-Some.ensures.lookup.1
    (by_word c.deref_mut-clients.result.now.register c.args.tenant c.args.client c.in-Some.limits.now.clients c.args.base c.admit.new.check c.offer.result c.in-Ok.admission c.in-Err-admit.refusal
    (ap (λ (k : AdmissionCheck). k.tenant) stays ∙ ap (λ (k : AdmissionCheck). k.tenant) is, ap (λ (k : AdmissionCheck). k.client) stays ∙ ap (λ (k : AdmissionCheck). k.client) is)
    (ap (λ (k : AdmissionCheck). k.seats) stays ∙ ap (λ (k : AdmissionCheck). k.seats) is) (ap (λ (k : AdmissionCheck). k.clients) stays ∙ ap (λ (k : AdmissionCheck). k.clients) is) (ap (λ (k : AdmissionCheck). k.known) stays ∙ ap (λ (k : AdmissionCheck). k.known) is)
    c.in-Ok.is c.offer.ensures.refused refused.0 refused.2.0)

-- it has the session that was offered
pub returns-clause-decided : goal.returns-clause-decided
returns-clause-decided g c =
    let is = c.check-check.ensures in
    let stays = c.admit.ensures.unchanged.1 in
    let name = c.new-seat.ensures.rest.0 in
    at_limits c.args.self.now.limits _ c.args.tenant c.in-Some.limits.now _ (c.deref.ensures.value ∙ ap (λ (v : ConfigView). v.limits) c.self.view_is) c.in-Some.ensures.lookup.3.0 c.in-Some.ensures.lookup.1
    (by_seat c.deref_mut-clients.result.now.register c.args.tenant c.args.client c.in-Some.limits.now.clients c.args.base c.admit.new.check c.offer.result c.in-Ok.admission c.new-seat.result
    (ap (λ (k : AdmissionCheck). k.tenant) stays ∙ ap (λ (k : AdmissionCheck). k.tenant) is, ap (λ (k : AdmissionCheck). k.client) stays ∙ ap (λ (k : AdmissionCheck). k.client) is)
    (ap (λ (k : AdmissionCheck). k.seats) stays ∙ ap (λ (k : AdmissionCheck). k.seats) is) (ap (λ (k : AdmissionCheck). k.clients) stays ∙ ap (λ (k : AdmissionCheck). k.clients) is) (ap (λ (k : AdmissionCheck). k.known) stays ∙ ap (λ (k : AdmissionCheck). k.known) is)
    c.in-Ok.is c.offer.ensures.refused c.in-Ok.ensures.next.1 (ap (λ (n : SeatName). n.seat) name, ap (λ (n : SeatName). n.turn) name, ap (λ (n : SeatName). n.counter) name))
