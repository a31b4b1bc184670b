use Rattle.std.proofs.Common.{◌≡◌, ◌≤◌, ◌+◌, ℕ, ap, subst, sym, refl, ◌∙◌, ◌++◌, ◌∷◌, [], List, Some, Result, Ok, Err, false, arith}
use Rattle.std.specs.Prelude.{is_err, OnOk}
use Rattle.stamps.specs.Stamp.{stamp}
use Rattle.std.proofs.Math.Logic.{∥∥₁_map}
use Rattle.entry_list.specs.declared.kinds.Entry.{Entry}
use Rattle.tenant_sessions.specs.declared.session.ClientSession.{ClientSession}
use Rattle.entry_list.specs.declared.kinds.Entry.TheVariants.{Began}
use Rattle.history.specs.declared.entry.HistoryEntry.{HistoryEntry}
use Rattle.history.specs.Legal.{HasParts, IsLegal}
use Rattle.hub.specs.Limits.{max_calls}
use Rattle.hub.specs.Replies.{IfShows, IsDrawn, IsMoveFor, IsToldFor}
use Rattle.shard.specs.declared.jobs.Fault.{Fault}
use Rattle.shard.specs.declared.seat_name.SeatName.{SeatName}
use Rattle.hub.specs.Requests.{act_of}
use Rattle.hub.specs.Seats.{SeatView, Follows, last_operation, sight}
use Rattle.hub.specs.Sights.{OperationSight, operation_of, sight_of}
use Rattle.history.specs.declared.entry.Mark.{Mark}
use Rattle.history.proofs.Following.{has_parts_later}
use Rattle.history.proofs.Lists.{prefix_join}
use Rattle.hub.specs.Evidence.{HasEntryAt, HasOwnReadEntry}
use Rattle.hub.specs.Taken.{replies_in}
use Rattle.hub.proofs.Taking.{replies-other}
use Rattle.hub.proofs.Entries.{follows-extends, extends-after, answer-entered, on_ok, fault-left, recorded-goes-on}
use Rattle.hub.proofs.Given.{prefix_is, operations, served-began, served-same, sights}
use Rattle.hub.specs.Operating.{Performs}
use Rattle.hub.proofs.Performed.{performed, performed_as, performed_so}
use Rattle.hub.proofs.Operations.{entered-as, later-same, unbegun-entered}
use Rattle.hub.proofs.Replies.{moves-refused, moves-run, reads-refused, reads-run, shows_refused, shows_run}
use Rattle.hub.proofs.Reported.{entry_at}
use Rattle.hub.proofs.seat.Seat.run.Given.{Over}
use Rattle.hub.proofs.seat.Seat.run.Goals.{After-outcome-told, in-Some-begin, in_default-begin}
use Rattle.hub.proofs.seat.Seat.run.Goals as goal

-- it began and took replies, or it ended as it began
performs : (g : Over) (c : After-outcome-told g)
    → Performs c.parts-parts.result c.args.takes c.args.request.now c.outcome-told.result c.prepare.new.self c.match-begin.self-inside.1.1.0 c.match-begin.answer
performs g c =
    let parts = c.parts-parts.result in
    let takes = c.args.takes in
    let request = c.args.request.now in
    let told = c.outcome-told.result in
    let old = c.prepare.new.self in
    let now = c.match-begin.self-inside.1.1.0 in
    let answer = c.match-begin.answer in
    elim c.match-begin.branch [
      | in-Some-begin w ↦
          performed_as parts takes request told old now w.exchange.new.self answer w.exchange.new.answer (ap (λ s. s.1.1.0) w.self-inside-is) w.answer-is c.outcome-told.ensures
          (λ ended. performed parts takes request w.in-Some-begin.own told old c.begin.new.self w.exchange.new.self c.begin.new.answer w.exchange.new.answer ended w.in-Some-begin.ensures.begun w.exchange.ensures.ends w.exchange.ensures.awaited w.exchange.ensures.runs)
      | in_default-begin w ↦
          performed_as parts takes request told old now c.begin.new.self answer c.begin.new.answer (ap (λ s. s.1.1.0) w.self-inside-is) w.answer-is c.outcome-told.ensures
          (λ ended. performed_so parts takes request told old c.begin.new.self c.begin.new.answer ended w.in_default-begin.ensures.over)
    ]

pub exchange-requires-clause-room : goal.exchange-requires-clause-room
exchange-requires-clause-room g c = c.in-Some-begin.ensures.begun.room

pub exchange-requires-clause-calls : goal.exchange-requires-clause-calls
exchange-requires-clause-calls g c = c.in-Some-begin.ensures.begun.calls

pub exchange-requires-clause-puts : goal.exchange-requires-clause-puts
exchange-requires-clause-puts g c = c.in-Some-begin.ensures.begun.puts

pub exchange-requires-clause-under_way : goal.exchange-requires-clause-under_way
exchange-requires-clause-under_way g c = c.in-Some-begin.ensures.begun.under_way

-- where it goes on, no reply is still to come; and what it sees is of the same store
pub invariant_of-self-inside-2 : goal.invariant_of-self-inside-2
invariant_of-self-inside-2 g c =
    let made = performs g (goal.at.invariant_of-self-inside-2 g c).After-outcome-told in
    let before = c.self.inside in
    let going = ap (λ (s : SeatView). s.stopped) c.self.view_is ∙ c.in_default.ensures.open.0 in
    let later = prefix_join _ _ _ c.in-Ok.ensures.keeps.seen (prefix_join _ _ _ made.goes_on.seen (prefix_is _ _ (sym c.count-sent.ensures.keeps.seen))) in (
      λ well. ap (λ q. q.served + q.queued) c.count-sent.ensures.dispatcher
          ∙ ended c.outcome-told.result (sym c.is_err-self-inside.ensures.value ∙ well) (made.awaited (c.in-Ok.ensures.awaited ∙ before.answered going)),
      (∥∥₁_map before.of_store (has_parts_later before.operation.seen c.count-sent.new.self.seen before.hub.now.parts later), tt),
    )
  where
    ended : {P : Type 0} (told : Result (Unit {0}) Fault) → is_err told ≡ false → OnOk told P → P
    ended (Ok done) well has = has
    ended (Err fault) well has = absurd (cc well)

pub returns-clause-entered : goal.returns-clause-entered
returns-clause-entered g c =
    let made = performs g (goal.at.returns-clause-entered g c).After-outcome-told in
    let going : c.args.self.now.stopped ≡ false = c.in_default.ensures.open.0 in
    let started = c.in-Ok.ensures.began ∙ (λ i. (c.self.view_is i).entries ++ Began (act_of (c.self.view_is i).name.client c.args.request.now) ∷ []) in
    let start = c.args.self.now.entries ++ Began (act_of c.args.self.now.name.client c.args.request.now) ∷ [] in
    let entries = c.match-begin.self-inside.1.1.0.entries.items in
    let same = (ap (λ (s : SeatView). s.entries) c.finish.ensures.stays) ∙ ap (λ e. e.items) c.count-sent.ensures.entries in
    let stops = (ap (λ (s : SeatView). s.stopped) c.finish.ensures.stays) ∙ c.is_err-self-inside.ensures.value in
    let told = made.entered in
    let follows = subst (λ (es : List Entry). Follows es told.0 entries) started told.1 in
    entered-as (act_of c.args.self.now.name.client c.args.request.now) c.finish.new.answer c.args.self.now c.finish.new.self going
    (answer-entered c.outcome-told.result start entries c.finish.new.self.entries c.match-begin.answer c.finish.new.answer
    (on_ok _ _ (λ its. subst (λ (es : List Entry). Follows es (Some c.match-begin.answer) entries) started its) c.outcome-told.result made.answered)
    c.finish.ensures.served c.finish.ensures.refused same)
    (fault-left c.outcome-told.result (act_of c.args.self.now.name.client c.args.request.now) c.args.self.now c.finish.new.self c.match-begin.answer c.finish.new.answer told.0
    made.recorded c.finish.ensures.served c.finish.ensures.refused stops going
    (subst (λ (es : List Entry). Follows start told.0 es) (sym same) follows))
    (recorded-goes-on c.outcome-told.result c.finish.new.self.stopped c.finish.new.answer c.finish.ensures.refused stops)

-- nothing began
pub returns-in-Some-clause-entered : goal.returns-in-Some-clause-entered
returns-in-Some-clause-entered g c = unbegun-entered _ c.args.self.now c.tell_refusal.new.answer c.in-Some.refusal c.tell_refusal.ensures c.in-Some.ensures.unbegun

pub returns-clause-later : goal.returns-clause-later
returns-clause-later g c =
    let made = performs g (goal.at.returns-clause-later g c).After-outcome-told in
    let started = c.in-Ok.ensures.began ∙ (λ i. (c.self.view_is i).entries ++ Began (act_of (c.self.view_is i).name.client c.args.request.now) ∷ []) in
    let start = c.args.self.now.entries in
    let entries = c.match-begin.self-inside.1.1.0.entries.items in
    let same = (ap (λ (s : SeatView). s.entries) c.finish.ensures.stays) ∙ ap (λ e. e.items) c.count-sent.ensures.entries in
    let told = made.entered in
    let name = c.prepare.new.self.name in
    let named = c.in-Ok.ensures.keeps.name ∙ ap (λ (s : SeatView). s.name) c.self.view_is in
    let since = c.in-Ok.ensures.keeps.first ∙ ap (λ (s : SeatView). s.sent) c.self.view_is in
    let counted = ap (λ (s : ClientSession). s.counter) c.in-Ok.ensures.keeps.session ∙ ap (λ (s : SeatView). s.counter) c.self.view_is in
    let seen = (ap (λ (s : SeatView). s.seen) c.finish.ensures.stays) ∙ c.count-sent.ensures.keeps.seen in
    let last = c.prepare.new.self.first + c.match-begin.self-inside.1.1.0.dispatcher.sent in
    let later : last ≤ c.finish.new.self.sent = omega (arith, (ap (λ (s : SeatView). s.sent) c.finish.ensures.stays), c.count-sent.ensures.first, made.goes_on.first) in
    record {
      name = (ap (λ (s : SeatView). s.name) c.finish.ensures.stays) ∙ c.count-sent.ensures.keeps.name ∙ made.goes_on.name ∙ named;
      parts = (ap (λ (s : SeatView). s.parts) c.finish.ensures.stays) ∙ ap (λ (s : SeatView). s.parts) c.self.view_is;
      kept = rw same (extends-after start _ _ (follows-extends _ told.0 entries (subst (λ (es : List Entry). Follows es told.0 entries) started told.1)));
      seen = prefix_join _ _ _ (prefix_join _ _ _ (prefix_is _ _ (sym (ap (λ (s : SeatView). s.seen) c.self.view_is))) c.in-Ok.ensures.keeps.seen) (prefix_join _ _ _ made.goes_on.seen (prefix_is _ _ (sym seen)));
      served = served-same (sight_of name c.match-begin.self-inside.1.1.0.seen) (sight c.finish.new.self) c.prepare.new.self.first c.args.self.now.sent last c.finish.new.self.sent start entries c.finish.new.self.entries
          (sights _ _ _ _ ((ap (λ (s : SeatView). s.name) c.finish.ensures.stays) ∙ c.count-sent.ensures.keeps.name ∙ made.goes_on.name) seen) (sym since) later same
          (made.served start (served-began (sight_of name c.prepare.new.self.seen) _ _ start _ _ started));
      sent = (omega (arith, since, (ap (λ (s : SeatView). s.sent) c.finish.ensures.stays), c.count-sent.ensures.few.0, made.goes_on.first), omega (arith, since, (ap (λ (s : SeatView). s.sent) c.finish.ensures.stays), c.count-sent.ensures.few.1, made.goes_on.first));
      counter = omega (arith, counted, made.counter, (ap (λ (s : SeatView). s.counter) c.finish.ensures.stays), ap (λ (s : ClientSession). s.counter) c.count-sent.ensures.keeps.session);
    }

pub returns-in-Some-clause-later : goal.returns-in-Some-clause-later
returns-in-Some-clause-later g c = later-same max_calls c.args.self.now

pub returns-clause-told : goal.returns-clause-told
returns-clause-told g c =
    let made = performs g (goal.at.returns-clause-told g c).After-outcome-told in
    let started = c.in-Ok.ensures.began ∙ (λ i. (c.self.view_is i).entries ++ Began (act_of (c.self.view_is i).name.client c.args.request.now) ∷ []) in
    let start = c.args.self.now.entries ++ Began (act_of c.args.self.now.name.client c.args.request.now) ∷ [] in
    let parts : c.parts-parts.result ≡ c.args.self.now.parts = c.parts-parts.ensures.value ∙ ap (λ (s : SeatView). s.parts) c.self.view_is in
    let named = c.in-Ok.ensures.keeps.name ∙ ap (λ (s : SeatView). s.name) c.self.view_is in
    let counted = ap (λ (s : ClientSession). s.counter) c.in-Ok.ensures.keeps.session ∙ ap (λ (s : SeatView). s.counter) c.self.view_is in
    let after = c.finish.new.self.counter in
    let now = last_operation c.finish.new.self in
    let ran = operation_of c.prepare.new.self.name c.match-begin.self-inside.1.1.0.mark c.match-begin.self-inside.1.1.0.seen in
    let same : now ≡ ran = operations _ _ _ _ _ _ ((ap (λ (s : SeatView). s.name) c.finish.ensures.stays) ∙ c.count-sent.ensures.keeps.name ∙ made.goes_on.name) ((ap (λ (s : SeatView). s.mark) c.finish.ensures.stays) ∙ c.count-sent.ensures.keeps.mark) ((ap (λ (s : SeatView). s.seen) c.finish.ensures.stays) ∙ c.count-sent.ensures.keeps.seen) in
    let U : OperationSight → Type 0 = λ v. IsToldFor v c.parts-parts.result (IsDrawn c.prepare.new.self.name.client c.prepare.new.self.session.counter c.match-begin.self-inside.1.1.0.session.counter) c.args.request.now c.finish.new.answer start c.finish.new.self.entries in
    let P : ℕ → Type 0 = λ n. IsToldFor now n (IsDrawn c.args.self.now.name.client c.args.self.now.counter after) c.args.request.now c.finish.new.answer start c.finish.new.self.entries in
    let Q : ℕ → Type 0 = λ n. IsToldFor now c.parts-parts.result (IsDrawn c.args.self.now.name.client n after) c.args.request.now c.finish.new.answer start c.finish.new.self.entries in
    let R : SeatName → Type 0 = λ s. IsToldFor now c.parts-parts.result (IsDrawn s.client c.prepare.new.self.session.counter after) c.args.request.now c.finish.new.answer start c.finish.new.self.entries in
    let S : ℕ → Type 0 = λ n. IsToldFor now c.parts-parts.result (IsDrawn c.prepare.new.self.name.client c.prepare.new.self.session.counter n) c.args.request.now c.finish.new.answer start c.finish.new.self.entries in
    subst P parts (subst Q counted (subst R named (subst S (sym ((ap (λ (s : SeatView). s.counter) c.finish.ensures.stays) ∙ ap (λ (s : ClientSession). s.counter) c.count-sent.ensures.keeps.session))
    (subst U (sym same) (reads-run ran c.parts-parts.result _ c.outcome-told.result c.args.request.now start _ c.match-begin.self-inside.1.1.0.entries.items c.finish.new.self.entries c.match-begin.answer c.finish.new.answer
    made.read started c.finish.ensures.served c.finish.ensures.refused ((ap (λ (s : SeatView). s.entries) c.finish.ensures.stays) ∙ ap (λ e. e.items) c.count-sent.ensures.entries))))))

-- a refusal reports no stamp
pub returns-in-Some-clause-told : goal.returns-in-Some-clause-told
returns-in-Some-clause-told g c =
    reads-refused (last_operation c.args.self.now) c.args.self.now.parts _ c.args.request.now c.in-Some.refusal _ _ _ c.tell_refusal.ensures

-- what is answered reports the plain store's move
pub returns-clause-moved : goal.returns-clause-moved
returns-clause-moved g c =
    let made = performs g (goal.at.returns-clause-moved g c).After-outcome-told in
    let seat = c.args.self.now in
    let begun = c.prepare.new.self in
    let ran = c.match-begin.self-inside.1.1.0 in
    let request = c.args.request.now in
    let answer = c.finish.new.answer in
    let entries = c.finish.new.self.entries in
    let client = seat.name.client in
    let start = seat.entries ++ Began (act_of client request) ∷ [] in
    let started = c.in-Ok.ensures.began ∙ (λ i. (c.self.view_is i).entries ++ Began (act_of (c.self.view_is i).name.client request) ∷ []) in
    let parts : c.parts-parts.result ≡ seat.parts = c.parts-parts.ensures.value ∙ ap (λ (s : SeatView). s.parts) c.self.view_is in
    let named = c.in-Ok.ensures.keeps.name ∙ ap (λ (s : SeatView). s.name) c.self.view_is in
    let counted = ap (λ (s : ClientSession). s.counter) c.in-Ok.ensures.keeps.session ∙ ap (λ (s : SeatView). s.counter) c.self.view_is in
    let now = last_operation c.finish.new.self in
    let its = operation_of begun.name ran.mark ran.seen in
    let same : now ≡ its = operations _ _ _ _ _ _ ((ap (λ (s : SeatView). s.name) c.finish.ensures.stays) ∙ c.count-sent.ensures.keeps.name ∙ made.goes_on.name) ((ap (λ (s : SeatView). s.mark) c.finish.ensures.stays) ∙ c.count-sent.ensures.keeps.mark) ((ap (λ (s : SeatView). s.seen) c.finish.ensures.stays) ∙ c.count-sent.ensures.keeps.seen) in
    let P : ℕ → Type 0 = λ n. IsMoveFor now n (stamp (seat.counter + 1) client) request answer start entries in
    let Q : ℕ → Type 0 = λ n. IsMoveFor now c.parts-parts.result (stamp (n + 1) client) request answer start entries in
    let R : SeatName → Type 0 = λ s. IsMoveFor now c.parts-parts.result (stamp (begun.session.counter + 1) s.client) request answer start entries in
    let U : OperationSight → Type 0 = λ v. IsMoveFor v c.parts-parts.result (stamp (begun.session.counter + 1) begun.name.client) request answer start entries in
    subst P parts (subst Q counted (subst R named (subst U (sym same) (moves-run its c.parts-parts.result _ c.outcome-told.result request start _ ran.entries.items entries c.match-begin.answer answer
    made.moved started c.finish.ensures.served c.finish.ensures.refused ((ap (λ (s : SeatView). s.entries) c.finish.ensures.stays) ∙ ap (λ e. e.items) c.count-sent.ensures.entries)))))

pub returns-in-Some-clause-moved : goal.returns-in-Some-clause-moved
returns-in-Some-clause-moved g c =
    moves-refused (last_operation c.args.self.now) c.args.self.now.parts _ c.args.request.now c.in-Some.refusal _ _ _ c.tell_refusal.ensures

-- that it began is no reply
pub returns-clause-few : goal.returns-clause-few
returns-clause-few g c =
    let made = performs g (goal.at.returns-clause-few g c).After-outcome-told in
    let started = c.in-Ok.ensures.began ∙ (λ i. (c.self.view_is i).entries ++ Began (act_of (c.self.view_is i).name.client c.args.request.now) ∷ []) in
    omega (arith, made.few, replies-other c.args.self.now.entries c.prepare.new.self.entries.items _ refl started, ap replies_in ((ap (λ (s : SeatView). s.entries) c.finish.ensures.stays) ∙ ap (λ e. e.items) c.count-sent.ensures.entries))

-- what is seen is a legal history
pub returns-clause-legal : goal.returns-clause-legal
returns-clause-legal g c =
    let P : List HistoryEntry → Type 0 = λ l. ∥ IsLegal l ∥₁ in
    subst P (sym (ap (λ (s : SeatView). s.seen) c.finish.ensures.stays)) c.count-sent.new.self.legal

pub returns-in-Some-clause-legal : goal.returns-in-Some-clause-legal
returns-in-Some-clause-legal g c =
    let P : List HistoryEntry → Type 0 = λ l. ∥ IsLegal l ∥₁ in
    subst P (ap (λ (s : SeatView). s.seen) c.self.view_is) c.self.inside.operation.legal

-- a read has its entry behind what was seen before, and what its look showed
pub returns-clause-since : goal.returns-clause-since
returns-clause-since g c =
    let made = performs g (goal.at.returns-clause-since g c).After-outcome-told in
    let now = c.finish.new.self in
    let request = c.args.request.now in
    let ran = c.match-begin.self-inside.1.1.0 in
    let found = c.prepare.new.self.seen in
    let behind = prefix_join _ _ _ (prefix_is _ _ (sym (ap (λ (s : SeatView). s.seen) c.self.view_is))) c.in-Ok.ensures.keeps.seen in
    let seen = ap (λ (s : SeatView). s.seen) c.finish.ensures.stays ∙ c.count-sent.ensures.keeps.seen in
    let marked = ap (λ (s : SeatView). s.mark) c.finish.ensures.stays ∙ c.count-sent.ensures.keeps.mark in
    let whose = c.prepare.new.self.name in
    let named = ap (λ (s : SeatView). s.name) c.finish.ensures.stays ∙ (c.count-sent.ensures.keeps.name ∙ made.goes_on.name) in
    let N : SeatName → Type 0 = λ n. IfShows request c.finish.new.answer (HasEntryAt c.in-Ok.number n now.mark now.seen c.args.self.now.seen) in
    let Q : Mark → Type 0 = λ m. IfShows request c.finish.new.answer (HasOwnReadEntry whose m now.seen found) in
    let R : List HistoryEntry → Type 0 = λ l. IfShows request c.finish.new.answer (HasOwnReadEntry whose ran.mark l found) in
    subst N (sym named) (entry_at request c.finish.new.answer c.in-Ok.number whose now.mark now.seen found c.args.self.now.seen c.in-Ok.ensures.looked behind (subst Q (sym marked) (subst R (sym seen)
    (shows_run c.outcome-told.result request c.match-begin.answer c.finish.new.answer (HasOwnReadEntry whose ran.mark ran.seen found) made.since c.finish.ensures.served c.finish.ensures.refused))))

pub returns-in-Some-clause-since : goal.returns-in-Some-clause-since
returns-in-Some-clause-since g c = shows_refused c.args.request.now c.in-Some.refusal _ _ c.tell_refusal.ensures

-- the opening is seen still
pub returns-clause-of_store : goal.returns-clause-of_store
returns-clause-of_store g c =
    let before = c.args.self.now in
    let P : SeatView → Type 0 = λ s. ∥ HasParts s.seen s.parts ∥₁ in
    ∥∥₁_map (subst P c.self.view_is c.self.inside.of_store) (has_parts_later before.seen c.finish.new.self.seen before.parts (returns-clause-later g c).seen)

pub returns-in-Some-clause-of_store : goal.returns-in-Some-clause-of_store
returns-in-Some-clause-of_store g c =
    let P : SeatView → Type 0 = λ s. ∥ HasParts s.seen s.parts ∥₁ in
    subst P c.self.view_is c.self.inside.of_store
