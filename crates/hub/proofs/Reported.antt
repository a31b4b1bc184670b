-- What is reported to a clock, and what a look at it shows.
use Rattle.std.proofs.Common.{◌≡◌, ◌≤◌, ◌∙◌, ℕ, List, ◌∷◌, ◌++◌, ◌+◌, Option, None, Some, true, false, ap, inl, inr, refl, subst, sym, arith, append_assoc}
use Rattle.std.specs.Prelude.{IfNone, IfSome}
use Rattle.std.proofs.Math.Logic.{∥∥₁_elim, ∥∥₁_map₂}
use Rattle.std.proofs.Math.Bridge.{le_prop}
use mathlib.Core.List.{IsPrefix}
use Rattle.stamps.specs.Stamp.{stamp}
use Rattle.stamps.specs.declared.record.Item.{Item}
use Rattle.plain_store.specs.Words.{Stamp}
use Rattle.plain_store.specs.declared.answer.Answer.{Answer}
use Rattle.plain_store.specs.declared.answer.Answer.TheVariants as says
use Rattle.plain_store.specs.declared.reading.Reading.{Reading}
use Rattle.plain_store.specs.declared.step.Act.{Act}
use Rattle.plain_store.specs.History.{Writes}
use Rattle.history.specs.declared.entry.HistoryEntry.{HistoryEntry}
use Rattle.history.specs.declared.entry.HistoryEntry.TheVariants.{Passed, ReadBegan}
use Rattle.history.specs.declared.entry.Mark.{Mark}
use Rattle.history.specs.Clock.{IsOverrun, IsToldAt}
use Rattle.history.specs.Entries.{clock_of, count}
use Rattle.history.specs.Legal.{IsLegal}
use Rattle.history.proofs.Clock.{sees_told}
use Rattle.history.proofs.Counts.{count_later}
use Rattle.history.proofs.Fresh.{committed_in_later}
use Rattle.history.proofs.Lists.{prefix_join, prefix_of_itself}
use Rattle.shard.specs.declared.seat_name.SeatName.{SeatName}
use Rattle.tenant_sessions.specs.Showing.{IsWritersAnswer}
use Rattle.hub.specs.declared.seat_request.SeatRequest.{SeatRequest}
use Rattle.hub.specs.declared.seat_request.SeatRequest.TheVariants as ask
use Rattle.hub.specs.Clocks.{HasSeenMore, IsDoneAs, IsReported, IsStampedBehind, PutsByClock, ReportsDone, WasReported, is_written}
use Rattle.hub.specs.Evidence.{HasEntryAt, HasOwnReadEntry, IsLookedAt}
use Rattle.hub.specs.Fresh.{AreCommittedIn, IsFreshAt, IsFreshByEntry, IsNotMissed, IsReadFresh}
use Rattle.hub.specs.Replies.{IfDone, IfShows}
use Rattle.hub.specs.Seats.{SeatView, IsEntered, is_unrecorded, last_operation, sight}
use Rattle.hub.proofs.Clocked.{drawn_later}
use Rattle.hub.proofs.Done.{puts_not_missed}
use Rattle.hub.proofs.Fresh.{legal_before}
use Rattle.hub.proofs.Given.{served-later}
use Rattle.hub.proofs.Replies.{from-later, if_done, if_done_as, if_listed, if_read, if_runs}

-- ---- a read looks

-- it finds as many entries as the clock's word has
pub looked_for : (request : SeatRequest) (number tenant : ℕ) (found : List HistoryEntry) → number ≡ count (clock_of tenant) found → IsLookedAt request number tenant found
looked_for (ask.Put items) number tenant found is = tt
looked_for (ask.Get keys) number tenant found is = is
looked_for (ask.Find tag) number tenant found is = is

-- its entry stands behind what the look showed
pub entry_at : (request : SeatRequest) (answer : Answer) (number : ℕ) (name : SeatName) (mark : Mark) (seen found before : List HistoryEntry) → IsLookedAt request number name.tenant found → IsPrefix before found
    → IfShows request answer (HasOwnReadEntry name mark seen found) → IfShows request answer (HasEntryAt number name mark seen before)
entry_at (ask.Put items) answer number name mark seen found before is pre shows = tt
entry_at (ask.Get keys) answer number name mark seen found before is pre shows = if_read answer _ _ (λ told entry. record { found = found; behind = pre; number_is = is; entry = entry }) shows
entry_at (ask.Find tag) answer number name mark seen found before is pre shows = if_listed answer _ _ (λ told entry. record { found = found; behind = pre; number_is = is; entry = entry }) shows

-- what is fresh by all that stands before the entry is fresh by what the look showed
pub fresh_at : (number : ℕ) (old seen : List HistoryEntry) (name : SeatName) (mark : Mark) (told : List Reading) (since : HasEntryAt number name mark seen old)
    → IsReadFresh since.entry.entry.before name.tenant told → IsFreshAt number old seen name told
fresh_at number old seen name mark told since fresh = record {
  found = since.found;
  behind = since.behind;
  number_is = since.number_is;
  fresh = record {
    word = mark.word;
    joined = since.entry.joined;
    before = since.entry.entry.before;
    after = since.entry.entry.after;
    stands = since.entry.entry.stands;
    behind = since.entry.entry.behind;
    fresh = fresh;
  };
}

-- and by what was seen before that
pub fresh_before : (number : ℕ) (old seen : List HistoryEntry) (name : SeatName) (told : List Reading) → IsFreshAt number old seen name told → IsFreshByEntry old seen name told
fresh_before number old seen name told is = record {
  word = is.fresh.word;
  joined = is.fresh.joined;
  before = is.fresh.before;
  after = is.fresh.after;
  stands = is.fresh.stands;
  behind = prefix_join old is.found is.fresh.before is.behind is.fresh.behind;
  fresh = is.fresh.fresh;
}

-- ---- a put is reported

-- its entry stands in what is seen later
told_later : (evidence seen now : List HistoryEntry) (tenant place : ℕ) → IsPrefix seen now → IsToldAt evidence seen tenant place → IsToldAt evidence now tenant place
told_later evidence seen now tenant place pre t = record {
  before = t.before;
  after = t.after ++ pre.0;
  stands = sym pre.1 ∙ ap (λ (l : List HistoryEntry). l ++ pre.0) t.stands ∙ append_assoc t.before (Passed tenant ∷ t.after) pre.0;
  behind = t.behind;
  place_is = t.place_is;
}

-- what overruns a clock does so for who has seen less before, and more since
overrun_on : (k : ℕ) (first old new now : List HistoryEntry) → IsPrefix first old → IsPrefix new now → IsOverrun k old new → IsOverrun k first now
overrun_on k first old new now one two (inl far) = inl (omega (arith, count_later k first old one, count_later k new now two, far))
overrun_on k first old new now one two (inr full) = inr (omega (arith, count_later k new now two, full))

-- what the clock's word answers is so for who learns of it
pub reported_by : (place : Option ℕ) (k tenant : ℕ) (old new now : List HistoryEntry) → k ≡ clock_of tenant → IsPrefix new now → IfSome place (IsToldAt old new tenant) → IfNone place (IsOverrun k old new)
    → IsReported place old now tenant
reported_by None k tenant old new now clock pre told overrun = subst (λ (w : ℕ). IsOverrun w old now) clock (overrun_on k old old new now (prefix_of_itself old) pre overrun)
reported_by (Some place) k tenant old new now clock pre told overrun = told_later old new now tenant place pre told

-- ---- what a put by the clock leaves

pub done_is : (answer : Answer) → is_written answer ≡ true → (own : Stamp) × (answer ≡ says.Done own)
done_is (says.Done own) is = (own, refl)
done_is answer is = absurd (cc is)

-- one that is not done is not reported
pub unreported : (answer : Answer) (P Q : Stamp → Type 0) → is_written answer ≡ false → IfDone answer P → IfDone answer Q
unreported answer P Q not is = if_done_as answer P Q (λ own same p. absurd (let both : true ≡ false = sym (ap is_written same) ∙ not in cc)) is

-- one that is done is, unless the clock was overrun
pub reports_done : (place : Option ℕ) (items : List Item) (old mid new : SeatView) (answer : Answer) (own : Stamp) → answer ≡ says.Done own → IfDone answer (AreCommittedIn mid.seen mid.name.tenant items)
    → mid.name.tenant ≡ old.name.tenant → IsPrefix old.seen mid.seen → HasSeenMore mid new → IsReported place mid.seen new.seen mid.name.tenant → ReportsDone place items old answer new
reports_done None items old mid new answer own is committed named pre more reported =
    subst (λ (a : Answer). IfDone a (λ stamp. IsOverrun (clock_of old.name.tenant) old.seen new.seen)) (sym is)
    (subst (λ (t : ℕ). IsOverrun (clock_of t) old.seen new.seen) named (overrun_on (clock_of mid.name.tenant) old.seen mid.seen new.seen new.seen pre (prefix_of_itself new.seen) reported))
reports_done (Some place) items old mid new answer own is committed named pre more reported =
    let done : AreCommittedIn mid.seen mid.name.tenant items own = subst (λ (a : Answer). IfDone a (AreCommittedIn mid.seen mid.name.tenant items)) is committed in
    let same : mid.name.tenant ≡ new.name.tenant = sym (ap (λ (s : SeatView). s.name.tenant) more.rest) in
    subst (λ (a : Answer). IsDoneAs a (WasReported items new.seen new.name.tenant place)) (sym is)
    (subst (λ (t : ℕ). WasReported items new.seen t place own) same (record { evidence = mid.seen; committed = done; reported = reported }))

-- what was entered by then stays so for a seat that has seen more
entered_on : (act : Act) (between mid : SeatView) (answer : Answer) (own : Stamp) (now : List HistoryEntry) → answer ≡ says.Done own → IsEntered act between answer mid → IsEntered act between answer (record mid { seen = now })
entered_on act between mid answer own now is (inl entered) = inl entered
entered_on act between mid answer own now is (inr left) = absurd (let both : false ≡ true = sym (ap is_unrecorded is) ∙ left.0 in cc)

-- so is a put by the clock
put_on : (items : List Item) (old mid : SeatView) (now : List HistoryEntry) (answer : Answer) (own : Stamp) → answer ≡ says.Done own → ∥ IsLegal mid.seen ∥₁ → IsPrefix mid.seen now
    → PutsByClock items old answer mid → PutsByClock items old answer (record mid { seen = now })
put_on items old mid now answer own is legal pre put =
    let new : SeatView = record mid { seen = now } in
    record {
      between = put.between;
      raised = put.raised;
      written = record {
        entered = entered_on _ put.between mid answer own now is put.written.entered;
        stamp = put.written.stamp;
        written = λ setup same. if_done answer _ _
            (λ own from. from-later (last_operation mid) (last_operation new) (Writes own items) _ mid.entries (λ taken last. IsWritersAnswer setup own items taken last)
            (record { tenant = refl; seat = refl; mark = refl; seen = pre }) from)
            (put.written.written setup same);
        moved = λ setup same. if_runs answer _ _
            (λ from. from-later (last_operation mid) (last_operation new) (Writes (stamp (put.between.counter + 1) put.between.name.client) items) _ mid.entries _ (record { tenant = refl; seat = refl; mark = refl; seen = pre }) from)
            (put.written.moved setup same);
      };
      later = record {
        name = put.later.name;
        parts = put.later.parts;
        kept = put.later.kept;
        seen = prefix_join old.seen mid.seen now put.later.seen pre;
        served = served-later (sight mid) (sight new) old.sent mid.sent old.entries mid.entries (record { tenant = refl; seat = refl; seen = pre }) put.later.served;
        sent = put.later.sent;
        counter = put.later.counter;
      };
      stopped = put.stopped;
      used_up = put.used_up;
      drawn = if_done answer _ (IsStampedBehind old.seen now old.name)
          (λ own d. record { counter = d.counter; stamped = d.stamped; drawn = drawn_later old.seen mid.seen now (record { tenant = old.name.tenant; counter = d.counter }) pre d.drawn })
          put.drawn;
      committed = if_done answer (AreCommittedIn mid.seen mid.name.tenant items) (AreCommittedIn now mid.name.tenant items)
          (λ own committed key has. ∥∥₁_map₂ legal (committed key has) (λ well is. committed_in_later mid.seen now mid.name.tenant key own well pre is))
          put.committed;
    }

pub put_reported : (items : List Item) (old mid new : SeatView) (answer : Answer) (own : Stamp) → answer ≡ says.Done own → ∥ IsLegal mid.seen ∥₁ → HasSeenMore mid new → PutsByClock items old answer mid
    → PutsByClock items old answer new
put_reported items old mid new answer own is legal more put = subst (λ (s : SeatView). PutsByClock items old answer s) (sym more.rest) (put_on items old mid new.seen answer own is legal more.seen put)

-- ---- a read that found the number of a put

-- does not miss it
pub reported_not_missed : (log put old seen : List HistoryEntry) (name : SeatName) (items : List Item) (own : Stamp) (place number : ℕ) (told : List Reading) → IsLegal log → IsPrefix put log → IsPrefix seen log
    → WasReported items put name.tenant place own → IsFreshAt number old seen name told → place ≤ number → IsNotMissed items own told
reported_not_missed log put old seen name items own place number told legal puts reads was is low reading has among =
    let begun : IsPrefix is.found log = prefix_join is.found is.fresh.before log is.fresh.behind (prefix_join is.fresh.before seen log (ReadBegan is.fresh.word ∷ is.fresh.after, sym is.fresh.stands) reads) in
    let sees : IsPrefix was.evidence is.found = sees_told log was.evidence put is.found name.tenant place puts begun was.reported (omega (arith, low, is.number_is)) in
    let pre = prefix_join was.evidence is.found is.fresh.before sees is.fresh.behind in
    ∥∥₁_elim (was.committed reading.item.key among) le_prop (λ c.
    let well = legal_before was.evidence log c.home.parts c.home.there (prefix_join was.evidence is.found log sees begun) legal in
    puts_not_missed was.evidence is.fresh.before name.tenant items own told well pre was.committed is.fresh.fresh reading has among)
