use Rattle.std.proofs.Common.{List, subst}
use mathlib.Core.List.{IsPrefix}
use Rattle.history.specs.declared.entry.HistoryEntry.{HistoryEntry}
use Rattle.history.proofs.Counts.{mark_later}
use Rattle.hub.specs.Evidence.{IsOfClient}
use Rattle.hub.specs.Requests.{intent_of}
use Rattle.hub.proofs.Replies.{begun_in_later, marked_since_later}
use Rattle.hub.proofs.operation.enter_begun.Goals as goal

pub returns-clause-legal : goal.returns-clause-legal
returns-clause-legal g c was = ∣ c.learn-2.ensures.legal ∣₁

pub begun_mark-requires : goal.begun_mark-requires
begun_mark-requires g c = subst (IsOfClient c.args.name.now) c.in-Some.is c.requires

-- what the client's word has is seen
pub returns-clause-began : goal.returns-clause-began
returns-clause-began g c =
    let seen = c.learn-2.new.self in
    let request = c.args.request.now in
    let P : List HistoryEntry → Type 0 = λ l. IsPrefix l seen in
    begun_in_later c.begun_mark.new.its.seen seen c.args.name.now.tenant (intent_of c.args.own request) (subst P c.seen.ensures c.learn-2.ensures.that) c.in-Some-begun_mark.ensures.began

pub returns-clause-since : goal.returns-clause-since
returns-clause-since g c =
    let seen = c.learn-2.new.self in
    let P : List HistoryEntry → Type 0 = λ l. IsPrefix l seen in
    marked_since_later c.args.name.now c.args.request.now c.in-Some-begun_mark.mark c.begun_mark.new.its.seen seen c.args.seen.now (subst P c.seen.ensures c.learn-2.ensures.that) c.in-Some-begun_mark.ensures.since

pub returns-clause-marked : goal.returns-clause-marked
returns-clause-marked g c =
    let seen = c.learn-2.new.self in
    let P : List HistoryEntry → Type 0 = λ l. IsPrefix l seen in
    mark_later c.begun_mark.new.its.seen seen c.in-Some-begun_mark.mark (subst P c.seen.ensures c.learn-2.ensures.that) c.in-Some-begun_mark.ensures.marked
