use Rattle.std.proofs.Common.{◌≡◌, ℕ, List, Bor, Option, Some, None, nat_eq, sym, ap, ◌∙◌, subst}
use Rattle.std.specs.Option.{option_copied}
use Rattle.std.proofs.lemmas.List.{map-id}
use Rattle.std.proofs.lemmas.Iterator.Adapters.{YieldsList-from_vec}
use Rattle.std.proofs.lemmas.Iterator.Consumers.{YieldsList-end}
use Rattle.indexmap.specs.IndexMap.{get}
use Rattle.entry_list.specs.declared.kinds.Entry.{Entry}
use Rattle.entry_list.specs.PackedEntries.{EntriesView}
use Rattle.closed_store.specs.Filling.{AreGathered}
use Rattle.closed_store.proofs.Filled.{empty_gathered, gathered_none, gathered_more}
use Rattle.closed_store.proofs.join.filling.gather.Goals as goal

pub loop-seat-init : goal.loop-seat-init
loop-seat-init c = empty_gathered c.args.places.now c.args.count c.in_ok-lists.lists.items c.in_ok-lists.ensures.empty c.in_ok-lists.ensures.as_many

pub loop-seat-preserved : goal.loop-seat-preserved
loop-seat-preserved c =
    let unknown : get nat_eq c.args.places.now c.in-Some.seat ≡ None = sym c.get.ensures.value ∙ ap (λ (o : Option (Bor ℕ)). option_copied o) c.in_default.is in
    gathered_none c.args.places.now c.loop-seat.yielded (c.in-Some.seat, c.in-Some.list) c.args.count c.loop-seat.lists.items unknown c.loop-seat.invariant

pub loop-seat-preserved-in-Continue-branch-2 : goal.loop-seat-preserved-in-Continue-branch-2
loop-seat-preserved-in-Continue-branch-2 c =
    let known : get nat_eq c.args.places.now c.in-Some.seat ≡ Some c.in-Some-get.place.now = sym c.get.ensures.value ∙ ap (λ (o : Option (Bor ℕ)). option_copied o) c.in-Some-get.is in
    gathered_more c.args.places.now c.loop-seat.yielded (c.in-Some.seat, c.in-Some.list) c.args.count c.in-Some-get.place.now
    c.loop-seat.lists.items c.append_at.new.lists.items known c.loop-seat.invariant c.in_ok-append_at.ensures

pub returns : goal.returns
returns c =
    let gives = c.into_iter-seat-iterator.ensures.into_iter_gives in
    let from = YieldsList-from_vec {s = c.into_iter-seat-iterator.result} c.args.entries.items gives.0 (gives.1 ∙ c.args.entries.ok.0) in
    let end = YieldsList-end from c.loop-seat.yielded c.loop-seat.seat-iterator c.loop-seat.yielded_by c.next.result c.next.new.self c.in-None.is c.next.ensures.steps in
    let all = sym (map-id c.loop-seat.yielded) ∙ end.0 in
    subst (λ (es : List (ℕ × EntriesView)). AreGathered c.args.places.now es c.args.count c.loop-seat.lists.items) all c.loop-seat.invariant
