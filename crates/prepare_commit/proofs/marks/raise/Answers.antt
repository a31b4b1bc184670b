use Rattle.std.proofs.Common.{◌≡◌, ℕ, Bool, true, false, not, ◌&&◌, nat_le, is_some, max, List, slice_index_or, slice_set, map, length, ap, sym, ◌∙◌, arith}
use Rattle.std.specs.Prelude.{insert}
use Rattle.std.specs.FinMap as fin
use Rattle.std.specs.FinMap.{entries, nat_cmp-IsAntisymmetric}
use Rattle.std.specs.Ordering.{nat_cmp}
use Rattle.std.proofs.lemmas.Bool.{le-leb, lt-leb}
use Rattle.std.proofs.lemmas.Cmp.{nat_cmp_total}
use Rattle.stamps.specs.Stamp.{client_of}
use Rattle.stamps.proofs.StampLemmas.{ord_max-nat_cmp}
use Rattle.secondary_index.specs.Ordered.{StandsAt, BelongsAt}
use Rattle.secondary_index.proofs.Ordered.{in_order_as, map_of_as, len-map_of}
use Rattle.prepare_commit.specs.Marks.{mark_row, marks_of, raised_mark}
use Rattle.prepare_commit.proofs.MarkRows.{stands_marked, none_marked, raised_at, added_at}
use Rattle.prepare_commit.proofs.marks.raise.Goals as goal
use Rattle.prepare_commit.proofs.marks.raise.Goals.{In-Ok, In-Err}

-- where the mark of the client stands, or would go in
stands : (c : In-Ok) → StandsAt nat_cmp mark_row (client_of c.args.stamp) c.args.marks.now.items c.in-Ok.place
stands c = rw (← c.client.ensures, ← c.deref.ensures.value) c.in-Ok.ensures

belongs : (c : In-Err) → BelongsAt nat_cmp mark_row (client_of c.args.stamp) c.args.marks.now.items c.in-Err.place
belongs c = rw (← c.client.ensures, ← c.deref.ensures.value) c.in-Err.ensures

-- where none stands, the number of the marks decides
full : (c : In-Err) (b : Bool) → nat_le c.args.clients (length c.args.marks.now.items) ≡ b → not b ≡ not (not (is_some (fin.get (marks_of c.args.marks.now.items) (client_of c.args.stamp))) && nat_le c.args.clients (fin.len (marks_of c.args.marks.now.items)))
full c b is =
    let none = none_marked c.args.marks.now.items c.in-Err.place c.args.stamp c.requires.order (belongs c) in
    let long = len-map_of nat_cmp nat_cmp_total nat_cmp-IsAntisymmetric mark_row c.args.marks.now.items c.requires.order in
    sym (λ i. not (not (is_some (none i)) && (ap (nat_le c.args.clients) long ∙ is) i))

pub returns-then-len-clients-clause-full : goal.returns-then-len-clients-clause-full
returns-then-len-clients-clause-full c =
    full (goal.at.returns-then-len-clients-clause-full c).In-Err true (le-leb _ _ (omega (arith, c.if-len-clients.true, c.len.ensures, c.args.marks.now.ok.0)))

pub returns-else-len-clients-clause-full : goal.returns-else-len-clients-clause-full
returns-else-len-clients-clause-full c =
    full (goal.at.returns-else-len-clients-clause-full c).In-Err false (lt-leb _ _ (omega (arith, c.if-len-clients.false, c.len.ensures, c.args.marks.now.ok.0)))

pub returns-in-Ok-clause-full : goal.returns-in-Ok-clause-full
returns-in-Ok-clause-full c =
    let some = stands_marked c.args.marks.now.items c.in-Ok.place c.args.stamp c.requires.order (stands (goal.at.returns-in-Ok-clause-full c).In-Ok) 0 in
    sym (ap (λ o. not (not (is_some o) && nat_le c.args.clients (fin.len (marks_of c.args.marks.now.items)))) some)

-- the marks with the client's own raised, and with a new one
raised : (c : In-Ok) (old new : ℕ) → old ≡ slice_index_or c.args.marks.now.items c.in-Ok.place old → new ≡ max c.args.stamp old → entries (raised_mark (marks_of c.args.marks.now.items) c.args.stamp) ≡ map mark_row (slice_set c.args.marks.now.items c.in-Ok.place new)
raised c old new was is = raised_at c.args.marks.now.items c.in-Ok.place c.args.stamp c.requires.order (stands c) old new (is ∙ ap (max c.args.stamp) was)

added : (c : In-Err) (new : List ℕ) → new ≡ insert c.args.marks.now.items c.in-Err.place c.args.stamp → entries (raised_mark (marks_of c.args.marks.now.items) c.args.stamp) ≡ map mark_row new
added c new is = added_at c.args.marks.now.items c.in-Err.place c.args.stamp c.requires.order (belongs c) ∙ sym (ap (map mark_row) is)

pub returns-in-Ok-clause-order : goal.returns-in-Ok-clause-order
returns-in-Ok-clause-order c =
    in_order_as nat_cmp nat_cmp_total nat_cmp-IsAntisymmetric mark_row _ _
    (raised (goal.at.returns-in-Ok-clause-order c).In-Ok c.index.result.now c.max.result c.index.ensures (c.max.ensures ∙ ord_max-nat_cmp _ _))

pub returns-in-Ok-clause-raised : goal.returns-in-Ok-clause-raised
returns-in-Ok-clause-raised c _ =
    map_of_as nat_cmp nat_cmp_total nat_cmp-IsAntisymmetric mark_row _ _
    (raised (goal.at.returns-in-Ok-clause-raised c).In-Ok c.index.result.now c.max.result c.index.ensures (c.max.ensures ∙ ord_max-nat_cmp _ _))

pub returns-else-len-clients-clause-order : goal.returns-else-len-clients-clause-order
returns-else-len-clients-clause-order c = in_order_as nat_cmp nat_cmp_total nat_cmp-IsAntisymmetric mark_row _ _
    (added (goal.at.returns-else-len-clients-clause-order c).In-Err c.insert_within.new.list.items c.insert_within.ensures.items)

pub returns-else-len-clients-clause-raised : goal.returns-else-len-clients-clause-raised
returns-else-len-clients-clause-raised c _ = map_of_as nat_cmp nat_cmp_total nat_cmp-IsAntisymmetric mark_row _ _
    (added (goal.at.returns-else-len-clients-clause-raised c).In-Err c.insert_within.new.list.items c.insert_within.ensures.items)
