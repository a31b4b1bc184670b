use Rattle.std.proofs.Common.{◌≡◌, length, sym, ap, ◌∙◌, arith}
use Rattle.partition.specs.PackedEvents.{Happenings}
use Rattle.partition.proofs.Unpacking.{as_many}
use Rattle.partition.proofs.event_list.EventList.len.Goals as goal

pub returns-clause-count : goal.returns-clause-count
returns-clause-count c =
    let pieces = c.self.inside.list.items in
    c.len.ensures.count ∙ sym (as_many pieces) ∙ ap (λ (h : Happenings). length h.items) c.self.view_is

pub returns-clause-few : goal.returns-clause-few
returns-clause-few c =
    let pieces = c.self.inside.list.items in
    let many : length c.args.self.now.items ≡ length pieces = ap (λ (h : Happenings). length h.items) (sym c.self.view_is) ∙ as_many pieces in
    let few = c.len.ensures.few in
    omega (arith, many, few)
