use Rattle.std.proofs.Common.{◌≡◌, List, [], ◌∷◌, ◌++◌, refl, sym, ap, subst, ◌∙◌}
use Rattle.partition.specs.Events.{event}
use Rattle.partition.specs.PackedEvents.{packed_event, ArePackedEvents, events_in, Happenings}
use Rattle.partition.proofs.Unpacking.{one_more, events_once_more}
use Rattle.partition.proofs.event_list.EventList.push_reserved.Goals as goal

pub invariant_of-self : goal.invariant_of-self
invariant_of-self c =
    let e = event c.args.seat c.args.number c.args.call.now c.args.reply.now in
    subst ArePackedEvents (sym c.push_packed.ensures.items) (one_more c.self.inside.list.items e (packed_event e) c.self.invariant c.push_packed.ensures.stored refl)

pub returns-clause-items : goal.returns-clause-items
returns-clause-items c =
    let e = event c.args.seat c.args.number c.args.call.now c.args.reply.now in
    ap events_in c.push_packed.ensures.items ∙ events_once_more c.self.inside.list.items e (packed_event e) c.push_packed.ensures.stored refl
    ∙ ap (λ (h : Happenings). h.items ++ e ∷ []) c.self.view_is
