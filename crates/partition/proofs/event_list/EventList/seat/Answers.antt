use Rattle.std.proofs.Common.{◌≡◌, ◌<◌, ℕ, List, length, Option, Some, sym, ap, subst, ◌∙◌}
use Rattle.std.specs.Prelude.{slice_get}
use Rattle.std.specs.Option.{option_map}
use Rattle.partition.specs.Events.{Event}
use Rattle.partition.specs.PackedEvents.{Happenings, event_in}
use Rattle.partition.proofs.Unpacking.{as_many, packed_there, event_there}
use Rattle.partition.proofs.event_list.EventList.seat.Goals as goal

pub get-requires : goal.get-requires
get-requires c =
    let pieces = c.self.inside.list.items in
    let many : length c.args.self.now.items ≡ length pieces = ap (λ (h : Happenings). length h.items) (sym c.self.view_is) ∙ as_many pieces in
    subst (λ (n : ℕ). c.args.at < n) many c.requires

pub seat_in-requires : goal.seat_in-requires
seat_in-requires c = packed_there c.self.inside.list.items c.args.at c.get.result.now c.self.invariant c.get.ensures

pub returns : goal.returns
returns c =
    ap Some c.seat_in.ensures ∙ ap (λ (o : Option (List ℕ)). option_map (λ (e : Event). e.seat) (option_map event_in o)) c.get.ensures
    ∙ ap (option_map (λ (e : Event). e.seat)) (sym (event_there c.self.inside.list.items c.args.at) ∙ ap (λ (h : Happenings). slice_get h.items c.args.at) c.self.view_is)
