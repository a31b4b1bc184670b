use Rattle.std.proofs.Common.{arith}
use Rattle.std.proofs.lemmas.Bool.{ltb-true, lt-ltb}
use Rattle.secondary_index.proofs.Setting.{len_is, room_is}
use Rattle.secondary_index.proofs.tag_index.TagIndex.has_room.Goals as goal

pub returns : goal.returns
returns c =
    let entries = c.self.inside.entries in
    let known = len_is c.args.self.now c.self.inside.room entries.items c.self.invariant.0.in_order c.self.view_is in
    let room = room_is c.args.self.now c.self.inside.room entries.items c.self.invariant.0.in_order c.self.view_is in
    (λ pass. omega (arith, known, room, c.len.ensures, ltb-true _ _ pass), λ less. lt-ltb _ _ (omega (arith, known, room, c.len.ensures)))
