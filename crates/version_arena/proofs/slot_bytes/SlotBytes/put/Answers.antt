use Rattle.std.proofs.Common.{[]}
use Rattle.version_arena.proofs.Stripes.{slot_is, slots-at, slots-set}
use Rattle.version_arena.proofs.slot_bytes.SlotBytes.put.Goals as goal

pub put_pieces-requires-clause-slot : goal.put_pieces-requires-clause-slot
put_pieces-requires-clause-slot c =
    let here = slot_is c.self.inside.pieces c.self.inside.cap c.args.slot c.args.self.now c.self.view_is c.requires.slot in
    rw c.index.ensures here.0

pub returns-clause-others : goal.returns-clause-others
returns-clause-others c =
    let here = slot_is c.self.inside.pieces c.self.inside.cap c.args.slot c.args.self.now c.self.view_is c.requires.slot in
    rw (← c.self.view_is, slots-at c.put_pieces.new.pieces c.self.inside.cap c.args.slot [] here.0)
    (slots-set c.self.inside.pieces c.put_pieces.new.pieces c.self.inside.cap c.args.slot here.0 (rw c.index.ensures at c.put_pieces.ensures.others))

pub returns-clause-put : goal.returns-clause-put
returns-clause-put c =
    let here = slot_is c.self.inside.pieces c.self.inside.cap c.args.slot c.args.self.now c.self.view_is c.requires.slot in
    rw (slots-at c.put_pieces.new.pieces c.self.inside.cap c.args.slot [] here.0) (rw c.index.ensures at c.put_pieces.ensures.put)

pub returns-clause-long : goal.returns-clause-long
returns-clause-long c =
    let here = slot_is c.self.inside.pieces c.self.inside.cap c.args.slot c.args.self.now c.self.view_is c.requires.slot in
    rw (slots-at c.put_pieces.new.pieces c.self.inside.cap c.args.slot [] here.0) (rw c.index.ensures at c.put_pieces.ensures.long)
