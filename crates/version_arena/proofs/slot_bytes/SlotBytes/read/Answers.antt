use Rattle.std.proofs.Common.{take, sym, ap, ◌∙◌}
use Rattle.version_arena.specs.Stripes.{bytes_of}
use Rattle.version_arena.proofs.Stripes.{slot_is}
use Rattle.version_arena.proofs.slot_bytes.SlotBytes.read.Goals as goal

pub read_pieces-requires-clause-there : goal.read_pieces-requires-clause-there
read_pieces-requires-clause-there c =
    let here = slot_is c.self.inside.pieces c.self.inside.cap c.args.slot c.args.self.now c.self.view_is c.requires.slot in
    rw (c.index.ensures, ← here.1) c.requires.there

pub returns : goal.returns
returns c =
    let here = slot_is c.self.inside.pieces c.self.inside.cap c.args.slot c.args.self.now c.self.view_is c.requires.slot in
    c.read_pieces.ensures ∙ ap (λ slot. take c.args.len (bytes_of c.self.inside.pieces c.self.inside.cap slot)) c.index.ensures
    ∙ ap (take c.args.len) (sym here.1)
