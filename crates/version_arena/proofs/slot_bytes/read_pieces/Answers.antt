use Rattle.std.proofs.Common.{refl, arith}
use Rattle.version_arena.specs.Stripes.{bytes_of}
use Rattle.version_arena.proofs.Stripes.{read_none, read_more, read_all, next_found}
use Rattle.version_arena.proofs.slot_bytes.read_pieces.Goals as goal

pub loop-done-init : goal.loop-done-init
loop-done-init c = record { read = read_none c.args.pieces.now c.args.cap c.args.slot c.args.out.now; long = refl }

pub get-requires : goal.get-requires
get-requires c =
    let bytes = bytes_of c.args.pieces.now c.args.cap c.args.slot in
    let next = next_found c.args.pieces.now c.args.cap c.loop-done.at bytes c.loop-done.out c.loop-done.done c.loop-done.invariant.read (omega (arith, c.loop-done-test.true, c.requires.there)) in
    (next.1, next.2)

pub loop-done-preserved : goal.loop-done-preserved
loop-done-preserved c =
    let bytes = bytes_of c.args.pieces.now c.args.cap c.args.slot in
    record {
      read = read_more c.args.pieces.now c.args.cap c.loop-done.at bytes c.loop-done.out c.lay_piece.new.out c.loop-done.done c.get.result.now c.loop-done.invariant.read
          (omega (arith, c.loop-done-test.true, c.requires.there)) c.get.ensures c.lay_piece.ensures.whole c.lay_piece.ensures.laid;
      long = omega (arith, c.loop-done.invariant.long, c.lay_piece.auto.out);
    }

pub returns : goal.returns
returns c =
    read_all c.args.pieces.now c.args.cap c.loop-done.at (bytes_of c.args.pieces.now c.args.cap c.args.slot) c.loop-done.out c.loop-done.done c.args.len c.loop-done.invariant.read
    (omega (arith, c.loop-done-test.false))
