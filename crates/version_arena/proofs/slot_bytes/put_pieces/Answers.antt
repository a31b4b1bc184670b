use Rattle.std.proofs.Common.{◌≡◌, ℕ, ◌+◌, ◌-◌, ◌*◌, ◌<◌, Some, drop, take, length, set, suc, arith, sym, ap, subst, ◌∙◌, length-set}
use Rattle.std.proofs.lemmas.Nat.{mul-add-lt}
use Rattle.version_arena.specs.Stripes.{bytes_of}
use Rattle.version_arena.proofs.Stripes.{AreLaid, laid_more, laid_all, written_other, other_slot, row_up}
use Rattle.version_arena.proofs.slot_bytes.put_pieces.Goals as goal

pub loop-left-preserved : goal.loop-left-preserved
loop-left-preserved c =
    let inv = c.loop-left.invariant in
    let pieces = c.loop-left.pieces in
    let cap = c.args.cap in
    let source = c.args.source.now in
    let nth : ℕ = c.loop-left.left - 1 in
    let here : ℕ = nth * cap + c.args.slot in
    let up : c.loop-left.left ≡ suc nth = omega (arith, c.loop-left-test.true) in
    let within : here < length pieces = omega (arith, inv.stripes.rows, mul-add-lt nth cap c.args.slot 12 (omega (arith, up, inv.few)) c.requires.slot) in
    let written : c.overwrite.new.self ≡ set pieces here (Some (take 64 (drop (nth * 64) source))) =
    c.overwrite.ensures ∙ ap (λ piece. set pieces here (Some piece)) c.piece_of-piece.ensures in
    let next : AreLaid pieces cap (12 - c.loop-left.left) (here + cap) source (nth * 64 + 64) c.args.len =
    subst (λ (at : ℕ). AreLaid pieces cap (12 - c.loop-left.left) at source (nth * 64 + 64) c.args.len) (ap (λ n. n * cap + c.args.slot) up ∙ row_up nth cap c.args.slot)
    (subst (λ (from : ℕ). AreLaid pieces cap (12 - c.loop-left.left) (c.loop-left.left * cap + c.args.slot) source from c.args.len) (omega (arith, up)) inv.laid) in
    let laid : AreLaid c.overwrite.new.self cap (suc (12 - c.loop-left.left)) here source (nth * 64) c.args.len =
    subst (λ (ps : _). AreLaid ps cap (suc (12 - c.loop-left.left)) here source (nth * 64) c.args.len) (sym written)
    (laid_more pieces cap (12 - c.loop-left.left) here source (nth * 64) c.args.len c.requires.stripes.some within (omega (arith, up, inv.room, c.requires.room)) next) in
    record {
      stripes = record {
        some = c.requires.stripes.some;
        few = c.requires.stripes.few;
        rows = ap length written ∙ length-set pieces here (Some (take 64 (drop (nth * 64) source))) ∙ inv.stripes.rows;
      };
      others = λ other there apart.
          ap (λ ps. bytes_of ps cap other) written
          ∙ written_other pieces cap other here (Some (take 64 (drop (nth * 64) source))) (other_slot cap c.args.slot other nth c.requires.slot there apart)
          ∙ inv.others other there apart;
      few = omega (arith, up, inv.few);
      room = omega (arith, up, inv.room);
      laid = subst (λ (count : ℕ). AreLaid c.overwrite.new.self cap count here source (nth * 64) c.args.len) (omega (arith, up, inv.few)) laid;
    }

pub returns-clause-put : goal.returns-clause-put
returns-clause-put c =
    (laid_all c.loop-left.pieces c.args.cap c.args.slot c.args.source.now c.args.len c.loop-left.left (omega (arith, c.loop-left-test.false)) c.loop-left.invariant.laid).0

pub returns-clause-long : goal.returns-clause-long
returns-clause-long c =
    (laid_all c.loop-left.pieces c.args.cap c.args.slot c.args.source.now c.args.len c.loop-left.left (omega (arith, c.loop-left-test.false)) c.loop-left.invariant.laid).1
