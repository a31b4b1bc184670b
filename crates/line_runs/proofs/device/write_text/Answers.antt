use Rattle.std.proofs.Common.{arith, take, drop, length, ◌≤◌}
use Rattle.std.specs.Io.KnownBytes.{Appends}
use Rattle.std.proofs.KnownBytes.{Appends-trans}
use Rattle.std.proofs.Math.Seq.{take-add}
use Rattle.std.proofs.lemmas.List.{take_rest, length-drop}
use Rattle.line_runs.proofs.device.write_text.Goals as goal

pub loop-written-preserved : goal.loop-written-preserved
loop-written-preserved g c =
    let text = c.args.text.now in
    let at = c.loop-written.written in
    let more : Appends (g.W.Write.contents c.loop-written.writer) (g.W.Write.contents c.write.new.self) (take c.in-Ok.taken (drop at text)) = rw take_rest at c.in-Ok.ensures.bytes in
    let within : c.in-Ok.taken ≤ length (drop at text) = rw take_rest at c.in-Ok.ensures.bound in
    record {
      within = omega (arith, length-drop at text);
      so_far = rw (take-add at c.in-Ok.taken text) (Appends-trans _ _ _ (take at text) (take c.in-Ok.taken (drop at text)) c.loop-written.invariant.so_far more);
    }
