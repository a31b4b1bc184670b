use Rattle.std.proofs.Common.{arith, take, drop, length, ◌≤◌}
use Rattle.std.specs.Io.KnownBytes.{Appends}
use Rattle.std.proofs.KnownBytes.{Appends-trans}
use Rattle.std.proofs.Math.Seq.{take-add}
use Rattle.std.proofs.lemmas.List.{take_rest, length-drop}
use Rattle.server_metrics.proofs.exchange.write_page.Goals as goal

pub loop-preserved : goal.loop-preserved
loop-preserved g c =
    let page = c.args.page.now in
    let at = c.loop.written in
    let more : Appends (g.W.Write.contents c.loop.writer) (g.W.Write.contents c.write.new.self) (take c.in-Ok.taken (drop at page)) = rw take_rest at c.in-Ok.ensures.bytes in
    let within : c.in-Ok.taken ≤ length (drop at page) = rw take_rest at c.in-Ok.ensures.bound in
    record {
      within = omega (arith, length-drop at page, c.loop.invariant.within);
      so_far = rw (take-add at c.in-Ok.taken page) (Appends-trans _ _ _ (take at page) (take c.in-Ok.taken (drop at page)) c.loop.invariant.so_far more);
    }
