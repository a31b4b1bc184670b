use Rattle.std.proofs.Common.{◌<◌, ◌^◌, ◌∙◌, arith, rules}
use Rattle.std.proofs.KnownBytes.{Appends-kept}
use Rattle.workload.proofs.Listening.{line_told}
use Rattle.workload.proofs.serve.tell_port.Goals as goal

pub returns : goal.returns
returns g c = record {
  listened =
      let old = g.W.Write.contents c.args.writer.now in
      let written = g.W.Write.contents c.write_text.new.writer in
      let new = g.W.Write.contents c.flush.new.self in
      let small : c.args.port < 2 ^ 16 = omega arith in
      line_told old new c.as_bytes.result.now c.args.port (c.as_bytes.ensures.value ∙ c.in_ok-line.ensures) small
      (Appends-kept old written new c.as_bytes.result.now c.in-Ok.ensures.ok c.in-Err.ensures.bytes);
  port = search rules;
}
