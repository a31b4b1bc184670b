use Rattle.std.proofs.Common.{◌≡◌, subst, length, arith}
use Rattle.load.specs.Loading.{TellsAnswer}
use Rattle.load.proofs.ToldKept.{join_answer, joined_to}
use Rattle.load.proofs.joined.tell_joined.Goals as goal

pub returns : goal.returns
returns g c =
    let closed = c.args.closed in
    let answer = c.join-answer in
    let tenants : c.len-tenants.result ≡ length closed.config.limits.items = omega (arith, c.len-tenants.ensures, closed.config.limits.ok.0) in
    let told = subst (λ n. TellsAnswer n answer.result c.args.names.now (g.W.Write.contents c.args.writer.now) (g.W.Write.contents c.tell_answer.new.writer) c.tell_answer.result) tenants c.tell_answer.ensures in
    let is = joined_to closed c.args.epochs.items c.new.result.items answer.result c.new.ensures.items answer.ensures.config answer.ensures.journals answer.ensures.rise answer.ensures.transcripts in
    (answer.result, join_answer closed c.args.epochs.items answer.result is answer.ensures.base (λ wrong. (answer.ensures.numbers wrong).1), told)
