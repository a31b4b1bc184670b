use Rattle.std.proofs.Common.{◌≡◌, false, IsTrue, ◌↔◌, Some, sym, ap, ◌∙◌, subst}
use Rattle.std.specs.Prelude.{nat_eq}
use Rattle.std.specs.Option.{option_copied}
use Rattle.settle.specs.Standing.{call_in}
use Rattle.settle.proofs.Looked.{call_here, call_elsewhere, call_nowhere}
use Rattle.settle.proofs.replay.Replay.brings_at.Goals as goal

pub returns-then-message-partition : goal.returns-then-message-partition
returns-then-message-partition c input acts history plays =
    subst (λ m. IsTrue c.has_call.result ↔ (call_in c.args.partition m ≡ Some c.args.event.now.call)) (sym (ap option_copied c.in-Some.is) ∙ c.message.ensures input acts history plays)
    (call_here c.args.partition c.args.event.now.call c.in-Some.message.now c.has_call.result c.if-message-partition.true c.has_call.ensures)

pub returns-else-message-partition : goal.returns-else-message-partition
returns-else-message-partition c input acts history plays =
    subst (λ m. IsTrue (nat_eq c.in-Some.message.now.partition c.args.partition) ↔ (call_in c.args.partition m ≡ Some c.args.event.now.call)) (sym (ap option_copied c.in-Some.is) ∙ c.message.ensures input acts history plays)
    (call_elsewhere c.args.partition c.args.event.now.call c.in-Some.message.now c.if-message-partition.false)

pub returns-in-None : goal.returns-in-None
returns-in-None c input acts history plays =
    subst (λ m. IsTrue false ↔ (call_in c.args.partition m ≡ Some c.args.event.now.call)) (sym (ap option_copied c.in-None.is) ∙ c.message.ensures input acts history plays)
    (call_nowhere c.args.partition c.args.event.now.call)
