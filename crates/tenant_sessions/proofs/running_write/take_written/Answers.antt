use Rattle.std.proofs.Common.{refl, sym, ap, ◌∙◌}
use Rattle.tenant_sessions.proofs.WriteMoves.{write_waits, write_decides, write_finishes, write_ends, write_ignores}
use Rattle.put_all.specs.declared.writer.WriteMove.TheVariants as wrote
use Rattle.tenant_sessions.specs.Moves.{Ended, told as told_of}
use Rattle.tenant_sessions.proofs.Shown.{shows_written, some_is}
use Rattle.tenant_sessions.proofs.running_write.take_written.Goals as goal

pub returns-in-Wait-clause-takes : goal.returns-in-Wait-clause-takes
returns-in-Wait-clause-takes c = λ setup items taken readings parts s is.
    write_waits setup c.args.stamp items taken c.args.message.now is c.args.writer.now c.args.waiting.now s c.offer.new.writer c.forget.new.self
    (c.in-Wait.ensures.takes setup c.args.stamp items taken s.stands is) c.forget.ensures

pub returns-in-Decide-clause-takes : goal.returns-in-Decide-clause-takes
returns-in-Decide-clause-takes c = λ setup items taken readings parts s is.
    write_decides setup c.args.stamp items taken c.args.message.now is c.args.writer.now c.args.waiting.now s c.offer.new.writer c.await_commits.new.waiting c.partitions.result
    (c.in-Decide.ensures.takes setup c.args.stamp items taken s.stands is) (λ replies stands. c.partitions.ensures.written setup c.args.stamp items replies stands) c.await_commits.ensures.awaits.calls

pub returns-in-Done-clause-takes : goal.returns-in-Done-clause-takes
returns-in-Done-clause-takes c = λ setup items taken readings parts s is.
    write_finishes setup c.args.stamp items taken c.args.message.now is c.args.writer.now c.args.waiting.now s c.offer.new.writer _
    (c.in-Done.ensures.takes setup c.args.stamp items taken s.stands is)

pub returns-in-Refused-clause-takes : goal.returns-in-Refused-clause-takes
returns-in-Refused-clause-takes c = λ setup items taken readings parts s is.
    write_ends setup c.args.stamp items taken c.args.message.now is c.args.writer.now c.args.waiting.now s c.offer.new.writer c.args.waiting.now c.discards_of.result c.in-Refused.refusal
    (c.in-Refused.ensures.takes setup c.args.stamp items taken s.stands is) (λ replies stands. c.discards_of.ensures.ending setup items replies stands)

pub returns-in-Ignored-clause-takes : goal.returns-in-Ignored-clause-takes
returns-in-Ignored-clause-takes c = λ setup items taken readings parts s is.
    write_ignores setup c.args.stamp items taken c.args.message.now is c.args.writer.now c.args.waiting.now s c.offer.new.writer
    (c.in-Ignored.ensures.takes setup c.args.stamp items taken s.stands is)

pub returns-in-Wait-clause-shown : goal.returns-in-Wait-clause-shown
returns-in-Wait-clause-shown c = λ setup items taken readings s.
    shows_written setup c.args.stamp items taken c.args.message.now wrote.Wait _ c.offer.new.writer (λ no. cc) (λ P told. tt) (λ P decided. tt) (λ meant plain stands wrote is says. ap told_of (sym (some_is says))) (c.in-Wait.ensures.shown setup c.args.stamp items taken s)

pub returns-in-Decide-clause-shown : goal.returns-in-Decide-clause-shown
returns-in-Decide-clause-shown c = λ setup items taken readings s.
    shows_written setup c.args.stamp items taken c.args.message.now wrote.Decide _ c.offer.new.writer (λ no. cc) (λ P told. refl) (λ P decided. decided) (λ meant plain stands wrote is says. ap told_of (sym (some_is says))) (c.in-Decide.ensures.shown setup c.args.stamp items taken s)

pub returns-in-Done-clause-shown : goal.returns-in-Done-clause-shown
returns-in-Done-clause-shown c = λ setup items taken readings s.
    shows_written setup c.args.stamp items taken c.args.message.now (wrote.Done _) _ c.offer.new.writer (λ no. cc) (λ P told. (refl, told)) (λ P decided. tt) (λ meant plain stands wrote is says. ap told_of (some_is (sym is ∙ wrote.answers))) (c.in-Done.ensures.shown setup c.args.stamp items taken s)

pub returns-in-Refused-clause-shown : goal.returns-in-Refused-clause-shown
returns-in-Refused-clause-shown c = λ setup items taken readings s.
    shows_written setup c.args.stamp items taken c.args.message.now (wrote.Refused c.in-Refused.refusal) _ c.offer.new.writer (λ no. cc) (λ P told. tt) (λ P decided. tt)
    (λ meant plain stands wrote is says. ap told_of (sym (some_is says)) ∙ ap (λ calls. Ended c.in-Refused.refusal calls) (sym (c.discards_of.ensures.ending setup items _ stands))) (c.in-Refused.ensures.shown setup c.args.stamp items taken s)

pub returns-in-Ignored-clause-shown : goal.returns-in-Ignored-clause-shown
returns-in-Ignored-clause-shown c = λ setup items taken readings s.
    shows_written setup c.args.stamp items taken c.args.message.now wrote.Ignored _ c.offer.new.writer (λ no. refl) (λ P told. tt) (λ P decided. tt) (λ meant plain stands wrote is says. cc) (c.in-Ignored.ensures.shown setup c.args.stamp items taken s)
