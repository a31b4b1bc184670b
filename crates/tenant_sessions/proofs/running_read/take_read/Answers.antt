use Rattle.std.proofs.Common.{subst, sym, ap, ◌∙◌, refl}
use Rattle.get_all.specs.Reader.{TakesRead, told_by}
use Rattle.get_all.specs.ReadProgress.{late_by}
use Rattle.tenant_sessions.proofs.ReadMoves.{read_waits, read_asks, read_ignores}
use Rattle.get_all.specs.declared.reader.ReadMove.TheVariants as reads
use Rattle.get_all.specs.declared.reader.ReadMoveKind.{ReadMoveKind}
use Rattle.tenant_sessions.specs.Moves.{Ended, Read, told as told_of}
use Rattle.tenant_sessions.specs.Showing.{Offers}
use Rattle.plain_store.specs.declared.refusal.Refusal.TheVariants.{Torn}
use Rattle.tenant_sessions.proofs.Shown.{shows_read, some_is}
use Rattle.tenant_sessions.proofs.running_read.take_read.Goals as goal

pub returns-in-Wait-clause-takes : goal.returns-in-Wait-clause-takes
returns-in-Wait-clause-takes c = λ setup keys taken parts s is.
    read_waits setup keys taken c.args.message.now is c.args.reader.now c.args.waiting.now s c.offer.new.reader c.forget.new.self
    (subst (λ kind. TakesRead keys taken c.args.message.now (told_by c.offer.new.reader kind) c.offer.new.reader) c.in-Wait.is (c.offer.ensures.takes setup keys taken s.stands is)) c.forget.ensures

pub returns-in-Ask-clause-takes : goal.returns-in-Ask-clause-takes
returns-in-Ask-clause-takes c = λ setup keys taken parts s is.
    let after = c.offer.new.reader in
    read_asks setup keys taken c.args.message.now is c.args.reader.now c.args.waiting.now s after c.args.parts c.await_late.new.waiting (late_by after.slots) parts
    (subst (λ kind. TakesRead keys taken c.args.message.now (told_by c.offer.new.reader kind) c.offer.new.reader) c.in-Ask.is (c.offer.ensures.takes setup keys taken s.stands is)) c.await_late.ensures.awaits.calls

pub returns-in-Ignored-clause-takes : goal.returns-in-Ignored-clause-takes
returns-in-Ignored-clause-takes c = λ setup keys taken parts s is.
    read_ignores setup keys taken c.args.message.now is c.args.reader.now c.args.waiting.now s c.offer.new.reader
    (subst (λ kind. TakesRead keys taken c.args.message.now (told_by c.offer.new.reader kind) c.offer.new.reader) c.in-Ignored.is (c.offer.ensures.takes setup keys taken s.stands is))

pub returns-in-Wait-clause-shown : goal.returns-in-Wait-clause-shown
returns-in-Wait-clause-shown c = λ setup keys taken s.
    shows_read setup keys taken c.args.message.now reads.Wait _ c.offer.new.reader (λ no. cc) (λ P read. tt) tt (λ plain says. ap told_of (sym (some_is says)))
    (subst (λ (kind : ReadMoveKind). Offers keys taken c.args.message.now (told_by c.offer.new.reader kind) c.offer.new.reader) c.in-Wait.is (c.offer.ensures.shown keys taken s))

pub returns-in-Ask-clause-shown : goal.returns-in-Ask-clause-shown
returns-in-Ask-clause-shown c = λ setup keys taken s.
    shows_read setup keys taken c.args.message.now (reads.Ask _) _ c.offer.new.reader (λ no. cc) (λ P read. tt) tt (λ plain says. ap told_of (sym (some_is says)))
    (subst (λ (kind : ReadMoveKind). Offers keys taken c.args.message.now (told_by c.offer.new.reader kind) c.offer.new.reader) c.in-Ask.is (c.offer.ensures.shown keys taken s))

pub returns-in-Read-clause-shown : goal.returns-in-Read-clause-shown
returns-in-Read-clause-shown c = λ setup keys taken s.
    shows_read setup keys taken c.args.message.now (reads.Read _) _ c.offer.new.reader (λ no. cc) (λ P read. subst P (sym c.readings_into.ensures) read) tt (λ plain says. ap told_of (sym (some_is says)) ∙ ap Read (sym c.readings_into.ensures))
    (subst (λ (kind : ReadMoveKind). Offers keys taken c.args.message.now (told_by c.offer.new.reader kind) c.offer.new.reader) c.in-Read.is (c.offer.ensures.shown keys taken s))

pub returns-in-Restart-clause-shown : goal.returns-in-Restart-clause-shown
returns-in-Restart-clause-shown c = λ setup keys taken s.
    shows_read setup keys taken c.args.message.now (reads.Restart _ _) _ c.offer.new.reader (λ no. cc) (λ P read. tt) tt (λ plain says. ap told_of (sym (some_is says)))
    (subst (λ (kind : ReadMoveKind). Offers keys taken c.args.message.now (told_by c.offer.new.reader kind) c.offer.new.reader) c.in-Restart.is (c.offer.ensures.shown keys taken s))

pub returns-in-Torn-clause-shown : goal.returns-in-Torn-clause-shown
returns-in-Torn-clause-shown c = λ setup keys taken s.
    shows_read setup keys taken c.args.message.now reads.Torn _ c.offer.new.reader (λ no. cc) (λ P read. tt) tt (λ plain says. ap told_of (sym (some_is says)) ∙ ap (Ended Torn) (sym c.none.ensures))
    (subst (λ (kind : ReadMoveKind). Offers keys taken c.args.message.now (told_by c.offer.new.reader kind) c.offer.new.reader) c.in-Torn.is (c.offer.ensures.shown keys taken s))

pub returns-in-Ignored-clause-shown : goal.returns-in-Ignored-clause-shown
returns-in-Ignored-clause-shown c = λ setup keys taken s.
    shows_read setup keys taken c.args.message.now reads.Ignored _ c.offer.new.reader (λ no. refl) (λ P read. tt) tt (λ plain says. cc)
    (subst (λ (kind : ReadMoveKind). Offers keys taken c.args.message.now (told_by c.offer.new.reader kind) c.offer.new.reader) c.in-Ignored.is (c.offer.ensures.shown keys taken s))
