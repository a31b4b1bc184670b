use Rattle.std.proofs.Common.{refl}
use Rattle.tenant_sessions.proofs.FindMoves.{find_waits, find_asks, find_begins, find_lists, find_restarts, find_fails, find_ignores}
use Rattle.tenant_sessions.proofs.running_search.take_found.Goals as goal

pub returns-in-Wait-clause-takes : goal.returns-in-Wait-clause-takes
returns-in-Wait-clause-takes c = λ setup tag taken parts s is.
    find_waits setup tag taken c.args.message.now is c.args.search.now c.args.reader.now c.args.waiting.now s c.offer.new.search c.offer.new.reader c.forget.new.self
    (c.in-Wait.ensures.takes setup tag taken s.stands is) c.forget.ensures

pub returns-in-Begin-clause-takes : goal.returns-in-Begin-clause-takes
returns-in-Begin-clause-takes c = λ setup tag taken parts s is.
    find_begins setup tag taken c.args.message.now is c.args.search.now c.args.reader.now c.args.waiting.now s c.offer.new.search c.offer.new.reader c.args.parts c.read.new.self c.in-Begin.keys c.as_slice.result.now parts
    (c.in-Begin.ensures.takes setup tag taken s.stands is) c.in-Begin.ensures.few
    (λ few. c.as_slice.ensures.value) c.read.ensures.awaits.calls

pub returns-in-Ask-clause-takes : goal.returns-in-Ask-clause-takes
returns-in-Ask-clause-takes c = λ setup tag taken parts s is.
    find_asks setup tag taken c.args.message.now is c.args.search.now c.args.reader.now c.args.waiting.now s c.offer.new.search c.offer.new.reader c.args.parts c.read_late.new.self c.in-Ask.late parts
    (c.in-Ask.ensures.takes setup tag taken s.stands is) c.read_late.ensures.awaits.calls

pub returns-in-List-clause-takes : goal.returns-in-List-clause-takes
returns-in-List-clause-takes c = λ setup tag taken parts s is.
    find_lists setup tag taken c.args.message.now is c.args.search.now c.args.reader.now c.args.waiting.now s c.offer.new.search c.offer.new.reader _ (c.in-List.ensures.takes setup tag taken s.stands is)

pub returns-in-Restart-clause-takes : goal.returns-in-Restart-clause-takes
returns-in-Restart-clause-takes c = λ setup tag taken parts s is.
    find_restarts setup tag taken c.args.message.now is c.args.search.now c.args.reader.now c.args.waiting.now s c.offer.new.search c.offer.new.reader _ _ (c.in-Restart.ensures.takes setup tag taken s.stands is)

pub returns-in-TooMany-clause-takes : goal.returns-in-TooMany-clause-takes
returns-in-TooMany-clause-takes c = λ setup tag taken parts s is.
    find_fails setup tag taken c.args.message.now is c.args.search.now c.args.reader.now c.args.waiting.now s c.offer.new.search c.offer.new.reader c.args.waiting.now c.none.result _ _
    (c.in-TooMany.ensures.takes setup tag taken s.stands is) refl c.none.ensures

pub returns-in-Torn-clause-takes : goal.returns-in-Torn-clause-takes
returns-in-Torn-clause-takes c = λ setup tag taken parts s is.
    find_fails setup tag taken c.args.message.now is c.args.search.now c.args.reader.now c.args.waiting.now s c.offer.new.search c.offer.new.reader c.args.waiting.now c.none-in-Torn.result _ _
    (c.in-Torn.ensures.takes setup tag taken s.stands is) refl c.none-in-Torn.ensures

pub returns-in-Ignored-clause-takes : goal.returns-in-Ignored-clause-takes
returns-in-Ignored-clause-takes c = λ setup tag taken parts s is.
    find_ignores setup tag taken c.args.message.now is c.args.search.now c.args.reader.now c.args.waiting.now s c.offer.new.search c.offer.new.reader
    (c.in-Ignored.ensures.takes setup tag taken s.stands is)
