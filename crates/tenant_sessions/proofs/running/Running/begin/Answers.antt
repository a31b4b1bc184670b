use Rattle.std.proofs.Common.{◌<◌, sym, ap, subst}
use Rattle.plain_store.specs.History.{Intent}
use Rattle.tenant_sessions.specs.Held.{request_begun, stamp_or}
use Rattle.tenant_sessions.specs.Running.{MayBegin, Starts}
use Rattle.tenant_sessions.proofs.running.Running.begin.Goals as goal

pub begin_put-requires-clause-written : goal.begin_put-requires-clause-written
begin_put-requires-clause-written c = subst (λ k. 0 < stamp_or 1 k) c.in-Put.is c.requires.tested.stamped

pub returns-in-Put : goal.returns-in-Put
returns-in-Put c = λ setup parts fits.
    let is = ap request_begun c.in-Put.is in
    let new = c.begin_put.new.self in
    subst (λ (r : Intent). Starts setup r new) (sym is) (c.begin_put.ensures.1 setup parts (subst MayBegin is fits))

pub returns-in-Get : goal.returns-in-Get
returns-in-Get c = λ setup parts fits.
    let is = ap request_begun c.in-Get.is in
    let new = c.begin_get.new.self in
    subst (λ (r : Intent). Starts setup r new) (sym is) (c.begin_get.ensures.1 setup parts (subst MayBegin is fits))

pub returns-in-Find : goal.returns-in-Find
returns-in-Find c = λ setup parts fits.
    let is = ap request_begun c.in-Find.is in
    let new = c.begin_find.new.self in
    subst (λ (r : Intent). Starts setup r new) (sym is) (c.begin_find.ensures setup parts)
