use Rattle.std.proofs.Common.{refl}
use Rattle.plain_store.specs.declared.answer.Answer.TheVariants.{Refused}
use Rattle.plain_store.specs.declared.refusal.Refusal.TheVariants.{Busy}
use Rattle.server_sessions.proofs.ToldOf.{asked_find, asked_get, asked_put}
use Rattle.server_sessions.proofs.given.ask_seat.Goals as goal

pub returns-then-not-newest-clause-answered : goal.returns-then-not-newest-clause-answered
returns-then-not-newest-clause-answered g c = λ is. (
  c.put_all_into.new.answer,
  refl,
  asked_put c.args.newest _ c.args.request.now _ c.as_slice-items.result.now c.args.seat.now c.put_all_into.new.self c.put_all_into.new.answer c.in-Put.is c.as_slice-items.ensures
      (rw c.if-not-newest.true (record { operated = c.put_all_into.ensures.operated; reports = (c.put_all_into.ensures.stamp, c.put_all_into.ensures.written, c.put_all_into.ensures.committed) })),
)

pub returns-in-Get-clause-answered : goal.returns-in-Get-clause-answered
returns-in-Get-clause-answered g c = λ is. (
  c.get_all_into.new.answer,
  refl,
  asked_get c.args.newest _ c.args.request.now _ c.as_slice.result.now c.args.seat.now c.get_all_into.new.self c.get_all_into.new.answer c.in-Get.is c.as_slice.ensures
      (record { operated = c.get_all_into.ensures.operated; reports = (c.get_all_into.ensures.read, c.get_all_into.ensures.atomic, c.get_all_into.ensures.fresh) }),
)

pub returns-in-Find-clause-answered : goal.returns-in-Find-clause-answered
returns-in-Find-clause-answered g c = λ is. (
  c.find_into.new.answer,
  refl,
  asked_find c.args.newest _ c.args.request.now c.in-Find.tag c.args.seat.now c.find_into.new.self c.find_into.new.answer c.in-Find.is
      (record { operated = c.find_into.ensures.operated; reports = (c.find_into.ensures.listed, c.find_into.ensures.atomic, c.find_into.ensures.fresh) }),
)

pub returns-in-Hello-clause-answered : goal.returns-in-Hello-clause-answered
returns-in-Hello-clause-answered g c = λ is. (Refused Busy, c.refuse.ensures, rw c.in-Hello.is (refl, refl))

pub returns-in-Keep-clause-answered : goal.returns-in-Keep-clause-answered
returns-in-Keep-clause-answered g c = λ is. (_, rw c.tenant.ensures at c.set_keep.ensures, rw c.in-Keep.is (refl, refl))
