use Rattle.std.proofs.Common.{Ok, sym, ap, ◌∙◌, subst, rules}
use Rattle.plain_store.specs.Words.{IsAct}
use Rattle.plain_store.specs.declared.step.Act.TheVariants.{Put, Get as GetAll}
use Rattle.world.specs.Standing.{ServesOrStays, answered_in_place}
use Rattle.world.proofs.NoShelfTouched.{serves_off}
use Rattle.world.specs.Memory.{AsksLast}
use Rattle.world.specs.Served.{ServesAct}
use Rattle.world.proofs.tenant.Tenant.step.Goals as goal

pub returns-in-Hello : goal.returns-in-Hello
returns-in-Hello c = record {
  serves = serves_off c.args.self.now c.hello.new.self c.args.shelves.now c.args.number c.args.act.now _ (answered_in_place c.hello.result c.hello.new.answer) c.in-Hello.is c.hello.ensures.takes tt;
  asks = subst (λ a. AsksLast c.args.self.now a (answered_in_place c.hello.result c.hello.new.answer)) (sym c.in-Hello.is) c.hello.ensures.asks;
  others = search rules;
  limits = search rules;
}

pub returns-in-Put : goal.returns-in-Put
returns-in-Put c = record {
  serves =
      serves_off c.args.self.now c.put.new.self c.args.shelves.now c.args.number c.args.act.now (Put c.in-Put.client c.as_slice.result.now) (answered_in_place c.put.result c.put.new.answer) (c.in-Put.is ∙ ap (Put c.in-Put.client) (sym c.as_slice.ensures))
      (c.put.ensures.takes (subst IsAct c.in-Put.is c.requires.valid)) tt;
  asks = subst (λ a. AsksLast c.args.self.now a (answered_in_place c.put.result c.put.new.answer)) (sym (c.in-Put.is ∙ ap (Put c.in-Put.client) (sym c.as_slice.ensures))) c.put.ensures.asks;
  others = search rules;
  limits = search rules;
}

pub returns-in-Get : goal.returns-in-Get
returns-in-Get c = record {
  serves =
      serves_off c.args.self.now c.get.new.self c.args.shelves.now c.args.number c.args.act.now (GetAll c.in-Get.client c.as_slice-in-Get.result.now) (answered_in_place c.get.result c.get.new.answer) (c.in-Get.is ∙ ap (GetAll c.in-Get.client) (sym c.as_slice-in-Get.ensures))
      (c.get.ensures.takes (subst IsAct c.in-Get.is c.requires.valid)) tt;
  asks = subst (λ a. AsksLast c.args.self.now a (answered_in_place c.get.result c.get.new.answer)) (sym (c.in-Get.is ∙ ap (GetAll c.in-Get.client) (sym c.as_slice-in-Get.ensures))) c.get.ensures.asks;
  others = search rules;
  limits = search rules;
}

pub returns-in-Find : goal.returns-in-Find
returns-in-Find c = record {
  serves = serves_off c.args.self.now c.find.new.self c.args.shelves.now c.args.number c.args.act.now _ (answered_in_place c.find.result c.find.new.answer) c.in-Find.is (c.find.ensures.takes (subst IsAct c.in-Find.is c.requires.valid)) tt;
  asks = subst (λ a. AsksLast c.args.self.now a (answered_in_place c.find.result c.find.new.answer)) (sym c.in-Find.is) c.find.ensures.asks;
  others = search rules;
  limits = search rules;
}

pub returns-in-Lose : goal.returns-in-Lose
returns-in-Lose c = record {
  serves = serves_off c.args.self.now c.lose.new.self c.args.shelves.now c.args.number c.args.act.now _ (Ok c.lose.new.answer) c.in-Lose.is c.lose.ensures.takes tt;
  asks = search rules;
  others = search rules;
  limits = search rules;
}

pub returns-in-Retry : goal.returns-in-Retry
returns-in-Retry c = record {
  serves = serves_off c.args.self.now c.retry.new.self c.args.shelves.now c.args.number c.args.act.now _ (answered_in_place c.retry.result c.retry.new.answer) c.in-Retry.is c.retry.ensures.takes tt;
  asks = subst (λ a. AsksLast c.args.self.now a (answered_in_place c.retry.result c.retry.new.answer)) (sym c.in-Retry.is) c.retry.ensures.asks;
  others = search rules;
  limits = search rules;
}

pub returns-in-Stop : goal.returns-in-Stop
returns-in-Stop c = record {
  serves = serves_off c.args.self.now c.stop.new.self c.args.shelves.now c.args.number c.args.act.now _ (Ok c.stop.new.answer) c.in-Stop.is c.stop.ensures.takes tt;
  asks = search rules;
  others = search rules;
  limits = search rules;
}

pub returns-in-Collect : goal.returns-in-Collect
returns-in-Collect c = record {
  serves = subst (λ a. ServesOrStays c.args.self.now c.args.self.now c.args.shelves.now c.collect.new.shelves c.args.number a (Ok c.collect.new.answer)) (sym c.in-Collect.is) c.collect.ensures.serves;
  asks = search rules;
  others = search rules;
  limits = search rules;
}

pub returns-in-Keep : goal.returns-in-Keep
returns-in-Keep c = record {
  serves = serves_off c.args.self.now c.set_keep.new.self c.args.shelves.now c.args.number c.args.act.now _ (Ok c.set_keep.new.answer) c.in-Keep.is c.set_keep.ensures.takes tt;
  asks = search rules;
  others = search rules;
  limits = search rules;
}

pub returns-in-Deliver : goal.returns-in-Deliver
returns-in-Deliver c = subst (λ a. ServesAct a c.args.number c.args.self.now c.deliver.new.self c.args.shelves.now c.deliver.new.shelves (answered_in_place c.deliver.result c.deliver.new.answer)) (sym c.in-Deliver.is) c.deliver.ensures
