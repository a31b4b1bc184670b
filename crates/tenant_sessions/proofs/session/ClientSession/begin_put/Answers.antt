use Rattle.std.proofs.Common.{◌≡◌, true, not, refl, sym, ap, ◌∙◌}
use Rattle.plain_store.proofs.BadKeys.{good_keys, bad_keys}
use Rattle.plain_store.specs.Run.{are_bad}
use Rattle.plain_store.specs.Writing.{keys_written}
use Rattle.tenant_sessions.proofs.Begun.{bad_put, used_put}
use Rattle.tenant_sessions.proofs.session.ClientSession.begin_put.Goals as goal

pub returns-in_default-write_set_of : goal.returns-in_default-write_set_of
returns-in_default-write_set_of c =
    let keys = keys_written c.args.items.now in
    let bad : are_bad keys ≡ true = bad_keys keys (λ good. let some = c.in_default-write_set_of.ensures.exact.1 good in cc) in
    record { refused = bad_put c.args.self.now (sym c.test_idle.ensures ∙ c.in_default.is) c.args.items.now bad; passed = tt; begun = tt }

pub returns-in_default-next_stamp : goal.returns-in_default-next_stamp
returns-in_default-next_stamp c =
    let good = good_keys (keys_written c.args.items.now) (c.in-Some.ensures.exact.0 refl) in
    record { refused = used_put c.args.self.now (sym c.test_idle.ensures ∙ c.in_default.is) c.args.items.now good (sym c.in_default-next_stamp.ensures.used); passed = tt; begun = tt }

pub invariant_of-result-clause-tested : goal.invariant_of-result-clause-tested
invariant_of-result-clause-tested c = record {
  stamped = c.in-Some-next_stamp.ensures.above;
  writable = ap not (good_keys (keys_written c.args.items.now) (c.in-Some.ensures.exact.0 refl));
  writes = c.in-Some.ensures.value;
}
