use Rattle.std.proofs.Common.{◌≡◌, true, refl, sym, ap, cond}
use Rattle.plain_store.proofs.BadKeys.{good_keys, bad_keys}
use Rattle.plain_store.specs.Run.{are_bad}
use Rattle.plain_store.specs.Writing.{keys_written}
use Rattle.plain_store.specs.declared.refusal.Refusal.TheVariants.{BadItems, StampsUsed}
use Rattle.tenant_sessions.proofs.session.unstamped.Goals as goal

pub returns-in-Some : goal.returns-in-Some
returns-in-Some c = sym (ap (λ b. cond b BadItems StampsUsed) (good_keys (keys_written c.args.items.now) (c.in-Some.ensures.exact.0 refl)))

pub returns-in-None : goal.returns-in-None
returns-in-None c =
    let keys = keys_written c.args.items.now in
    let bad : are_bad keys ≡ true = bad_keys keys (λ good. let some = c.in-None.ensures.exact.1 good in cc) in
    sym (ap (λ b. cond b BadItems StampsUsed) bad)
