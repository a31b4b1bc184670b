use Rattle.std.proofs.Common.{◌≡◌, List, sym, subst, refl}
use Rattle.plain_store.specs.Words.{◌∈◌}
use Rattle.history.specs.declared.entry.HistoryEntry.{HistoryEntry}
use Rattle.history.specs.declared.entry.HistoryEntry.TheVariants.{GivenUp}
use Rattle.history.proofs.Lists.{prefix_has}
use Rattle.hub.specs.Evidence.{IsOfClient}
use Rattle.hub.proofs.operation.enter_given_up.Goals as goal

pub returns-clause-legal : goal.returns-clause-legal
returns-clause-legal g c was = ∣ c.learn-2.ensures.legal ∣₁

-- the client's word has the entry, and it is seen
pub returns-clause-given_up : goal.returns-clause-given_up
returns-clause-given_up g c did =
    let its = c.in-Some.its in
    let seen = c.learn-2.new.self in
    let of_tenant : its.tenant ≡ c.args.name.now.tenant = (subst (IsOfClient c.args.name.now) c.in-Some.is c.requires).0 in
    let P : List HistoryEntry → Type 0 = λ l. GivenUp (record { word = its.word; tenant = its.tenant; stamp = c.args.stamp }) ∈ l in
    record {
      decision = record { word = its.word; tenant = its.tenant; stamp = c.args.stamp };
      stands = prefix_has c.seen.result seen _ c.learn-2.ensures.that (subst P (sym c.seen.ensures) c.in-Ok.ensures.given_up);
      its = (of_tenant, refl);
    }
