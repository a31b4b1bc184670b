use Rattle.std.proofs.Common.{◌≡◌, ◌∙◌, ℕ, List, sym, subst}
use Rattle.std.proofs.Math.Logic.{∥∥₁_map}
use Rattle.plain_store.specs.Words.{◌∈◌}
use Rattle.history.specs.declared.entry.HistoryEntry.{HistoryEntry}
use Rattle.history.specs.declared.entry.HistoryEntry.TheVariants.{Decided}
use Rattle.history.specs.Legal.{MayDecide}
use Rattle.history.proofs.Lists.{prefix_has}
use Rattle.tenant_sessions.specs.declared.moves.MoveKind.TheVariants.{Decided as Decides}
use Rattle.hub.specs.Evidence.{IsOfClient}
use Rattle.hub.proofs.operation.enter_decided.Goals as goal

pub returns-clause-legal : goal.returns-clause-legal
returns-clause-legal g c was = ∣ c.learn-2.ensures.legal ∣₁

-- it may be decided, whichever word enters that
pub decide-requires : goal.decide-requires
decide-requires g c =
    let its = c.in-Some.its in
    let of_tenant : its.tenant ≡ c.args.name.now.tenant = (subst (IsOfClient c.args.name.now) c.in-Some.is c.requires.whose).0 in
    let P : ℕ → Type 0 = λ t. MayDecide c.args.seen.now (record { word = its.word; tenant = t; stamp = c.in-Decided.stamp }) in
    ∥∥₁_map (c.requires.decided c.in-Decided.stamp c.in-Decided.is) (λ may. subst P (sym of_tenant) (may its.word))

-- the client's word has the entry, and it is seen
pub returns-clause-decided : goal.returns-clause-decided
returns-clause-decided g c did stamp is =
    let its = c.in-Some.its in
    let seen = c.learn-2.new.self in
    let of_tenant : its.tenant ≡ c.args.name.now.tenant = (subst (IsOfClient c.args.name.now) c.in-Some.is c.requires.whose).0 in
    let both : Decides c.in-Decided.stamp ≡ Decides stamp = sym c.in-Decided.is ∙ is in
    let same : c.in-Decided.stamp ≡ stamp = cc in
    let P : List HistoryEntry → Type 0 = λ l. Decided (record { word = its.word; tenant = its.tenant; stamp = c.in-Decided.stamp }) ∈ l in
    record {
      decision = record { word = its.word; tenant = its.tenant; stamp = c.in-Decided.stamp };
      stands = prefix_has c.seen.result seen _ c.learn-2.ensures.that (subst P (sym c.seen.ensures) c.in-Ok.ensures.decided);
      its = (of_tenant, same);
    }
