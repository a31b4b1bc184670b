use Rattle.std.proofs.Common.{◌≡◌, List, length, count_by, sym, ap, subst, ◌∙◌, arith}
use Rattle.version_chain.specs.declared.version.Version.{Version}
use Rattle.version_chain.specs.Chain.{is_of_tenant}
use Rattle.prepare_commit.specs.InBlock.{Parts}
use Rattle.prepare_commit.specs.Bases.{Frozen, IsNew, NameEach}
use Rattle.prepare_commit.proofs.cell.Cell.at.Goals as goal
use Rattle.prepare_commit.proofs.cell.Cell.at.Goals.{In_ok-cell}

new : (c : In_ok-cell) → IsNew c.args.base.now.room c.in_ok-cell.cell
new c = let P : Frozen → Parts → Type 0 = λ b p. IsNew b.room p in subst (λ b. P b c.in_ok-cell.cell) c.base.view_is c.in_ok-cell.ensures.new

pub by_stamps-requires : goal.by_stamps-requires
by_stamps-requires c = omega (arith, c.base.invariant.1.slots, ap (λ (vs : List Version). length vs) c.in_ok-versions.ensures)

pub fill-requires : goal.fill-requires
fill-requires c =
    let at = (goal.at.fill-requires c).In_ok-cell in
    record {
      versions = c.in_ok-versions.ensures ∙ ap (λ (b : Frozen). b.versions) c.base.view_is;
      new = new at;
      none = subst (λ tenant. count_by (is_of_tenant tenant) c.args.block.now ≡ 0) (sym c.in_ok-cell.ensures.tenant) c.requires.none;
      share = omega (arith, c.requires.share, (new at).share);
      each = rw c.deref.ensures.value (subst (λ (vs : List Version). NameEach c.in_ok-places.places.items vs) (c.in_ok-versions.ensures ∙ ap (λ (b : Frozen). b.versions) c.base.view_is) c.in_ok-places.ensures);
    }

pub returns-clause-chains : goal.returns-clause-chains
returns-clause-chains c =
    let at = (goal.at.returns-clause-chains c).In_ok-cell in
    (c.fill.ensures.own.shape.tenant ∙ c.in_ok-cell.ensures.tenant, c.fill.ensures.own.shape.share ∙ (new at).share)

pub returns-clause-live : goal.returns-clause-live
returns-clause-live c =
    let at = (goal.at.returns-clause-live c).In_ok-cell in
    omega (arith, c.fill.ensures.own.live, c.fill.ensures.opened.used, (new at).used)
