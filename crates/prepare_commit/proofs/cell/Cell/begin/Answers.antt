use Rattle.std.proofs.Common.{List, length, sym, ap, subst, ◌∙◌, arith}
use Rattle.prepare_commit.specs.Begun.{Holding, LieAt, holdings}
use Rattle.prepare_commit.specs.InBlock.{Parts}
use Rattle.prepare_commit.specs.Layout.{chain_lists}
use Rattle.prepare_commit.proofs.Holding.{holdings_long}
use Rattle.prepare_commit.proofs.Lying.{lies_at}
use Rattle.prepare_commit.proofs.Places.{as_many}
use Rattle.prepare_commit.proofs.Since.{kept_begun}
use Rattle.prepare_commit.proofs.cell.Cell.begin.Goals as goal

pub set_spots-requires : goal.set_spots-requires
set_spots-requires c =
    let it = c.requires in
    let lies = lies_at it.0 _ _ c.self.view_is it.1 in
    let cell = c.self.inside in
    let here = it.2 ∙ ap (λ (p : Parts). holdings p.items (chain_lists it.0 p.chains)) (sym c.self.view_is) in
    record {
      many = as_many _ _ _ c.parts.ensures ∙ ap (λ (all : List Holding). length all) here ∙ holdings_long cell.entries.items (chain_lists it.0 cell.versions.chains);
      known = λ k d w. (let given = lies.holds.laid.given k d w in omega (arith, given, c.self.invariant.0, c.self.invariant.9));
      apart = lies.holds.laid.apart;
    }

pub returns-clause-lies : goal.returns-clause-lies
returns-clause-lies c block is same =
    let lies = lies_at block _ _ c.self.view_is is in
    let cell = c.self.inside in
    let here = same ∙ ap (λ (p : Parts). holdings p.items (chain_lists block p.chains)) (sym c.self.view_is) in
    let lie = subst (λ ps. LieAt ps c.parts.result.1.now (holdings cell.entries.items (chain_lists block cell.versions.chains))) (sym c.in_ok-self-inside.ensures) (subst (LieAt c.parts.result.0.now c.parts.result.1.now) here c.parts.ensures) in
    record {
      versions = lies.versions;
      remembers = lies.remembers;
      remembers_least = lies.remembers_least;
      since = kept_begun (record { parts = c.in_ok-self-inside.field-0; spots = c.set_spots.new.spots.items }) c.clear.new.self cell.entries.items (chain_lists block cell.versions.chains) c.parts.result.1.now lie c.set_spots.ensures.each;
      holds = lies.holds;
    }
