use Rattle.std.proofs.Common.{◌≡◌, ℕ, ◌<◌, ◌==◌, Bool, false, not, refl, sym, arith}
use Rattle.std.proofs.lemmas.Bool.{eqb-true}
use Rattle.std.proofs.lemmas.Bool.Decides.{nat_tests}
use Rattle.version_chain.proofs.Changing.{own_none}
use Rattle.prepare_commit.proofs.Discarding.{discards_initial, discards_refused, discard_holds, discard_serves}
use Rattle.prepare_commit.proofs.ItemByItem.{none_initial}
use Rattle.prepare_commit.proofs.Lying.{lies_at, has_all}
use Rattle.prepare_commit.proofs.Remembering.{gone_settled}
use Rattle.prepare_commit.proofs.Since.{kept_noted}
use Rattle.prepare_commit.specs.Spots.{begun_by}
use Rattle.prepare_commit.specs.Layout.{chain_lists}
use Rattle.prepare_commit.specs.Remembered.{in_either}
use Rattle.prepare_commit.proofs.cell.Cell.discard_counted.Goals as goal

pub discard-requires : goal.discard-requires
discard-requires c =
    let lies = lies_at c.args.block.now _ _ c.self.view_is c.requires.lies in
    record { lies = lies.versions; as_long = omega (arith, c.self.invariant.8, lies.holds.chains); few = omega (arith, lies.holds.fits, c.self.invariant.2); before = c.requires.before }

above_none : (n : ℕ) → false ≡ (n == 0) → 0 < n
above_none n e = grind (arith, nat_tests)

turned : (a b : Bool) → a ≡ not b → b ≡ not a
turned a b e = grind arith

pub returns-then-eq-clause-served : goal.returns-then-eq-clause-served
returns-then-eq-clause-served c =
    let lies = lies_at c.args.block.now _ _ c.self.view_is c.requires.lies in
    let initial = eqb-true c.args.stamp 0 (sym c.if-eq.ensures) in
    record {
      lies = c.requires.lies;
      own = own_none c.args.block.now c.args.self.now.chains;
      serves = rw (← c.self.view_is) (discards_initial _ c.args.stamp (none_initial _ _ c.args.stamp lies.holds.laid initial) initial);
    }

pub returns-then-eq-clause-visits : goal.returns-then-eq-clause-visits
returns-then-eq-clause-visits c written marked = absurd (written (eqb-true c.args.stamp 0 (sym c.if-eq.ensures)))

pub returns-then-not-raise-clause-served : goal.returns-then-not-raise-clause-served
returns-then-not-raise-clause-served c =
    let lies = lies_at c.args.block.now _ _ c.self.view_is c.requires.lies in
    record {
      lies = record { versions = lies.versions; remembers = lies.remembers; remembers_least = lies.remembers_least; since = lies.since; holds = lies.holds };
      own = rw (← c.self.view_is) (own_none c.args.block.now c.self.inside.versions.chains);
      serves = rw (c.if-not-raise.ensures.refused refl, ← c.self.view_is) (discards_refused _ c.args.stamp (above_none _ c.if-eq.ensures) (turned _ _ c.if-not-raise.ensures.full));
    }

pub returns-then-not-raise-clause-visits : goal.returns-then-not-raise-clause-visits
returns-then-not-raise-clause-visits c written marked = absurd (marked refl)

pub returns-clause-served : goal.returns-clause-served
returns-clause-served c =
    let lies = lies_at c.args.block.now _ _ c.self.view_is c.requires.lies in
    let done = c.discard.ensures in
    let raised = c.if-not-raise.ensures in
    record {
      lies = record {
        versions = done.changed.lies;
        remembers = λ keep e. gone_settled keep c.args.stamp c.self.inside.changed c.self.inside.entries.items _ _ done.gone (lies.remembers keep e);
        remembers_least = λ keep e. gone_settled keep c.args.stamp (in_either c.self.inside.left c.self.inside.changed) c.self.inside.entries.items _ _ done.gone (lies.remembers_least keep e);
        since = kept_noted (begun_by c.self.inside.last_base) c.self.inside.last_base.since c.discard.new.since _ _ (chain_lists c.discard.new.block c.discard.new.self.chains) done.since.noted lies.since;
        holds = discard_holds _ _ _ c.discard.new.self.chains _ _ lies c.self.invariant.0 done.changed.lies.stands done.gone done.fewer done.changed.own.shape.share;
      };
      own = rw (← c.self.view_is) done.changed.own;
      serves = rw (← c.self.view_is) (discard_serves _ _ _ c.discard.new.self.chains _ _ lies c.self.invariant.0 done.changed.lies.stands done.gone done.fewer done.changed.own.shape.share
          c.raise.new.marks.items (above_none _ c.if-eq.ensures) (turned _ _ raised.full) (raised.raised refl));
    }

-- the versions of the stamp are visited
pub returns-clause-visits : goal.returns-clause-visits
returns-clause-visits c written marked =
    rw (← c.self.view_is) (c.discard.ensures.visits c.self.inside.entries.items (has_all _ _ (lies_at c.args.block.now _ _ c.self.view_is c.requires.lies) c.self.invariant.0))
