use Rattle.std.proofs.Common.{◌≡◌, refl, sym, ap, ◌∙◌, ◌&&◌, ◌==◌, not, false, true, Bool, arith}
use Rattle.std.proofs.lemmas.Bool.{eqb-true}
use Rattle.version_chain.proofs.Dropping.{all_stay, this_stays, this_own, one_more, others_left}
use Rattle.version_chain.proofs.Changing.{changes_none, gives_none}
use Rattle.version_chain.proofs.Discarding.{drops_none, freed_nodes, other_place}
use Rattle.version_chain.proofs.chains.Chains.discard.Goals as goal
use Rattle.version_chain.proofs.chains.Chains.discard.Goals.{then-is_committed-via-then-is_committed, then-is_committed-via-else-is_committed+then-not-is_at}

and_not : (a : Bool) → (a && false) ≡ false
and_not true = refl
and_not false = refl

pub returns-in_default-clause-changed : goal.returns-in_default-clause-changed
returns-in_default-clause-changed c = changes_none c.args.block.now c.args.self.now c.args.chain c.requires.stands

pub returns-in_default-clause-given_up : goal.returns-in_default-clause-given_up
returns-in_default-clause-given_up c = gives_none c.args.block.now c.args.self.now

pub returns-in_default-clause-dropped : goal.returns-in_default-clause-dropped
returns-in_default-clause-dropped c = drops_none c.args.stamp c.args.block.now c.args.self.now

pub returns-in_default-clause-kept : goal.returns-in_default-clause-kept
returns-in_default-clause-kept c = all_stay _ _ _ _ _ _ c.requires.stands c.requires.known c.seek_above-last.ensures c.in_default.is

pub returns-then-is_committed-clause-kept : goal.returns-then-is_committed-clause-kept
returns-then-is_committed-clause-kept c =
    this_stays _ _ _ _ _ _ c.requires.stands c.requires.known c.seek_above-last.ensures _ _ c.in-Some.is c.get-node.ensures (elim c.then-is_committed.branch [
      | then-is_committed-via-then-is_committed w ↦ ap (λ b. (c.get-node.result.version.prepared.stamp == c.args.stamp) && not b) (sym c.is_committed.ensures ∙ w.if-is_committed.true) ∙ and_not _
      | then-is_committed-via-else-is_committed+then-not-is_at w ↦ ap (λ b. b && not c.get-node.result.version.committed) (sym w.is_at.ensures ∙ w.if-not-is_at.true)
    ])

pub returns-clause-kept : goal.returns-clause-kept
returns-clause-kept c =
    others_left c.args.block.now c.unlink.new.block c.args.self.now c.unlink.new.self c.args.chain c.args.stamp c.in-Some.slot c.get-node.result c.requires.stands c.requires.known c.get-node.ensures c.unlink.ensures.removed (eqb-true _ _ (sym c.is_at.ensures ∙ c.if-not-is_at.false)) (sym c.is_committed.ensures ∙ c.if-is_committed.false)

pub returns-clause-given_up : goal.returns-clause-given_up
returns-clause-given_up c = record {
  used = sym (one_more c.args.block.now c.unlink.new.block c.args.self.now c.unlink.new.self c.args.chain c.args.stamp c.in-Some.slot c.get-node.result c.requires.stands c.requires.known c.get-node.ensures c.unlink.ensures.removed).used;
  none = λ e. absurd (omega (arith, e));
}

pub returns-clause-dropped : goal.returns-clause-dropped
returns-clause-dropped c =
    let own = this_own _ _ _ _ _ _ c.requires.stands c.requires.known c.seek_above-last.ensures _ _ c.in-Some.is c.get-node.ensures in
    record {
      nodes = freed_nodes c.args.block.now c.unlink.new.block c.in-Some.slot c.unlink.ensures.freed;
      rest = λ place shut. c.unlink.ensures.freed.rest place
          (other_place c.args.block.now c.args.self.now.tenant c.args.stamp c.in-Some.slot place c.get-node.result c.get-node.ensures own (eqb-true _ _ (sym c.is_at.ensures ∙ c.if-not-is_at.false)) (sym c.is_committed.ensures ∙ c.if-is_committed.false) shut);
      list = c.unlink.ensures.listed;
    }
