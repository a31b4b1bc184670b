use Rattle.std.proofs.Common.{◌≡◌, sym, ap, subst, ◌∙◌}
use Rattle.version_chain.specs.Heads.{Heads}
use Rattle.version_chain.specs.Chain.{chain_versions, without_open}
use Rattle.version_chain.specs.Listed.{node_at}
use Rattle.version_chain.proofs.Changing.{gives_none, own_none}
use Rattle.version_chain.proofs.Discarding.{drops_none, held_own, held_known, slot_gone, each_left}
use Rattle.version_chain.proofs.chains.Chains.discard_slot.Goals as goal
use Rattle.version_chain.proofs.chains.Chains.discard_slot.Goals.{After-get}

own : (c : After-get) → c.get.result.tenant ≡ c.args.self.now.tenant
own c = held_own c.args.block.now c.args.self.now.tenant c.self.inside.tenant c.args.stamp c.args.slot c.get.result c.get.ensures (ap (λ (h : Heads). h.tenant) c.self.view_is) (sym c.is_held.ensures ∙ c.if-not-is_held.false)

pub discard-requires : goal.discard-requires
discard-requires c = record {
  known = rw c.chain-chain.ensures (held_known c.args.block.now c.args.self.now c.args.slot c.get.result c.requires c.get.ensures (own (goal.at.discard-requires c).After-get));
  stands = c.requires;
}

pub returns-clause-left : goal.returns-clause-left
returns-clause-left c = each_left c.args.block.now c.discard.new.block c.args.self.now c.discard.new.self c.args.stamp c.chain-chain.result c.discard.ensures.changed.others c.discard.ensures.kept

pub returns-clause-gone : goal.returns-clause-gone
returns-clause-gone c =
    slot_gone c.args.block.now c.discard.new.block c.args.self.now c.discard.new.self c.args.stamp c.args.slot c.get.result c.discard.ensures.changed.stands c.discard.ensures.changed.own.shape.tenant c.discard.ensures.dropped.nodes (ap node_at c.get.ensures)
    (own (goal.at.returns-clause-gone c).After-get) _ (subst (λ n. chain_versions c.discard.new.block c.discard.new.self n ≡ without_open c.args.stamp (chain_versions c.args.block.now c.args.self.now n)) c.chain-chain.ensures c.discard.ensures.kept)

pub returns-then-not-is_held-clause-own : goal.returns-then-not-is_held-clause-own
returns-then-not-is_held-clause-own c = own_none c.args.block.now c.args.self.now

pub returns-then-not-is_held-clause-given_up : goal.returns-then-not-is_held-clause-given_up
returns-then-not-is_held-clause-given_up c = gives_none c.args.block.now c.args.self.now

pub returns-then-not-is_held-clause-dropped : goal.returns-then-not-is_held-clause-dropped
returns-then-not-is_held-clause-dropped c = drops_none c.args.stamp c.args.block.now c.args.self.now
