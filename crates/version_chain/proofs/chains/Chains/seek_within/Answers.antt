use Rattle.std.proofs.Common.{◌≡◌, refl, ap, sym, is_some, ◌∙◌}
use Rattle.std.proofs.lemmas.Bool.{ltb-false}
use Rattle.version_chain.specs.Heads.{head}
use Rattle.version_chain.proofs.Seeking.{reached_head, reached_next}
use Rattle.version_chain.proofs.Walks.{on_cell, read_cell}
use Rattle.version_chain.proofs.chains.Chains.seek_within.Goals as goal

pub loop-step-init : goal.loop-step-init
loop-step-init c =
    let first : c.head-here.result ≡ head c.args.self.now c.args.chain = rw (← c.self.view_is) c.head-here.ensures in
    reached_head _ _ _ _ _ _ c.requires.stands c.requires.known refl first

pub get-requires : goal.get-requires
get-requires c = ap is_some (on_cell _ _ _ _ _ _ c.loop-step.invariant.at.chained c.in-Some.is).found

pub loop-step-preserved : goal.loop-step-preserved
loop-step-preserved c =
    let read = read_cell _ _ _ _ _ _ (on_cell _ _ _ _ _ _ c.loop-step.invariant.at.chained c.in-Some.is) c.get.ensures in
    rw c.next-here.ensures (reached_next _ _ _ _ _ _ _ _ c.loop-step.invariant c.in-Some.is read (ltb-false _ _ (sym c.is_below.ensures ∙ c.if-is_below.false)))
