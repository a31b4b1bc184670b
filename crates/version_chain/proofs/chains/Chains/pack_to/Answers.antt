use Rattle.std.proofs.Common.{◌≡◌, ◌++◌, ◌∷◌, [], List, refl, ap, sym, is_some, ◌∙◌, append_assoc, append-nil}
use Rattle.version_chain.specs.declared.version.Version.{Version}
use Rattle.version_chain.specs.Heads.{head}
use Rattle.version_chain.proofs.Walks.{at_head, at_end, on_cell, read_cell, step, step-shorter}
use Rattle.version_chain.proofs.chains.Chains.pack_to.Goals as goal

pub loop-here-init : goal.loop-here-init
loop-here-init c =
    let first : c.head-here.result ≡ head c.args.self.now c.args.chain = rw (← c.self.view_is) c.head-here.ensures in
    rw first (at_head _ _ c.args.chain c.requires.stands c.requires.known, refl)

pub get-node-requires : goal.get-node-requires
get-node-requires c = ap is_some (on_cell _ _ _ _ _ _ c.loop-here.invariant.0.chained c.in-Some.is).found

pub loop-here-smaller : goal.loop-here-smaller
loop-here-smaller c =
    let read = read_cell _ _ _ _ _ _ (on_cell _ _ _ _ _ _ c.loop-here.invariant.0.chained c.in-Some.is) c.get-node.ensures in
    rw c.next-here.ensures (step-shorter _ _ _ _ _ _ c.loop-here.invariant.0 read)

moved : (all copies rest later new : List Version) (v : Version) → copies ++ rest ≡ all → rest ≡ v ∷ later → new ≡ copies ++ v ∷ [] → new ++ later ≡ all
moved all copies rest later new v was is pushed =
    ap (λ vs. vs ++ later) pushed ∙ append_assoc copies (v ∷ []) later ∙ ap (λ vs. copies ++ vs) (sym is) ∙ was

pub loop-here-preserved : goal.loop-here-preserved
loop-here-preserved c =
    let read = read_cell _ _ _ _ _ _ (on_cell _ _ _ _ _ _ c.loop-here.invariant.0.chained c.in-Some.is) c.get-node.ensures in
    rw c.next-here.ensures (step _ _ _ _ _ _ c.loop-here.invariant.0 read, moved _ _ _ _ _ _ c.loop-here.invariant.1 read.is (c.in_ok-push.ensures.ok))

pub returns : goal.returns
returns c = sym (append-nil c.loop-here.list) ∙ ap (λ rest. c.loop-here.list ++ rest) (sym (at_end _ _ _ _ _ c.loop-here.invariant.0.chained c.in_default.is)) ∙ c.loop-here.invariant.1
