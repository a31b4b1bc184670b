use Rattle.std.proofs.Common.{◌≡◌, ◌+◌, ◌++◌, ◌∷◌, [], ℕ, List, length, ap, ◌∙◌, length-append}
use Rattle.packed.specs.Cuts.{pieces}
use Rattle.packed.proofs.Pieces.{cut_once_more, pieces_once_more}
use Rattle.version_chain.specs.declared.version.Version.{Version}
use Rattle.prepare_commit.specs.Layout.{chain_lists, chain_at}
use Rattle.prepare_commit.proofs.copies.put_chain.Goals as goal

pub returns-clause-cut : goal.returns-clause-cut
returns-clause-cut c =
    let list = c.args.found.now in
    let ends = c.args.ends.now.items in
    let chain = chain_at (chain_lists c.args.block.now c.args.versions.now.chains) c.args.item.now.chain in
    let put : c.pack_to.new.list ≡ list ++ chain = c.in_ok-pack_to.ensures in
    let long : length c.pack_to.new.list ≡ length list + length chain = ap (λ (vs : List Version). length vs) put ∙ length-append list chain in
    let more : c.push.new.self.items ≡ ends ++ (length list + length chain) ∷ [] = c.in_ok-push.ensures.items ∙ ap (λ (n : ℕ). ends ++ n ∷ []) (c.len.ensures.count ∙ long) in
    rw (more, long) (cut_once_more 0 ends (length list) (length chain) c.requires.cut)

pub returns-clause-chain : goal.returns-clause-chain
returns-clause-chain c =
    let list = c.args.found.now in
    let ends = c.args.ends.now.items in
    let chain = chain_at (chain_lists c.args.block.now c.args.versions.now.chains) c.args.item.now.chain in
    let put : c.pack_to.new.list ≡ list ++ chain = c.in_ok-pack_to.ensures in
    let long : length c.pack_to.new.list ≡ length list + length chain = ap (λ (vs : List Version). length vs) put ∙ length-append list chain in
    let more : c.push.new.self.items ≡ ends ++ (length list + length chain) ∷ [] = c.in_ok-push.ensures.items ∙ ap (λ (n : ℕ). ends ++ n ∷ []) (c.len.ensures.count ∙ long) in
    (λ i. pieces (put i) 0 (more i)) ∙ pieces_once_more list chain 0 ends c.requires.cut
