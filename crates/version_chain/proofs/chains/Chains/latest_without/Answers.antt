use Rattle.std.proofs.Common.{◌≡◌, sym, ap, subst, ◌∙◌}
use Rattle.version_chain.specs.Heads.{latest_slot}
use Rattle.version_chain.specs.Chain.{KeepsLatest, chain_versions}
use Rattle.version_chain.specs.Place.{KeepsLatestBut, is_at, versions_from}
use Rattle.version_chain.proofs.Latest.{first_committed}
use Rattle.version_chain.proofs.Leaving.{here_live, rest_from, but_below, but_here}
use Rattle.version_chain.proofs.chains.Chains.latest_without.Goals as goal

pub get-requires : goal.get-requires
get-requires c = here_live c.args.block.now c.args.self.now c.args.chain c.requires.place.0 c.args.here c.requires.place.1 c.requires.place.2

pub next-requires : goal.next-requires
next-requires c = here_live c.args.block.now c.args.self.now c.args.chain c.requires.place.0 c.args.here c.requires.place.1 c.requires.place.2

pub committed_from-requires : goal.committed_from-requires
committed_from-requires c =
    rw c.next.ensures (rest_from c.args.block.now c.args.self.now c.args.chain c.args.here c.get.result c.requires.chain.stands c.requires.chain.known c.get.ensures c.requires.place.0 c.requires.place.1 c.requires.place.2)

pub returns-then-is_latest : goal.returns-then-is_latest
returns-then-is_latest c =
    but_below c.args.block.now c.args.self.now c.args.chain c.args.here c.get.result c.requires.chain.stands c.requires.chain.known c.get.ensures
    (ap (λ s. is_at (first_committed (chain_versions c.args.block.now c.args.self.now c.args.chain)) s) (sym c.stamp-stamp.ensures.value) ∙ sym c.is_latest.ensures ∙ c.if-is_latest.true)
    c.committed_from.result
    (subst (λ n. KeepsLatest c.args.block.now c.args.self.now.tenant c.args.chain (versions_from c.args.block.now n) c.committed_from.result) c.next.ensures c.committed_from.ensures)

pub returns : goal.returns
returns c =
    let is : c.latest.result ≡ latest_slot c.args.self.now c.args.chain = rw (← c.self.view_is) c.latest.ensures in
    subst (λ k. KeepsLatestBut c.args.block.now c.args.self.now c.args.chain c.args.here k) (sym is)
    (but_here c.args.block.now c.args.self.now c.args.chain c.args.here c.get.result c.requires.chain.stands c.requires.chain.known c.get.ensures
    (ap (λ s. is_at (first_committed (chain_versions c.args.block.now c.args.self.now c.args.chain)) s) (sym c.stamp-stamp.ensures.value) ∙ sym c.is_latest.ensures ∙ c.if-is_latest.false))
