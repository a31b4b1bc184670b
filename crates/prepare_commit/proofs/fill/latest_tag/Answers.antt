use Rattle.std.proofs.Common.{Option, Some, None, subst}
use Rattle.stamps.specs.Record.{Record}
use Rattle.prepare_commit.specs.Content.{IsLatest}
use Rattle.prepare_commit.specs.Layout.{chain_lists, chain_at, committed_version}
use Rattle.prepare_commit.proofs.Direct.{latest_in}
use Rattle.prepare_commit.proofs.fill.latest_tag.Goals as goal

pub returns-in-Some : goal.returns-in-Some
returns-in-Some c key own =
    let P : Option Record → Type 0 = λ o. IsLatest key (chain_at (chain_lists c.args.block.now c.args.held.now.chains) c.args.chain) (committed_version o) in
    (Some c.in-Some.latest, subst P c.in-Some.is (latest_in c.args.block.now c.args.held.now.chains c.args.chain c.latest.result c.requires c.latest.ensures key own), c.tag.ensures)

pub returns-in-None : goal.returns-in-None
returns-in-None c key own =
    let P : Option Record → Type 0 = λ o. IsLatest key (chain_at (chain_lists c.args.block.now c.args.held.now.chains) c.args.chain) (committed_version o) in
    (None, subst P c.in-None.is (latest_in c.args.block.now c.args.held.now.chains c.args.chain c.latest.result c.requires c.latest.ensures key own), c.no_tag.ensures)
