use Rattle.std.proofs.Common.{◌≡◌, take}
use Rattle.version_chain.specs.declared.version.Version.{Version}
use Rattle.version_chain.specs.Sharing.{ChangesOwn}
use Rattle.prepare_commit.specs.InBlock.{AreIn}
use Rattle.prepare_commit.specs.Layout.{chain_lists, together, item_chains, IsLaid}
use Rattle.prepare_commit.specs.Lists.{SameMembers}
use Rattle.prepare_commit.proofs.Filling.{named}
use Rattle.prepare_commit.proofs.fill.add_versions.Given as goal

abbrev pub invariant-loop-stamped : goal.invariant-loop-stamped
invariant-loop-stamped l =
    AreIn l.block l.held.chains
    × ChangesOwn l.fn.block l.block l.fn.held.chains l.held.chains
    × IsLaid l.items.items (chain_lists l.block l.held.chains)
    × ((d : Version) → SameMembers (together (item_chains l.items.items (chain_lists l.block l.held.chains))) (take l.stamped-index (named d l.versions l.places)))
    × (l.held.chains.used ≡ l.stamped-index)
