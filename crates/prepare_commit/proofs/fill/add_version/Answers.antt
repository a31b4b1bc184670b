use Rattle.std.proofs.Common.{◌≡◌, ◌<◌, ℕ, List, ap, ◌∙◌, subst, is_some, arith}
use Rattle.std.proofs.lemmas.Bool.{both_ways}
use Rattle.stamps.specs.Key.{key_cmp}
use Rattle.secondary_index.specs.Ordered.{BelongsAt}
use Rattle.version_chain.specs.declared.version.Version.{Version}
use Rattle.prepare_commit.specs.declared.items.ChainedItem.{ChainedItem}
use Rattle.prepare_commit.specs.Content.{entry_at}
use Rattle.prepare_commit.specs.Layout.{chain_lists, entries_of, item_row}
use Rattle.prepare_commit.proofs.OwnChains.{no_entry}
use Rattle.prepare_commit.proofs.Filling.{chain_has_none}
use Rattle.prepare_commit.proofs.Storing.{put_laid, put_members}
use Rattle.prepare_commit.proofs.fill.add_version.Goals as goal
use Rattle.prepare_commit.proofs.fill.add_version.Goals.{After-get}

pub unreachable-requires : goal.unreachable-requires
unreachable-requires c =
    let P : List ℕ → Type 0 = λ key. BelongsAt key_cmp item_row key c.args.items.now.items c.in_default.field-0 in
    let at = subst P (ap (λ (v : Version). v.prepared.key) c.version.view_is) c.in_default.ensures in
    both_ways (is_some (entry_at c.args.version.now.prepared.key (entries_of c.args.items.now.items)))
    (ap is_some (no_entry c.args.items.now.items (chain_lists c.args.block.now c.args.held.now.chains) c.requires.chains.laid c.in_default.field-0 c.args.version.now.prepared.key at)) c.requires.known

key_is : (c : After-get) → c.get.result.now.entry.key ≡ c.args.version.now.prepared.key
key_is c = ap (λ (i : ChainedItem). i.entry.key) c.get.ensures ∙ c.in-Ok.ensures.is c.get.result.now ∙ ap (λ (v : Version). v.prepared.key) c.version.view_is

written : (c : After-get) → 0 < c.args.version.now.prepared.stamp
written c = omega (arith, c.version.invariant.written, ap (λ (v : Version). v.prepared.stamp) c.version.view_is)

pub put-requires-clause-missing : goal.put-requires-clause-missing
put-requires-clause-missing c =
    chain_has_none c.args.items.now.items (chain_lists c.args.block.now c.args.held.now.chains) c.in-Ok.place c.get.result.now c.args.version.now c.requires.chains.laid c.in-Ok.ensures.within c.get.ensures (key_is (goal.at.put-requires-clause-missing c).After-get) c.requires.missing

pub returns : goal.returns
returns c =
    let at = (goal.at.returns c).After-get in
    let items = c.args.items.now.items in
    let chains = chain_lists c.args.block.now c.args.held.now.chains in
    let own = c.requires.chains in
    let put = c.put.ensures.put in
    record {
      changed = c.put.ensures.changed;
      laid = rw put.2 (put_laid items chains c.in-Ok.place c.get.result.now c.args.version.now own.laid own.within c.in-Ok.ensures.within c.get.ensures (key_is at) (written at) put.0 put.1);
      members = rw put.2 (put_members items chains c.in-Ok.place c.get.result.now c.args.version.now own.laid own.within c.in-Ok.ensures.within c.get.ensures (key_is at) (written at) put.0 put.1);
      used = c.put.ensures.used;
    }
