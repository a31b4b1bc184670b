use Rattle.std.proofs.Common.{◌≡◌, ◌<◌, get_or, count_by, length, ap, sym, ◌∙◌, subst, arith}
use Rattle.std.proofs.lemmas.List.{take_all}
use Rattle.std.proofs.lemmas.Option.{get_or_from_slice_get}
use Rattle.version_chain.specs.declared.version.Version.{Version}
use Rattle.prepare_commit.specs.Bases.{HasEntry}
use Rattle.prepare_commit.specs.Layout.{chain_lists, together, item_chains, entries_of}
use Rattle.prepare_commit.proofs.Chaining.{lists_long}
use Rattle.prepare_commit.proofs.Filling.{named, named_next, named_long, names_many, no_version, ordered_apart, members_apart, next_is_missing, next_members}
use Rattle.version_chain.proofs.Changing.{own_none, own_next, share_kept}
use Rattle.prepare_commit.proofs.fill.add_versions.Goals as goal
use Rattle.prepare_commit.proofs.fill.add_versions.Goals.{After-stamped-item, After-version}

pub loop-stamped-init : goal.loop-stamped-init
loop-stamped-init c =
    (c.requires.chains.share.lies, own_none c.args.block.now c.args.held.now.chains, c.requires.chains.laid, λ d test. ap (count_by test) c.requires.empty, c.requires.none)

below : (c : After-stamped-item) → c.stamped-item.result.place < length c.args.versions.now
below c = let less = c.requires.versions.each.within c.loop-stamped.stamped-index c.stamped-item.result c.loop-stamped-test.true in subst (λ p. p.place < length c.args.versions.now) (sym c.stamped-item.is) less

pub version-requires : goal.version-requires
version-requires c = below (goal.at.version-requires c).After-stamped-item

found : (c : After-version) → c.version.result ≡ get_or c.args.versions.now c.stamped-item.result.place c.version.result
found c = sym (get_or_from_slice_get c.args.versions.now c.stamped-item.result.place c.version.result c.version.result (sym c.version.ensures))

next : (d : Version) (c : After-version) → c.version.result ≡ get_or (named d c.args.versions.now c.args.places.now) c.loop-stamped.stamped-index c.version.result
next d c =
    let less = c.requires.versions.each.within c.loop-stamped.stamped-index c.stamped-item.result c.loop-stamped-test.true in
    named_next d c.args.versions.now c.args.places.now c.loop-stamped.stamped-index c.stamped-item.result c.version.result c.loop-stamped-test.true c.stamped-item.is (subst (λ p. p.place < length c.args.versions.now) (sym c.stamped-item.is) less) (found c)

within : (d : Version) (c : After-version) → c.loop-stamped.stamped-index < length (named d c.args.versions.now c.args.places.now)
within d c = omega (arith, c.loop-stamped-test.true, named_long d c.args.versions.now c.args.places.now)

pub add_version-requires : goal.add_version-requires
add_version-requires c =
    let at = (goal.at.add_version-requires c).After-version in
    let so_far = c.loop-stamped.invariant in
    let v = c.version.result in
    record {
      chains = record {
        share = record { lies = so_far.0; share = share_kept _ _ _ _ so_far.1 c.requires.chains.share.share };
        laid = so_far.2;
        within = omega (arith, c.requires.chains.within, lists_long _ _ _ _ so_far.1);
      };
      room = omega (arith, so_far.4, c.loop-stamped-test.true, names_many c.args.versions.now c.args.places.now c.requires.versions.each, c.requires.versions.fits, so_far.1.shape.share);
      known = subst (λ (v : Version). HasEntry (entries_of c.args.items.now.items) v.prepared.key) (sym (found at)) (c.requires.versions.known c.stamped-item.result.place v (below (goal.at.add_version-requires c).After-stamped-item));
      missing =
          next_is_missing (named v c.args.versions.now c.args.places.now) (together (item_chains c.args.items.now.items (chain_lists c.loop-stamped.block c.loop-stamped.held.chains))) c.loop-stamped.stamped-index
          (members_apart (named v c.args.versions.now c.args.places.now) c.args.versions.now (c.requires.versions.each.each v) (ordered_apart c.args.versions.now c.requires.versions.ordered)) (within v at) (so_far.3 v) v (next v at);
    }

pub loop-stamped-preserved : goal.loop-stamped-preserved
loop-stamped-preserved c =
    let at = (goal.at.loop-stamped-preserved c).After-version in
    let done = c.add_version.ensures in (
      done.changed.lies,
      own_next c.args.block.now c.loop-stamped.block c.add_version.new.block c.args.held.now.chains c.loop-stamped.held.chains c.add_version.new.held.chains c.loop-stamped.invariant.1 done.changed.own,
      done.laid,
      λ d. next_members (named d c.args.versions.now c.args.places.now) (together (item_chains c.args.items.now.items (chain_lists c.loop-stamped.block c.loop-stamped.held.chains))) c.loop-stamped.stamped-index (within d at) (c.loop-stamped.invariant.3 d) c.version.result (next d at) (together (item_chains c.args.items.now.items (chain_lists c.add_version.new.block c.add_version.new.held.chains))) done.members,
      omega (arith, done.used, c.loop-stamped.invariant.4),
    )

pub returns : goal.returns
returns c =
    let so_far = c.loop-stamped.invariant in
    let versions = c.args.versions.now in
    let places = c.args.places.now in
    let each = c.requires.versions.each in
    record {
      changed = record { lies = so_far.0; own = so_far.1 };
      laid = so_far.2;
      members = λ test.
          so_far.3 no_version test
          ∙ ap (count_by test) (take_all c.loop-stamped.stamped-index (named no_version versions places) (omega (arith, c.loop-stamped-test.false, named_long no_version versions places)))
          ∙ each.each no_version test;
      used = omega (arith, so_far.4, c.loop-stamped-test.false, c.loop-stamped.auto.stamped-index-end, names_many versions places each);
    }
