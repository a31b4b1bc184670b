use Rattle.prepare_commit.proofs.AllChains.{count_all}
use Rattle.prepare_commit.proofs.AllPlaces.{all_marked, all_counted, all_moved}
use Rattle.prepare_commit.proofs.Chaining.{chains_long}
use Rattle.prepare_commit.proofs.Committing.{commit_holds, commit_initial, commit_is_served, commit_nothing}
use Rattle.prepare_commit.proofs.EachPlace.{Begins, is_done, Named, named_start, owner_of, own_so_far, one_more, marked_together, noted_more, all_noted, used_is}
use Rattle.prepare_commit.proofs.ItemByItem.{latest_marked, latest_key, latest_some}
use Rattle.prepare_commit.proofs.Lying.{lies_at, has_all}
use Rattle.prepare_commit.proofs.Moving.{has_place, moved_none}
use Rattle.prepare_commit.proofs.OwnChains.{entry_is}
use Rattle.prepare_commit.proofs.Owning.{own_after}
use Rattle.prepare_commit.proofs.Remembering.{either_noted, settled_noted}
use Rattle.prepare_commit.proofs.Since.{kept_noted}
use Rattle.prepare_commit.specs.Calls.{HasAt, MovesItems, NotesChanged}
use Rattle.prepare_commit.specs.Content.{IsLatest, IsMoved, marked_at}
use Rattle.prepare_commit.specs.InBlock.{content_in}
use Rattle.prepare_commit.specs.Layout.{Chained, held_in, chain_at, chain_lists, entries_of, HaveAll, committed_version, together, item_chains, IsVersionOf}
use Rattle.prepare_commit.specs.Remembered.{AreNotedWhere, in_either}
use Rattle.prepare_commit.specs.Spots.{begun_by}
use Rattle.prepare_commit.specs.declared.items.ChainedItem.{ChainedItem}
use Rattle.secondary_index.specs.Index.{HasPlace, Index, with_tag}
use Rattle.stamps.specs.Record.{Record}
use Rattle.std.proofs.Common.{◌||◌, ◌≤◌, ◌≡◌, ◌+◌, ◌^◌, ◌<◌, ℕ, Bool, true, false, List, All, length, map, get_or, Option, Some, None, is_some, slice_get, refl, sym, ap, subst, ◌∙◌, arith, ◌==◌, count_by, sum_by}
use Rattle.std.proofs.lemmas.List.{length-map, length-set}
use Rattle.version_chain.proofs.Changing.{own_none}
use Rattle.version_chain.proofs.Places.{held_few, places, place_named, places_long, place_in}
use Rattle.version_chain.specs.Chain.{chain_versions, committed_records, marked_by, OtherChainsKept}
use Rattle.version_chain.specs.Heads.{Heads}
use Rattle.version_chain.specs.Listed.{is_named, chain_in, with_latest, Lists}
use Rattle.version_chain.specs.declared.version.Version.{Version}
use mathlib.Core.Bool.{or-false}
use Rattle.prepare_commit.specs.declared.cell.Cell.TheInside.{Inside}
use Rattle.prepare_commit.proofs.cell.Cell.commit_counted.Goals as goal
use Rattle.prepare_commit.proofs.cell.Cell.commit_counted.Goals.{After-sweep_at-first, After-kept_in-kept, After-mark_slot-chain}

pub sweep_at-first-requires : goal.sweep_at-first-requires
sweep_at-first-requires c = (lies_at c.args.block.now _ _ c.self.view_is c.requires.lies).versions

-- a sweep changes no chain
view : (c : After-sweep_at-first) → held_in c.args.block.now c.sweep_at-first.new.self.chains ≡ held_in c.args.block.now c.self.inside.versions.chains
view c = ap (held_in c.args.block.now) c.sweep_at-first.ensures.rest

have : (c : After-sweep_at-first) (items : List ChainedItem) → HaveAll items (held_in c.args.block.now c.self.inside.versions.chains) → HaveAll items (held_in c.args.block.now c.sweep_at-first.new.self.chains)
have c items all = subst (λ (h : Chained). HaveAll items h) (sym (view c)) all

-- the start
begins : (c : After-sweep_at-first) → Begins c.args.block.now c.sweep_at-first.new.self.chains c.args.stamp c.self.inside.index c.self.inside.changed c.self.inside.last_base.since
begins c =
    let block = c.args.block.now in
    let items = c.self.inside.entries.items in
    let start = c.self.inside.versions.chains in
    let lies = lies_at block _ _ c.self.view_is c.requires.lies in
    let rest = c.sweep_at-first.ensures.rest in
    record {
      stands = c.sweep_at-first.ensures.lies.stands;
      list = c.sweep_at-first.ensures.lies.listed;
      swept = c.sweep_at-first.ensures.swept;
      few = omega (arith, lies.holds.fits, c.self.invariant.2, ap (λ (h : Heads). h.used) rest);
      long = omega (arith, c.self.invariant.7, lies.holds.chains, chains_long block start, ap (λ (h : Heads). length h.heads) rest);
      as_long = omega (arith, c.self.invariant.8, lies.holds.chains, chains_long block start, ap (λ (h : Heads). length h.heads) rest);
      known = (items, have c items (has_all _ _ lies c.self.invariant.0), lies.holds.knows, omega (arith, c.self.invariant.0, lies.holds.room));
    }

pub loop-place-init : goal.loop-place-init
loop-place-init c =
    let at = (goal.at.loop-place-init c).After-sweep_at-first in
    let start = begins at in
    record {
      begins = start;
      so_far = record {
        stands = start.stands;
        rest = refl;
        own = own_none c.args.block.now c.sweep_at-first.new.self.chains;
        listed = start.list;
        swept = start.swept;
        stays = λ slot stamp. refl;
        places_stay = λ slot. refl;
        chained = λ chain known. refl;
        within = omega arith;
        counted = refl;
        visited = omega arith;
        room = refl;
        keys = λ items have knows. knows;
        moved = λ items have. moved_none c.args.stamp (marked_together c.args.stamp items (chain_lists c.args.block.now c.sweep_at-first.new.self.chains)) c.self.inside.index.tags;
      };
      long = refl;
      noted = λ chain. sym (or-false (get_or c.self.inside.changed chain false));
      as_long = refl;
      since = λ chain. sym (or-false (get_or c.self.inside.last_base.since chain false));
      rest = refl;
    }

within : (c : After-kept_in-kept) → c.loop-place.place < length (places c.sweep_at-first.new.self.chains c.args.stamp)
within c = omega (arith, c.loop-place-test.true, (places_long c.sweep_at-first.new.self.chains c.args.stamp c.sweep_at-first.result.0 c.sweep_at-first.result.1 c.sweep_at-first.ensures.run))

is : (c : After-kept_in-kept) → c.kept_in-kept.result ≡ get_or (places c.sweep_at-first.new.self.chains c.args.stamp) c.loop-place.place c.kept_in-kept.result
is c =
    place_in c.sweep_at-first.new.self.chains c.args.stamp c.sweep_at-first.result.0 c.sweep_at-first.result.1 c.sweep_at-first.ensures.run c.loop-place.place c.kept_in-kept.result c.loop-place-test.true
    (c.kept_in-kept.ensures ∙ ap (λ (h : Heads). get_or h.kept (c.sweep_at-first.result.0 + c.loop-place.place) c.kept_in-kept.result) c.loop-place.invariant.so_far.rest)

few : (c : After-kept_in-kept) → c.loop-place.place + 1 < 2 ^ 32
few c =
    let least = within c in
    let listed = held_few c.args.block.now c.sweep_at-first.new.self.chains c.loop-place.invariant.begins.stands c.loop-place.invariant.begins.list c.args.stamp c.loop-place.invariant.begins.swept in
    omega (arith, least, listed, c.loop-place.invariant.begins.few)

named : (c : After-kept_in-kept) → Named c.args.block.now c.sweep_at-first.new.self.chains c.args.stamp c.kept_in-kept.result
named c = named_start _ _ _ _ _ _ _ _ _ _ _ _ c.loop-place.invariant.begins.stands (within c) (is c) c.loop-place.invariant.so_far

pub overflow_add-count : goal.overflow_add-count
overflow_add-count c = omega (arith, few (goal.at.overflow_add-count c).After-kept_in-kept, c.loop-place.invariant.so_far.counted)

pub tick-requires : goal.tick-requires
tick-requires c =
    let listed = held_few c.args.block.now c.sweep_at-first.new.self.chains c.loop-place.invariant.begins.stands c.loop-place.invariant.begins.list c.args.stamp c.loop-place.invariant.begins.swept in
    omega (arith, c.loop-place-test.true, (places_long c.sweep_at-first.new.self.chains c.args.stamp c.sweep_at-first.result.0 c.sweep_at-first.result.1 c.sweep_at-first.ensures.run), listed, c.loop-place.invariant.begins.few, c.loop-place.invariant.so_far.visited, c.requires.before)

-- the chain of the place has the versions of an item whose tag the index has room for
known_at : (c : After-kept_in-kept)
    → (key : List ℕ) × All (IsVersionOf key) (chain_versions c.loop-place.block c.loop-place.self-inside.versions.chains (chain_in c.loop-place.block c.kept_in-kept.result.slot)) × HasPlace c.loop-place.self-inside.index key
known_at c =
    let start = named c in
    let known = c.loop-place.invariant.begins.known in
    let owner = owner_of c.args.block.now c.sweep_at-first.new.self.chains (chain_in c.args.block.now c.kept_in-kept.result.slot) c.args.stamp start.version.prepared known.0 c.loop-place.invariant.begins.stands start.known start.found known.1 in
    let i = owner.item.i in (
      i.entry.key,
      subst (λ (h : Heads). All (IsVersionOf i.entry.key) (chain_versions c.loop-place.block h (chain_in c.loop-place.block c.kept_in-kept.result.slot))) (sym c.loop-place.invariant.so_far.rest)
          (own_so_far _ _ _ _ _ _ _ _ _ _ _ _ c.loop-place.invariant.begins.stands (within c) (is c) c.loop-place.invariant.so_far i.entry.key owner.own),
      has_place c.loop-place.self-inside.index (entries_of known.0) i.entry.key (ap is_some (entry_is known.0 (chain_lists c.args.block.now c.sweep_at-first.new.self.chains) known.1.laid owner.item.k i owner.item.within owner.item.is))
          (c.loop-place.invariant.so_far.keys known.0 known.1 known.2) (omega (arith, length-map known.0 (λ (x : ChainedItem). x.entry), known.3, c.loop-place.invariant.so_far.room)),
    )

pub mark_slot-chain-requires-clause-named : goal.mark_slot-chain-requires-clause-named
mark_slot-chain-requires-clause-named c =
    let at = (goal.at.mark_slot-chain-requires-clause-named c).After-kept_in-kept in
    subst (λ (h : Heads). is_named h.tenant c.loop-place.block c.kept_in-kept.result ≡ true) (sym c.loop-place.invariant.so_far.rest)
    (place_named _ c.sweep_at-first.new.self.chains c.args.stamp _ _ (within at) (is at) c.loop-place.invariant.so_far.swept)

-- the versions that the chain had are of the item
own : (c : After-mark_slot-chain) (key : List ℕ) → All (IsVersionOf key) (chain_versions c.loop-place.block c.loop-place.self-inside.versions.chains (chain_in c.loop-place.block c.kept_in-kept.result.slot))
    → All (IsVersionOf key) (chain_versions c.loop-place.block c.loop-place.self-inside.versions.chains c.mark_slot-chain.result)
own c key all = subst (λ n. All (IsVersionOf key) (chain_versions c.loop-place.block c.loop-place.self-inside.versions.chains n)) (sym c.mark_slot-chain.ensures.place) all

in_range : (c : After-mark_slot-chain) → c.mark_slot-chain.result < length c.mark_slot-chain.new.self.heads
in_range c = subst (λ (h : Heads). c.mark_slot-chain.result < length h.heads) (sym c.mark_slot-chain.ensures.only.rest) c.mark_slot-chain.ensures.known

-- what is reported is the latest
latest : (c : After-mark_slot-chain) (key : List ℕ) → All (IsVersionOf key) (chain_versions c.loop-place.block c.loop-place.self-inside.versions.chains c.mark_slot-chain.result)
    → (o : Option Record) → o ≡ slice_get (committed_records (chain_versions c.mark_slot-chain.new.block c.mark_slot-chain.new.self c.mark_slot-chain.result)) 0
    → IsLatest key (chain_versions c.mark_slot-chain.new.block c.mark_slot-chain.new.self c.mark_slot-chain.result) (committed_version o)
latest c key all o is = latest_marked c.kept_in-kept.result.stamp key _ _ c.mark_slot-chain.ensures.marked all (c.mark_slot-chain.ensures.changed.stands.falling c.mark_slot-chain.result (in_range c)) o is

in_index : (c : After-mark_slot-chain) (key : List ℕ) → All (IsVersionOf key) (chain_versions c.loop-place.block c.loop-place.self-inside.versions.chains c.mark_slot-chain.result) → HasPlace c.loop-place.self-inside.index key
    → (u : Record) → Some u ≡ slice_get (committed_records (chain_versions c.mark_slot-chain.new.block c.mark_slot-chain.new.self c.mark_slot-chain.result)) 0 → HasPlace c.loop-place.self-inside.index u.key
in_index c key all there u is =
    subst (HasPlace c.loop-place.self-inside.index) (sym (latest_key c.kept_in-kept.result.stamp key _ _ c.mark_slot-chain.ensures.marked all (record { prepared = u; committed = true }) (latest c key all (Some u) is))) there

pub latest-requires : goal.latest-requires
latest-requires c = record { known = in_range (goal.at.latest-requires c).After-mark_slot-chain; stands = c.mark_slot-chain.ensures.changed.stands }

pub note-requires : goal.note-requires
note-requires c = omega (arith, c.mark_slot-chain.ensures.known, c.loop-place.invariant.long, c.loop-place.invariant.begins.long, ap (λ (h : Heads). length h.heads) c.loop-place.invariant.so_far.rest)

pub note-requires-in-loop-place : goal.note-requires-in-loop-place
note-requires-in-loop-place c = omega (arith, c.mark_slot-chain.ensures.known, c.loop-place.invariant.as_long, c.loop-place.invariant.begins.as_long, ap (λ (h : Heads). length h.heads) c.loop-place.invariant.so_far.rest)

-- there is one
pub unreachable-requires : goal.unreachable-requires
unreachable-requires c =
    let known = known_at (goal.at.unreachable-requires c).After-kept_in-kept in
    let at = (goal.at.unreachable-requires c).After-mark_slot-chain in
    let done = c.mark_slot-chain.ensures in
    let all = own at known.0 known.1 in
    latest_some c.kept_in-kept.result.stamp known.0 _ _ done.marked all (c.loop-place.invariant.so_far.stands.falling c.mark_slot-chain.result done.known) done.found (latest at known.0 all None c.in_default.ensures)

pub move_item-requires : goal.move_item-requires
move_item-requires c =
    let known = known_at (goal.at.move_item-requires c).After-kept_in-kept in
    let at = (goal.at.move_item-requires c).After-mark_slot-chain in
    in_index at known.0 (own at known.0 known.1) known.2 c.in-Some.latest c.in-Some.ensures

pub loop-place-preserved : goal.loop-place-preserved
loop-place-preserved c =
    let at = (goal.at.loop-place-preserved c).After-kept_in-kept in
    let marked = (goal.at.loop-place-preserved c).After-mark_slot-chain in
    let done = c.mark_slot-chain.ensures in
    let chain = c.mark_slot-chain.result in
    let chain_is : chain ≡ chain_in c.args.block.now c.kept_in-kept.result.slot = done.place ∙ c.loop-place.invariant.so_far.places_stay c.kept_in-kept.result.slot in
    let heads : Heads = c.loop-place.self-inside.versions.chains in
    let after : Heads = c.mark_slot-chain.new.self in
    let next = c.mark_slot-chain.new.block in
    let before : Index = c.loop-place.self-inside.index in
    let index : Index = c.move_item.new.index in
    let was = c.loop-place.invariant.so_far in
    let u = c.in-Some.latest in
    let tags : index.tags ≡ with_tag before.tags u.key u.tag = ap (λ (x : Index). x.tags) c.move_item.ensures in
    let rest : after ≡ with_latest c.sweep_at-first.new.self.chains after.latest = done.only.rest ∙ ap (λ (h : Heads). with_latest h after.latest) was.rest in
    let less : chain < length c.loop-place.self-inside.changed = omega (arith, done.known, c.loop-place.invariant.long, c.loop-place.invariant.begins.long, ap (λ (h : Heads). length h.heads) was.rest) in
    let within_since : chain < length c.loop-place.self-inside.last_base.since = omega (arith, done.known, c.loop-place.invariant.as_long, c.loop-place.invariant.begins.as_long, ap (λ (h : Heads). length h.heads) was.rest) in
    let Facts : ℕ → Type 0 = λ n.
    OtherChainsKept c.loop-place.block heads next after n × (chain_versions next after n ≡ map (marked_by c.kept_in-kept.result.stamp) (chain_versions c.loop-place.block heads n))
    × ((key : List ℕ) → All (IsVersionOf key) (chain_versions c.loop-place.block heads n) → (v : Version) × IsLatest key (chain_versions next after n) (Some v) × (index.tags ≡ with_tag before.tags key v.prepared.tag)) in
    let moved : (key : List ℕ) → All (IsVersionOf key) (chain_versions c.loop-place.block heads chain) → (v : Version) × IsLatest key (chain_versions next after chain) (Some v) × (index.tags ≡ with_tag before.tags key v.prepared.tag) = λ key all.
    let last : Version = record { prepared = u; committed = true } in
    let is = latest marked key all (Some u) c.in-Some.ensures in
    (last, is, tags ∙ ap (λ k. with_tag before.tags k u.tag) (latest_key c.kept_in-kept.result.stamp key _ _ done.marked all last is)) in
    let facts : Facts (chain_in c.loop-place.block c.kept_in-kept.result.slot) = subst Facts done.place (done.changed.others, done.marked, moved) in
    rw c.tick.ensures (record {
      begins = c.loop-place.invariant.begins;
      so_far = one_more _ _ _ _ _ _ _ _ _ _ _ _ c.loop-place.invariant.begins.stands (within at) (is at) was next after index done.changed.stands rest (done.only.stays, facts.0, facts.1, facts.2) done.places done.changed.own (ap (λ (x : Index). x.room) c.move_item.ensures);
      long = ap length c.note.ensures ∙ length-set c.loop-place.self-inside.changed chain true ∙ c.loop-place.invariant.long;
      noted = λ n. ap (λ (bs : List Bool). get_or bs n false) c.note.ensures
          ∙ noted_more c.args.block.now (places c.sweep_at-first.new.self.chains c.args.stamp) c.loop-place.place c.kept_in-kept.result (within at) (is at) c.self.inside.changed c.loop-place.self-inside.changed chain chain_is less c.loop-place.invariant.noted n;
      as_long = ap length c.note-in-loop-place.ensures ∙ length-set c.loop-place.self-inside.last_base.since chain true ∙ c.loop-place.invariant.as_long;
      since = λ n. ap (λ (bs : List Bool). get_or bs n false) c.note-in-loop-place.ensures
          ∙ noted_more c.args.block.now (places c.sweep_at-first.new.self.chains c.args.stamp) c.loop-place.place c.kept_in-kept.result (within at) (is at) c.self.inside.last_base.since c.loop-place.self-inside.last_base.since chain chain_is within_since c.loop-place.invariant.since n;
      rest = ap (λ (s : Inside). record s {
        versions = record s.versions { chains = after };
        index = index;
        changed = c.note.new.self;
        last_base = record s.last_base { since = c.note-in-loop-place.new.self };
      }) c.loop-place.invariant.rest;
    })

pub returns : goal.returns
returns c =
    let at = (goal.at.returns c).After-sweep_at-first in
    let was = c.loop-place.invariant in
    let so_far = was.so_far in
    let stands = was.begins.stands in
    let listed = was.begins.list in
    let no_other = was.begins.swept in
    let block = c.args.block.now in
    let after = c.loop-place.block in
    let old = c.self.inside in
    let new = c.loop-place.self-inside in
    let start = old.versions.chains in
    let swept : Heads = c.sweep_at-first.new.self.chains in
    let heads : Heads = new.versions.chains in
    let lies = lies_at block _ _ c.self.view_is c.requires.lies in
    let few = c.self.invariant.0 in
    let seen = view at in
    let end : length (places swept c.args.stamp) ≤ c.loop-place.place = omega (arith, c.loop-place-test.false, (places_long swept c.args.stamp c.sweep_at-first.result.0 c.sweep_at-first.result.1 c.sweep_at-first.ensures.run)) in
    let test = λ (v : Version). v.prepared.stamp == c.args.stamp in
    let own = own_after block start swept c.sweep_at-first.ensures.rest after heads so_far.own in
    let marked : held_in after heads ≡ record { share = start.share; used = start.used; chains = map (map (marked_at c.args.stamp)) (chain_lists block start) } =
    let lists = ap (λ (h : Heads). chain_lists after h) so_far.rest ∙ all_marked _ _ _ stands listed no_other _ _ _ _ _ _ _ _ so_far end ∙ ap (λ (h : Chained). map (map (marked_at c.args.stamp)) h.chains) seen in
    let share = ap (λ (h : Heads). h.share) so_far.rest ∙ ap (λ (h : Chained). h.share) seen in
    let used = ap (λ (h : Heads). h.used) so_far.rest ∙ ap (λ (h : Chained). h.used) seen in
    λ i. record { share = share i; used = used i; chains = lists i } in
    let count : HasAt c.args.stamp (held_in block start) c.loop-place.count =
    λ items all.
    all_counted _ _ _ stands listed no_other _ _ _ _ _ _ _ _ so_far end ∙ ap (λ (h : Chained). sum_by (count_by test) h.chains) seen
    ∙ sym (count_all items (held_in block start) all (used_is block start lies.versions.stands) test) in
    let moved : MovesItems c.args.stamp (held_in block start) (chain_lists after heads) old.index new.index = record {
      room = so_far.room;
      keys = λ items all. so_far.keys items (have at items all);
      moved = λ items all.
          subst (λ (h : Heads). let all = together (item_chains items (chain_lists after h)) in IsMoved c.args.stamp all all old.index.tags new.index.tags) (sym so_far.rest)
          (all_moved _ _ _ stands listed no_other _ _ _ _ _ _ _ _ so_far end items (have at items all));
    } in
    let noted : (before now : List Bool) → ((chain : ℕ) → get_or now chain false ≡ (get_or before chain false || is_done block (places swept c.args.stamp) c.loop-place.place chain))
    → AreNotedWhere before now (chain_lists block start) (chain_lists after heads) =
    λ before now are chain free.
    let both = subst (λ (h : Heads). AreNotedWhere before now (chain_lists block swept) (chain_lists after h)) (sym so_far.rest)
    (all_noted block after swept heads c.args.stamp c.loop-place.place _ _ _ _ _ so_far before now are) chain free in
    (both.0, both.1 ∙ ap (λ (h : Chained). chain_at h.chains chain) seen) in
    let changed : AreNotedWhere old.changed new.changed (chain_lists block start) (chain_lists after heads) = noted old.changed new.changed was.noted in
    let since : NotesChanged old.last_base.since new.last_base.since (chain_lists block start) (chain_lists after heads) =
    record { long = was.as_long; noted = noted old.last_base.since new.last_base.since was.since } in
    rw was.rest (record {
      served = record {
        lies = record {
          versions = record {
            stands = so_far.stands;
            listed = subst (λ (h : Heads). Lists after h) (sym so_far.rest) (record { once = so_far.listed.once; all = so_far.listed.all });
          };
          remembers = λ keep e. settled_noted keep old.changed new.changed _ _ (chain_lists after heads) changed (lies.remembers keep e);
          remembers_least = λ keep e. settled_noted keep (in_either old.left old.changed) (in_either old.left new.changed) _ _ (chain_lists after heads) (either_noted old.left old.changed new.changed _ (chain_lists after heads) changed) (lies.remembers_least keep e);
          since = kept_noted (begun_by old.last_base) old.last_base.since new.last_base.since _ _ (chain_lists after heads) since.noted lies.since;
          holds = commit_holds _ _ _ heads _ _ _ lies few marked count moved;
        };
        own = rw (← c.self.view_is) own;
        serves = rw (← c.self.view_is) (commit_is_served _ _ _ heads _ _ _ lies few marked count moved);
      };
      initial = commit_initial _ _ _ heads _ _ _ lies few marked count moved;
      nothing = λ none. commit_nothing _ _ _ heads _ _ _ lies few marked count moved none ∙ ap (content_in block) c.self.view_is;
      visits = so_far.visited ∙ ap (λ n. c.args.visits.now + n) (sym so_far.counted);
    })
