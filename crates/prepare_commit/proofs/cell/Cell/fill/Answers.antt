use Rattle.std.proofs.Common.{◌≡◌, ◌≤◌, ℕ, List, [], length, count_by, sym, ap, subst, ◌∙◌, arith}
use Rattle.std.proofs.lemmas.List.{length-map, length-replicate}
use Rattle.plain_store.specs.Words.{Room}
use Rattle.version_chain.specs.declared.version.Version.{Version}
use Rattle.version_chain.specs.Chain.{is_of_tenant, HasShare}
use Rattle.version_chain.specs.Sharing.{ChangesOwn}
use Rattle.secondary_index.specs.Index.{Index}
use Rattle.prepare_commit.specs.declared.items.ChainedItem.{ChainedItem}
use Rattle.prepare_commit.specs.Layout.{Chained, chain_lists, chain_at, together, item_chains, entries_of}
use Rattle.prepare_commit.specs.Begun.{Holding, entries_in, lists_in}
use Rattle.prepare_commit.specs.Lists.{SameMembers}
use Rattle.prepare_commit.specs.Marks.{marks_of}
use Rattle.prepare_commit.specs.Spots.{begun_by}
use Rattle.prepare_commit.specs.InBlock.{Parts}
use Rattle.prepare_commit.specs.Bases.{Frozen, Leaves, AreOrdered, IsEntryBefore, IsNew}
use Rattle.prepare_commit.proofs.Chaining.{lists_long}
use Rattle.prepare_commit.proofs.Filling.{new_inside, not_yet, numbered_laid, nothing_together, versions_known, filled_versions, filled_holds, filled_stands}
use Rattle.prepare_commit.proofs.ItemByItem.{all_written}
use Rattle.prepare_commit.proofs.Since.{kept_noted_all}
use Rattle.prepare_commit.proofs.Storing.{nothing_holds}
use Rattle.prepare_commit.proofs.cell.Cell.fill.Goals as goal
use Rattle.prepare_commit.proofs.cell.Cell.fill.Goals.{After-add_items}

-- ---- the items, while their chains are empty

-- what the base has, as its type reports
abbrev held : (c : After-add_items) → Frozen
held c = record {
  room = record { slots = c.base.inside.slots; items = c.base.inside.items; clients = c.base.inside.clients };
  versions = together (lists_in c.base.inside.held);
  entries = entries_in c.base.inside.held;
  marks = c.base.inside.marks.items;
}

-- what the cell has before
abbrev before : (c : After-add_items) → Parts
before c = record {
  room = record { slots = c.self.inside.slots; items = c.self.inside.items; clients = c.self.inside.clients };
  chains = c.self.inside.versions.chains;
  items = c.self.inside.entries.items;
  index = c.self.inside.index;
  marks = c.self.inside.marks.items;
  changed = c.self.inside.changed;
  last = c.self.inside.last;
  left = c.self.inside.left;
  least = c.self.inside.least;
  begun = begun_by c.self.inside.last_base;
  since = c.self.inside.last_base.since;
}

new : (c : After-add_items) → IsNew (held c).room (before c)
new c = new_inside _ c.args.base.now _ c.args.self.now c.base.view_is c.self.view_is c.requires.new

abbrev items : (c : After-add_items) → List ChainedItem
items c = c.add_items.new.items.items

abbrev lists : (c : After-add_items) → List (List Version)
lists c = chain_lists c.args.block.now c.self.inside.versions.chains

entries_are : (c : After-add_items) → entries_of (items c) ≡ entries_in c.base.inside.held
entries_are c = c.add_items.ensures.entries

-- the versions that are lent are the base's
versions_are : (c : After-add_items) → c.args.versions.now ≡ (held c).versions
versions_are c = c.requires.versions ∙ ap (λ (b : Frozen). b.versions) (sym c.base.view_is)

long : (c : After-add_items) → length (lists c) ≡ c.base.inside.items
long c = ap (λ (h : Chained). length h.chains) ((new c).empty c.args.block.now) ∙ length-replicate c.base.inside.items []

none : (c : After-add_items) → (chain : ℕ) → chain_at (lists c) chain ≡ []
none c chain =
    ap (λ (h : Chained). chain_at h.chains chain) ((new c).empty c.args.block.now)
    ∙ (nothing_holds c.base.inside.slots c.base.inside.items).laid.unused chain (omega arith)

few : (c : After-add_items) → length (items c) ≤ length (lists c)
few c = omega (arith, long c, length-map (items c) (λ (i : ChainedItem). i.entry), ap length (entries_are c), c.base.invariant.1.items)

pub add_items-requires : goal.add_items-requires
add_items-requires c =
    let new = new_inside _ c.args.base.now _ c.args.self.now c.base.view_is c.self.view_is c.requires.new in
    let long = length-map c.base.inside.held (λ (h : Holding). h.entry) in
    record {
      empty = new.no_items;
      room = omega (arith, c.base.invariant.1.items, c.self.invariant.1, ap (λ (r : Room). r.items) new.room_is, long);
      few = omega (arith, c.base.invariant.1.items, c.self.invariant.3, ap (λ (r : Room). r.items) new.room_is, long);
    }

pub add_versions-requires : goal.add_versions-requires
add_versions-requires c =
    let at = (goal.at.add_versions-requires c).After-add_items in
    record {
      chains = record {
        share = record {
          lies = (new at).lies c.args.block.now (subst (λ (p : Parts). count_by (is_of_tenant p.chains.tenant) c.args.block.now ≡ 0) (sym c.self.view_is) c.requires.none);
          share = subst (λ (p : Parts). HasShare c.args.block.now p.chains) (sym c.self.view_is) c.requires.share;
        };
        laid = numbered_laid (items at) (lists at) (none at) (subst (AreOrdered IsEntryBefore) (sym (entries_are at)) c.base.invariant.1.entries_ordered) c.add_items.ensures.chains;
        within = few at;
      };
      empty = nothing_together (items at) (lists at) (none at);
      none = (new at).used;
      versions = record {
        fits = omega (arith, c.base.invariant.1.slots, (new at).share, ap length (versions_are at));
        ordered = rw (versions_are at) c.base.invariant.1.versions_ordered;
        each = rw c.requires.versions c.requires.each;
        known = rw (versions_are at, entries_are at) (versions_known (held at) c.base.invariant.1.has_log);
      };
    }

pub index_latest-requires : goal.index_latest-requires
index_latest-requires c =
    let at = (goal.at.index_latest-requires c).After-add_items in
    let put = c.add_versions.ensures in
    record {
      stands = put.changed.lies.stands;
      laid = put.laid;
      within = omega (arith, few at, lists_long _ _ _ _ put.changed.own);
      room = omega (arith, few at, long at, ap (λ (i : Index). i.room) (new at).index);
      empty = ap (λ (i : Index). i.tags) (new at).index;
    }

pub add_marks-requires : goal.add_marks-requires
add_marks-requires c =
    let at = (goal.at.add_marks-requires c).After-add_items in
    record {
      empty = (new at).no_marks;
      room = omega (arith, c.base.invariant.1.clients, c.self.invariant.6, ap (λ (r : Room). r.clients) (new at).room_is, ap length c.deref.ensures.value);
    }

pub note_all-requires : goal.note_all-requires
note_all-requires c = c.self.invariant.8

pub returns : goal.returns
returns c =
    let at = (goal.at.returns c).After-add_items in
    let put = c.add_versions.ensures in
    let block = c.add_versions.new.block in
    let heads = c.add_versions.new.held.chains in
    let index = c.index_latest.new.index in
    let room = (new at).room_is in
    let within : length (items at) ≤ length (chain_lists block heads) = omega (arith, few at, lists_long _ _ _ _ put.changed.own) in
    let base = (held at).versions in
    let members = subst (λ vs. SameMembers (together (item_chains (items at) (chain_lists block heads))) vs) (versions_are at) put.members in
    let used = put.used ∙ ap length (versions_are at) in
    let versions = filled_versions block heads (items at) base put.laid within members put.changed.lies.stands c.base.invariant.1.versions_ordered in
    let marks = c.add_marks.ensures.added ∙ c.deref.ensures.value in
    record {
      own = subst (λ (p : Parts). ChangesOwn c.args.block.now block p.chains heads) c.self.view_is put.changed.own;
      opened = record {
        room = room ∙ ap (λ (b : Frozen). b.room) c.base.view_is;
        used = used ∙ ap (λ (b : Frozen). length b.versions) c.base.view_is;
        lies = record {
          versions = put.changed.lies;
          remembers = λ keep e. not_yet keep (sym (new at).not_collected ∙ e);
          remembers_least = λ keep e. not_yet keep (sym (new at).none_collected ∙ e);
          since = kept_noted_all (begun_by c.self.inside.last_base) c.note_all.new.self (items at) (chain_lists block heads)
              (λ chain less. c.note_all.ensures.noted chain (omega (arith, less, c.note_all.ensures.long)))
              (λ k d w. (let given = put.laid.given k d w in omega (arith, given, few at, long at, c.note_all.ensures.long, c.self.invariant.8, ap (λ (r : Room). r.items) room)));
          holds =
              filled_holds block heads (items at) base put.laid within members c.self.inside.slots c.self.inside.items index used (omega (arith, c.base.invariant.1.slots, ap (λ (r : Room). r.slots) room))
              (put.changed.own.shape.share ∙ (new at).share ∙ sym (ap (λ (r : Room). r.slots) room)) (lists_long _ _ _ _ put.changed.own ∙ long at ∙ sym (ap (λ (r : Room). r.items) room)) c.index_latest.ensures.knows
              (c.index_latest.ensures.room ∙ ap (λ (i : Index). i.room) (new at).index ∙ sym (ap (λ (r : Room). r.items) room));
        };
        holds = (λ i. record { room = room i; versions = versions i; entries = entries_are at i; marks = marks i }) ∙ c.base.view_is;
        stands = λ log leaves.
            filled_stands _ (held at) versions (entries_are at) (ap marks_of marks) (all_written (items at) (chain_lists block heads) put.laid) c.index_latest.ensures.known c.index_latest.ensures.right log
            (subst (λ (b : Frozen). Leaves b log) (sym c.base.view_is) leaves);
      };
    }
