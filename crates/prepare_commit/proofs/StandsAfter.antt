-- For `Cell`, all its calls. What a cell stands for after a call.
use Rattle.std.proofs.Common.{◌≡◌, ℕ, ◌<◌, Bool, true, false, if◌then◌else◌, not, ◌&&◌, ◌||◌, ◌==◌, nat_le, nat_lt, List, [], ◌∷◌, map, filter, find, length, get_or, count_by, Option, Some, None, bytes_eq, inl, inr, refl, sym, ◌∙◌, ap, arith, is_some, ◌⊎◌}
use Rattle.std.specs.Prelude.{unwrap_or}
use Rattle.std.specs.FinMap as fin
use Rattle.std.specs.List.{list_any}
use Rattle.std.specs.Ordering.{is_lt, nat_cmp}
use Rattle.std.proofs.lemmas.Bool.Decides.{nat_tests}
use Rattle.std.proofs.lemmas.List.Folds.{map_fixed}
use Rattle.std.proofs.lemmas.Bool.{cond-true, cond-false, both_ways, false_from_ne_true, le-leb, lt-leb, ltb-true, ltb-false, cases_lt, eq-eqb, and_parts}
use Rattle.stamps.specs.Key.{key_cmp}
use Rattle.stamps.specs.Record.{Record, record_eq}
use Rattle.stamps.specs.Stamp.{client_of, greatest}
use Rattle.plain_store.specs.declared.calls.Call.TheVariants.{Prepare, Commit}
use Rattle.plain_store.specs.declared.calls.Reply.TheVariants.{Prepare as Answered, Committed}
use Rattle.plain_store.specs.declared.calls.PrepareReply.{PrepareReply}
use Rattle.plain_store.specs.declared.calls.PrepareReply.TheVariants.{Prepared, FullSlots, FullItems, Clash, Discarded}
use Rattle.plain_store.specs.Log.{Exchange, is_version, accepted_by, with_version, versions, is_some_version, is_live, is_committed, is_kept, floor, kept, distinct, items}
use Rattle.plain_store.specs.Words.{Key, Room}
use Rattle.plain_store.specs.Marks.{discarded as discarded_stamps, is_of_client, mark, once_each}
use Rattle.plain_store.specs.Replies.{known_or, prepare_reply, reply_after}
use Rattle.plain_store.proofs.Counting.{In, count_by-cons, count_by-map, count_by-in, find_is, any_is, any_in, uncounted, In-map, In-filter}
use Rattle.plain_store.proofs.Logs.{committed_prepared, any_distinct, is_version-parts}
use Rattle.plain_store.proofs.KeptAfter.{is_held, after_commit, kept_again, kept_first, not_listed, kept_committed, committed_after}
use Rattle.secondary_index.specs.Index.{Tags}
use Rattle.prepare_commit.specs.Marks.{mark_in, if_marked}
use Rattle.prepare_commit.specs.Lists.{SameMembers}
use Rattle.prepare_commit.specs.Content.{Content, entry_at, floor_of, version_at, marked_at, has_version_of, IsMoved}
use Rattle.prepare_commit.specs.Serving.{marked_versions, floored, latest_tag, StandsFor, Serves}
use Rattle.version_chain.specs.declared.version.Version.{Version}
use Rattle.prepare_commit.specs.declared.items.KnownItem.{KnownItem}
use Rattle.prepare_commit.proofs.ListsOfLists.{none_counted}
use Rattle.prepare_commit.proofs.Members.{version_kept, found_version, no_version, found_entry, no_entry, versions_length, entries_length}
use Rattle.prepare_commit.proofs.Tagged.{after_prepare, is_known, new_versions, tag_from, known_tag, new_tag, moved_tag}

-- ---- a PREPARE that was answered Prepared

abbrev mark_of : List Exchange → Record → Version
mark_of history v = record { prepared = v; committed = is_committed history v.key v.stamp }

-- the version is not below its item's floor
abbrev not_below : List Exchange → Record → Bool
not_below history v = nat_le (floor history v.key) v.stamp

abbrev entry_of : List Exchange → List ℕ → KnownItem
entry_of history key = record { key = key; floor = floor history key }

known_marked : (v : Record) (history : List Exchange) → is_known v history ≡ true → (not_below history v ≡ false) ⊎ (is_held history v ≡ true) → marked_versions (after_prepare v history) ≡ marked_versions history
known_marked v history h why = ap (map (mark_of history)) (kept_again v history h why)

known_floored : (v : Record) (history : List Exchange) → is_known v history ≡ true → floored (after_prepare v history) ≡ floored history
known_floored v history h =
    ap (λ vs. map (entry_of history) (distinct (map (λ (r : Record). r.key) vs))) (cond-true (is_known v history) (versions history) (v ∷ versions history) h)

below_marked : (v : Record) (history : List Exchange) → is_known v history ≡ false → not_below history v ≡ false → marked_versions (after_prepare v history) ≡ marked_versions history
below_marked v history h b = ap (map (mark_of history)) (kept_first v history h ∙ cond-false (not_below history v) _ _ b)

new_marked : (v : Record) (history : List Exchange) → is_known v history ≡ false → not_below history v ≡ true → marked_versions (after_prepare v history) ≡ record { prepared = v; committed = false } ∷ marked_versions history
new_marked v history h b =
    let fresh : is_committed history v.key v.stamp ≡ false =
    false_from_ne_true _ (λ t. both_ways _ h (committed_prepared history v.key v.stamp t))
    in
    ap (map (mark_of history)) (kept_first v history h ∙ cond-true (not_below history v) _ _ b)
    ∙ ap (λ c. record { prepared = v; committed = c } ∷ marked_versions history) fresh

same_floored : (v : Record) (history : List Exchange) → is_known v history ≡ false → list_any (bytes_eq v.key) (items history) ≡ true → floored (after_prepare v history) ≡ floored history
same_floored v history h k =
    ap (λ vs. map (entry_of history) (distinct (map (λ (r : Record). r.key) vs))) (new_versions v history h)
    ∙ ap (map (entry_of history)) (cond-true _ _ _ (sym (any_distinct v.key (map (λ (r : Record). r.key) (versions history))) ∙ k))

new_floored : (v : Record) (history : List Exchange) → is_known v history ≡ false → list_any (bytes_eq v.key) (items history) ≡ false → floored (after_prepare v history) ≡ record { key = v.key; floor = floor history v.key } ∷ floored history
new_floored v history h k =
    ap (λ vs. map (entry_of history) (distinct (map (λ (r : Record). r.key) vs))) (new_versions v history h)
    ∙ ap (map (entry_of history)) (cond-false _ _ _ (sym (any_distinct v.key (map (λ (r : Record). r.key) (versions history))) ∙ k))

-- what stands for a history stands for one that leaves the same
pub same_for : (cell : Content) (old new : List Exchange) → marked_versions new ≡ marked_versions old → floored new ≡ floored old → ((key : Key) → latest_tag new key ≡ latest_tag old key) → discarded_stamps new ≡ discarded_stamps old → StandsFor cell old → StandsFor cell new
same_for cell old new m f t d s = record {
  versions = λ test. s.versions test ∙ ap (count_by test) (sym m);
  entries = λ test. s.entries test ∙ ap (count_by test) (sym f);
  tags = λ key. s.tags key ∙ sym (t key);
  marks = λ client. s.marks client ∙ ap (λ stamps. if_marked (greatest (filter (is_of_client client) stamps))) (sym d);
  clients = s.clients ∙ ap (λ stamps. length (once_each (map client_of (filter (nat_lt 0) stamps)))) (sym d);
}

-- one member more
one_member : {X : Type 0} (old new ys zs : List X) (x : X) → SameMembers new (x ∷ old) → SameMembers old ys → zs ≡ x ∷ ys → SameMembers new zs
one_member old new ys zs x more s e test =
    omega (arith, more test, count_by-cons test x old, count_by-cons test x ys, s test, ap (count_by test) e)

-- ---- what the cell finds, read by the definitions

abbrev pub record_in : Option Version → Option Record
record_in None = None
record_in (Some v) = Some v.prepared

module _ (entries : List KnownItem) (history : List Exchange) (s : SameMembers entries (floored history)) where
  by_entry : (key : List ℕ) → (floor history key ≡ floor_of (entry_at key entries)) × (list_any (bytes_eq key) (items history) ≡ is_some (entry_at key entries))
  by_entry key = by (entry_at key entries) refl
    where
      by : (o : Option KnownItem) → entry_at key entries ≡ o → (floor history key ≡ floor_of o) × (list_any (bytes_eq key) (items history) ≡ is_some o)
      by None e = no_entry entries history s key e
      by (Some x) e = found_entry entries history s key x e

  -- the floor of an item by its entry
  pub floor_by_entry : (key : List ℕ) → floor history key ≡ floor_of (entry_at key entries)
  floor_by_entry key = (by_entry key).0

  pub item_by_entry : (key : List ℕ) → list_any (bytes_eq key) (items history) ≡ is_some (entry_at key entries)
  item_by_entry key = (by_entry key).1

module _ (cell : Content) (history : List Exchange) (s : StandsFor cell history) where
  pub floor_is : (key : List ℕ) → floor history key ≡ floor_of (entry_at key cell.entries)
  floor_is = floor_by_entry cell.entries history s.entries

  pub item_is : (key : List ℕ) → list_any (bytes_eq key) (items history) ≡ is_some (entry_at key cell.entries)
  item_is = item_by_entry cell.entries history s.entries

  pub version_is : (key : List ℕ) (stamp : ℕ) → find (is_version key stamp) (kept history) ≡ record_in (version_at key stamp cell.versions)
  version_is key stamp = by (version_at key stamp cell.versions) refl
    where
      by : (o : Option Version) → version_at key stamp cell.versions ≡ o → find (is_version key stamp) (kept history) ≡ record_in o
      by None e = no_version cell.versions history s.versions key stamp e
      by (Some x) e = found_version cell.versions history s.versions key stamp x e

  -- the mark of a client
  pub mark_is : (client : ℕ) → mark history client ≡ mark_in cell.marks client
  mark_is client = sym (ap (λ o. unwrap_or o 0) (s.marks client) ∙ by (mark history client))
    where
      by : (n : ℕ) → unwrap_or (if_marked n) 0 ≡ n
      by n = grind (arith, nat_tests)

-- ---- PREPARE

-- the reply to a PREPARE by what stands in the cell's lists
abbrev pub prepare_in : Content → Record → PrepareReply
prepare_in cell v =
    if nat_lt v.stamp (floor_of (entry_at v.key cell.entries)) then Prepared
    else known_or v
    (if nat_le v.stamp (mark_in cell.marks (client_of v.stamp)) then Discarded
    else (if not (is_some (entry_at v.key cell.entries)) && (length cell.entries == cell.room.items) then FullItems
    else (if length cell.versions == cell.room.slots then FullSlots
    else Prepared)))
    (record_in (version_at v.key v.stamp cell.versions))

pub prepare_agrees : (cell : Content) (history : List Exchange) → StandsFor cell history → (v : Record) → prepare_in cell v ≡ prepare_reply cell.room history v
unfolding prepare_reply
prepare_agrees cell history s v =
    let by : ℕ → ℕ → Bool → ℕ → ℕ → Option Record → PrepareReply = λ floor last known n m found.
    if nat_lt v.stamp floor then Prepared
    else known_or v (if nat_le v.stamp last then Discarded else (if not known && (n == cell.room.items) then FullItems else (if m == cell.room.slots then FullSlots else Prepared))) found
    in
    λ i. by (sym (floor_is cell history s v.key) i) (sym (mark_is cell history s (client_of v.stamp)) i) (sym (item_is cell history s v.key) i) (entries_length cell.entries history s.entries i) (versions_length cell.versions history s.versions i) (sym (version_is cell history s v.key v.stamp) i)

module _ (cell : Content) (v : Record) where
  prepare_replies : (r : PrepareReply) → r ≡ prepare_in cell v → (history : List Exchange) → StandsFor cell history → Answered r ≡ reply_after cell.room history (Prepare v)
  unfolding reply_after
  prepare_replies r e history s = ap Answered (e ∙ prepare_agrees cell history s v)

  -- a refused PREPARE changes nothing
  pub refused : (r : PrepareReply) → accepted_by (Prepare v) (Answered r) ≡ None → r ≡ prepare_in cell v → Serves cell cell (Prepare v) (Answered r)
  refused r a e = record {
    room = refl;
    reply = prepare_replies r e;
    history = λ history s.
        same_for cell history _
        (ap (λ o. map (mark_of history) (filter (λ (w : Record). not_below history w && (is_committed history w.key w.stamp || (is_some_version w.key w.stamp o || is_live history w.key w.stamp))) (with_version o (versions history)))) a)
        (ap (λ o. map (entry_of history) (distinct (map (λ (w : Record). w.key) (with_version o (versions history))))) a)
        (λ key. ap (λ o. tag_from (with_version o (versions history)) (is_committed history) key) a)
        refl
        s;
  }

  -- a PREPARE below the floor changes nothing
  pub below : nat_lt v.stamp (floor_of (entry_at v.key cell.entries)) ≡ true → Serves cell cell (Prepare v) (Answered Prepared)
  below h = record {
    room = refl;
    reply = prepare_replies Prepared (sym (cond-true _ _ _ h));
    history = λ history s. by history s (is_known v history) refl;
  }
    where
      low : (history : List Exchange) (s : StandsFor cell history) → v.stamp < floor history v.key
      low history s = ltb-true _ _ (ap (nat_lt v.stamp) (floor_is cell history s v.key) ∙ h)

      has : (history : List Exchange) (s : StandsFor cell history) → list_any (bytes_eq v.key) (items history) ≡ true
      has history s = item_is cell history s v.key ∙ known (entry_at v.key cell.entries) h
        where
          known : (o : Option KnownItem) → nat_lt v.stamp (floor_of o) ≡ true → is_some o ≡ true
          known o e = grind (arith, nat_tests)

      by : (history : List Exchange) → StandsFor cell history → (b : Bool) → is_known v history ≡ b → StandsFor cell (after_prepare v history)
      by history s true e = same_for cell history _ (known_marked v history e (inl (lt-leb _ _ (low history s)))) (known_floored v history e) (known_tag v history e) refl s
      by history s false e =
          same_for cell history _ (below_marked v history e (lt-leb _ _ (low history s))) (same_floored v history e (has history s)) (new_tag v history (inl (below_marked v history e (lt-leb _ _ (low history s))))) refl s

  -- nor does one that is repeated
  pub repeated : (u : Version) → version_at v.key v.stamp cell.versions ≡ Some u → record_eq u.prepared v ≡ true → nat_lt v.stamp (floor_of (entry_at v.key cell.entries)) ≡ false → Serves cell cell (Prepare v) (Answered Prepared)
  repeated u f h n = record {
    room = refl;
    reply = prepare_replies Prepared (sym (cond-false _ _ _ n ∙ ap (known_or v _) (ap record_in f) ∙ cond-true _ _ _ h));
    history = λ history s. same_for cell history _ (known_marked v history (known history s) (inr (held history s))) (known_floored v history (known history s)) (known_tag v history (known history s)) refl s;
  }
    where
      listed : (history : List Exchange) → StandsFor cell history → In u.prepared (versions history) × (is_kept history u.prepared ≡ true)
      listed history s =
          let i = find_is (λ (w : Version). is_version v.key v.stamp w.prepared) cell.versions u f in
          In-filter (is_kept history) u.prepared (versions history) (version_kept cell.versions history s.versions u i.0).0

      same : is_version v.key v.stamp u.prepared ≡ true
      same = (find_is (λ (w : Version). is_version v.key v.stamp w.prepared) cell.versions u f).1

      known : (history : List Exchange) → StandsFor cell history → is_known v history ≡ true
      known history s = any_is (is_version v.key v.stamp) (versions history) u.prepared (listed history s).0 same

      held : (history : List Exchange) → StandsFor cell history → is_held history v ≡ true
      held history s =
          let p = is_version-parts v.key v.stamp u.prepared same in
          sym (λ j. is_committed history (p.0 j) (p.1 j) || is_live history (p.0 j) (p.1 j))
          ∙ (and_parts (not_below history u.prepared) (is_held history u.prepared) (listed history s).1).1

  -- one of other content clashes
  pub clashes : (u : Version) → version_at v.key v.stamp cell.versions ≡ Some u → record_eq u.prepared v ≡ false → nat_lt v.stamp (floor_of (entry_at v.key cell.entries)) ≡ false → Serves cell cell (Prepare v) (Answered Clash)
  clashes u f h n = refused Clash refl (sym (cond-false _ _ _ n ∙ ap (known_or v _) (ap record_in f) ∙ cond-false _ _ _ h))

  -- a version that is not kept, and is not above its client's mark, is discarded
  pub discarded : version_at v.key v.stamp cell.versions ≡ None → nat_lt v.stamp (floor_of (entry_at v.key cell.entries)) ≡ false → nat_le v.stamp (mark_in cell.marks (client_of v.stamp)) ≡ true → Serves cell cell (Prepare v) (Answered Discarded)
  discarded none high marked = refused Discarded refl (sym (cond-false _ _ _ high ∙ ap (known_or v _) (ap record_in none) ∙ cond-true _ _ _ marked))

  pub full_items : version_at v.key v.stamp cell.versions ≡ None → nat_lt v.stamp (floor_of (entry_at v.key cell.entries)) ≡ false → nat_le v.stamp (mark_in cell.marks (client_of v.stamp)) ≡ false → is_some (entry_at v.key cell.entries) ≡ false → (length cell.entries == cell.room.items) ≡ true → Serves cell cell (Prepare v) (Answered FullItems)
  full_items none high unmarked k full =
      refused FullItems refl (sym (cond-false _ _ _ high ∙ ap (known_or v _) (ap record_in none) ∙ cond-false _ _ _ unmarked
      ∙ cond-true _ _ _ (ap (λ b. not b && (length cell.entries == cell.room.items)) k ∙ full)))

  pub full_slots : version_at v.key v.stamp cell.versions ≡ None → nat_lt v.stamp (floor_of (entry_at v.key cell.entries)) ≡ false → nat_le v.stamp (mark_in cell.marks (client_of v.stamp)) ≡ false → (not (is_some (entry_at v.key cell.entries)) && (length cell.entries == cell.room.items)) ≡ false → (length cell.versions == cell.room.slots) ≡ true → Serves cell cell (Prepare v) (Answered FullSlots)
  full_slots none high unmarked items full =
      refused FullSlots refl (sym (cond-false _ _ _ high ∙ ap (known_or v _) (ap record_in none) ∙ cond-false _ _ _ unmarked ∙ cond-false _ _ _ items ∙ cond-true _ _ _ full))

  module _ (none : version_at v.key v.stamp cell.versions ≡ None) (high : nat_lt v.stamp (floor_of (entry_at v.key cell.entries)) ≡ false) (unmarked : nat_le v.stamp (mark_in cell.marks (client_of v.stamp)) ≡ false) (slots : (length cell.versions == cell.room.slots) ≡ false) where
    above : (history : List Exchange) → StandsFor cell history → not_below history v ≡ true
    above history s = le-leb _ _ (ltb-false _ _ (ap (nat_lt v.stamp) (floor_is cell history s v.key) ∙ high))

    fresh : (history : List Exchange) → StandsFor cell history → is_known v history ≡ false
    fresh history s =
        not_listed v history (no_version cell.versions history s.versions v.key v.stamp none) (above history s)
        (ap (nat_le v.stamp) (mark_is cell history s (client_of v.stamp)) ∙ unmarked)

    -- a new version of an item that has an entry
    pub stored : (versions : List Version) → SameMembers versions (record { prepared = v; committed = false } ∷ cell.versions) → is_some (entry_at v.key cell.entries) ≡ true → Serves cell (record cell { versions = versions }) (Prepare v) (Answered Prepared)
    stored versions more k = record {
      room = refl;
      reply = prepare_replies Prepared (sym (cond-false _ _ _ high ∙ ap (known_or v _) (ap record_in none) ∙ cond-false _ _ _ unmarked ∙ cond-false _ _ _ (ap (λ b. not b && (length cell.entries == cell.room.items)) k) ∙ cond-false _ _ _ slots));
      history = λ history s.
          let known = item_is cell history s v.key ∙ k in
          record {
            versions = one_member cell.versions versions (marked_versions history) _ _ more s.versions (new_marked v history (fresh history s) (above history s));
            entries = λ test. s.entries test ∙ ap (count_by test) (sym (same_floored v history (fresh history s) known));
            tags = λ key. s.tags key ∙ sym (new_tag v history (inr (new_marked v history (fresh history s) (above history s))) key);
            marks = s.marks;
            clients = s.clients;
          };
    }

    -- and of one that has none
    pub stored_first : (versions : List Version) (entries : List KnownItem) → SameMembers versions (record { prepared = v; committed = false } ∷ cell.versions) → SameMembers entries (record { key = v.key; floor = 0 } ∷ cell.entries) → entry_at v.key cell.entries ≡ None → (length cell.entries == cell.room.items) ≡ false
        → Serves cell (record cell { versions = versions; entries = entries }) (Prepare v) (Answered Prepared)
    stored_first versions entries more first k room_left = record {
      room = refl;
      reply = prepare_replies Prepared (sym (cond-false _ _ _ high ∙ ap (known_or v _) (ap record_in none) ∙ cond-false _ _ _ unmarked ∙ cond-false _ _ _ (ap (λ o. not (is_some o) && (length cell.entries == cell.room.items)) k ∙ room_left) ∙ cond-false _ _ _ slots));
      history = λ history s.
          let unknown = item_is cell history s v.key ∙ ap is_some k in
          record {
            versions = one_member cell.versions versions (marked_versions history) _ _ more s.versions (new_marked v history (fresh history s) (above history s));
            entries = one_member cell.entries entries (floored history) _ _ first s.entries
                (new_floored v history (fresh history s) unknown
                ∙ ap (λ n. record { key = v.key; floor = n } ∷ floored history) (floor_is cell history s v.key ∙ ap floor_of k));
            tags = λ key. s.tags key ∙ sym (new_tag v history (inr (new_marked v history (fresh history s) (above history s))) key);
            marks = s.marks;
            clients = s.clients;
          };
    }

-- ---- COMMIT

-- the cell with its index left so by a COMMIT
abbrev pub committed_in : ℕ → Content → Tags → Content
committed_in stamp cell tags = record cell { versions = map (marked_at stamp) cell.versions; tags = tags }

pub commit_serves : (cell new : Content) (stamp n : ℕ) → new ≡ committed_in stamp cell new.tags → n ≡ count_by (λ (u : Version). u.prepared.stamp == stamp) cell.versions → (stamp ≡ 0 → n ≡ 0) → IsMoved stamp (map (marked_at stamp) cell.versions) (map (marked_at stamp) cell.versions) cell.tags new.tags
    → Serves cell new (Commit stamp) (Committed n)
unfolding reply_after
commit_serves cell new stamp n left counted initial moved = record {
  room = ap (λ (c : Content). c.room) left;
  reply = λ history s. ap Committed (counted ∙ s.versions (λ (u : Version). u.prepared.stamp == stamp) ∙ count_by-map (λ (u : Version). u.prepared.stamp == stamp) (mark_of history) (kept history));
  history = λ history s. rw left (record {
    versions = same history s;
    entries = s.entries;
    tags = λ key. moved_tag stamp (Committed n) cell.versions history s.versions (same history s) key cell.tags new.tags (s.tags key) moved (positive key);
    marks = s.marks;
    clients = s.clients;
  });
}
  where
    positive : (key : Key) → has_version_of stamp (map (marked_at stamp) cell.versions) key ≡ true → 0 < stamp
    positive key some =
        let w = any_in (λ (v : Version). is_version key stamp v.prepared) (map (marked_at stamp) cell.versions) some in
        let m = In-map (marked_at stamp) w.0 cell.versions w.1 in
        let p = is_version-parts key stamp w.0.prepared w.2 in
        let more = uncounted (λ (u : Version). u.prepared.stamp == stamp) m.0 cell.versions m.1 (eq-eqb m.0.prepared.stamp stamp (ap (λ (v : Version). v.prepared.stamp) m.2 ∙ p.1)) in
        elim (cases_lt 0 stamp) [ inl l ↦ l | inr z ↦ let zero : stamp ≡ 0 = omega arith in absurd (omega (arith, more, counted, initial zero)) ]

    agree : (history : List Exchange) (v : Record) → In v (kept history) → marked_at stamp (mark_of history v) ≡ mark_of (after_commit stamp n history) v
    agree history v i =
        let held = (and_parts (not_below history v) (is_held history v) (In-filter (is_kept history) v (versions history) i).1).1 in
        ap (λ b. record { prepared = v; committed = b }) (sym (committed_after stamp n history v held))

    same : (history : List Exchange) → StandsFor cell history → SameMembers (map (marked_at stamp) cell.versions) (marked_versions (after_commit stamp n history))
    same history s test =
        count_by-map test (marked_at stamp) cell.versions
        ∙ s.versions (λ u. test (marked_at stamp u))
        ∙ count_by-map (λ u. test (marked_at stamp u)) (mark_of history) (kept history)
        ∙ count_by-in _ _ (kept history) (λ v i. ap test (agree history v i))
        ∙ sym (count_by-map test (mark_of (after_commit stamp n history)) (kept history))
        ∙ ap (λ vs. count_by test (map (mark_of (after_commit stamp n history)) vs)) (sym (kept_committed stamp n history))

-- where no version has the stamp, none is marked
pub unmarked : (stamp : ℕ) (vs : List Version) → count_by (λ (u : Version). u.prepared.stamp == stamp) vs ≡ 0 → map (marked_at stamp) vs ≡ vs
unmarked stamp vs none =
    map_fixed (marked_at stamp) vs (λ k d w.
    let v = get_or vs k d in
    λ i. record { prepared = v.prepared; committed = none_counted (λ (u : Version). u.prepared.stamp == stamp) vs none k d w i || v.committed })

-- how the code compares two stamps
pub below_test : (m n : ℕ) → is_lt (nat_cmp m n) ≡ nat_lt m n
below_test m n = grind (arith, nat_tests)

-- an empty cell stands for the empty history
pub empty_stands : (room : Room) → StandsFor (record { room = room; versions = []; entries = []; tags = fin.empty; marks = fin.empty }) []
empty_stands room = record { versions = λ test. refl; entries = λ test. refl; tags = λ key. ap (λ o. unwrap_or o []) (fin.get-empty key_cmp key); marks = fin.get-empty nat_cmp; clients = fin.len-empty nat_cmp ℕ }
