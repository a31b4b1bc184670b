-- For `Cell::discard`. What a DISCARD leaves.
use Rattle.std.proofs.Common.{◌≡◌, ℕ, max, ◌+◌, ◌<◌, ◌≤◌, Bool, true, false, cond, not, ◌&&◌, ◌==◌, nat_le, is_some, List, map, length, get_or, count_by, sum_by, Some, None, refl, sym, ◌∙◌, ap, subst, arith}
use Rattle.std.specs.FinMap as fin
use Rattle.std.specs.Cmp.{unsigned_tied}
use Rattle.std.proofs.lemmas.Bool.{cond-true, cond-false, eqb-true, ne_eqb}
use Rattle.std.proofs.lemmas.Cmp.{nat_cmp_total, nat_eq_equiv}
use Rattle.std.proofs.lemmas.List.{length-map}
use Rattle.std.proofs.lemmas.List.Elements.{All-filter, filter-append}
use Rattle.std.proofs.lemmas.List.Filters.{length-filter_both}
use Rattle.std.proofs.lemmas.List.Sums.{length-filter}
use Rattle.stamps.specs.Record.{Record}
use Rattle.stamps.specs.Stamp.{client_of}
use Rattle.plain_store.specs.declared.calls.Call.TheVariants.{Discard}
use Rattle.plain_store.specs.declared.calls.Reply.TheVariants.{Discard as ToDiscard}
use Rattle.plain_store.specs.declared.calls.DiscardReply.TheVariants.{Dropped, FullMarks}
use Rattle.plain_store.specs.Log.{Exchange, is_committed, kept}
use Rattle.plain_store.specs.Marks.{mark, marked as marked_clients}
use Rattle.plain_store.specs.Replies.{is_droppable, discard_reply, reply_after}
use Rattle.plain_store.proofs.Counting.{count_by-map, count_by-filter}
use Rattle.plain_store.proofs.KeptAfter.{after_dropped, kept_dropped, mark_dropped, marked_dropped}
use Rattle.version_chain.specs.declared.version.Version.{Version}
use Rattle.version_chain.specs.Heads.{Heads}
use Rattle.version_chain.specs.Chain.{Cells, HoldsChains, is_open_at, without_open}
use Rattle.prepare_commit.specs.Lists.{SameMembers}
use Rattle.prepare_commit.specs.Content.{Content}
use Rattle.prepare_commit.specs.InBlock.{Parts, content_in, LiesIn}
use Rattle.prepare_commit.specs.Layout.{held_in, chain_lists, together, item_chains, IsVersionOf, IsLaid, HoldsTogether}
use Rattle.prepare_commit.specs.Marks.{mark_in, marks_of, if_marked, raised_mark}
use Rattle.prepare_commit.specs.Serving.{marked_versions, StandsFor, Serves}
use Rattle.prepare_commit.proofs.AllChains.{count_all}
use Rattle.prepare_commit.proofs.EachPlace.{used_is}
use Rattle.prepare_commit.proofs.ItemByItem.{together_each}
use Rattle.prepare_commit.proofs.ListsOfLists.{filter_all, none_counted, sum_by-map}
use Rattle.prepare_commit.proofs.Lying.{has_all}
use Rattle.prepare_commit.proofs.OwnChains.{laid_each}
use Rattle.prepare_commit.proofs.StandsAfter.{same_for, mark_is}

abbrev pub stays : ℕ → Version → Bool
stays stamp v = not (is_open_at stamp v)

abbrev mark_of : List Exchange → Record → Version
mark_of history v = record { prepared = v; committed = is_committed history v.key v.stamp }

-- the marks are full, and the stamp's client has none
abbrev pub is_refused : Content → ℕ → Bool
is_refused cell stamp = not (is_some (fin.get cell.marks (client_of stamp))) && nat_le cell.room.clients (fin.len cell.marks)

-- the cell after a DISCARD that counts
abbrev pub taken_back : ℕ → Content → Content
taken_back stamp cell = record { room = cell.room; versions = without_open stamp cell.versions; entries = cell.entries; tags = cell.tags; marks = raised_mark cell.marks stamp }

-- what goes and what stays are all
parted : (stamp : ℕ) (vs : List Version) → count_by (is_open_at stamp) vs + length (without_open stamp vs) ≡ length vs
parted stamp vs = omega (arith, length-filter (is_open_at stamp) vs, length-filter_both (is_open_at stamp) (stays stamp) (λ v. refl) vs)

-- where no version has the stamp, none goes
none_gone : (stamp : ℕ) (vs : List Version) → count_by (λ (u : Version). u.prepared.stamp == stamp) vs ≡ 0 → without_open stamp vs ≡ vs
none_gone stamp vs none =
    filter_all (stays stamp) vs (λ k d w. ap (λ b. not (b && not (get_or vs k d).committed)) (none_counted (λ (u : Version). u.prepared.stamp == stamp) vs none k d w))

module _ (cell : Content) (history : List Exchange) (s : StandsFor cell history) (stamp : ℕ) where
  abbrev client : ℕ
  client = client_of stamp

  unmarked_by : not (is_some (fin.get cell.marks client)) ≡ (mark history client == 0)
  unmarked_by = ap (λ o. not (is_some o)) (s.marks client) ∙ unmarked (mark history client)
    where
      unmarked : (n : ℕ) → not (is_some (if_marked n)) ≡ (n == 0)
      unmarked n = grind arith

  refused_is : is_refused cell stamp ≡ ((mark history client == 0) && nat_le cell.room.clients (length (marked_clients history)))
  refused_is = λ i. unmarked_by i && nat_le cell.room.clients (s.clients i)

  versions_left : (n : ℕ) → SameMembers (without_open stamp cell.versions) (marked_versions (after_dropped stamp n history))
  versions_left n test =
      count_by-filter test (stays stamp) cell.versions
      ∙ s.versions (λ u. stays stamp u && test u)
      ∙ count_by-map (λ u. stays stamp u && test u) (mark_of history) (kept history)
      ∙ sym (count_by-filter (λ v. test (mark_of history v)) (λ v. not (is_droppable history stamp v)) (kept history))
      ∙ ap (count_by (λ v. test (mark_of history v))) (sym (kept_dropped stamp n history))
      ∙ sym (count_by-map test (mark_of history) (kept (after_dropped stamp n history)))

  marks_left : (n : ℕ) → 0 < stamp → (q : ℕ) → fin.get (raised_mark cell.marks stamp) q ≡ if_marked (mark (after_dropped stamp n history) q)
  marks_left n some q =
      fin.get-insert nat_cmp_total cell.marks client (max stamp (mark_in cell.marks client)) q
      ∙ ap (λ b. cond b (Some (max stamp (mark_in cell.marks client))) (fin.get cell.marks q)) (unsigned_tied q client ∙ nat_eq_equiv.symm q client)
      ∙ by (client == q) refl
      ∙ ap if_marked (sym (mark_dropped stamp n history q))
    where
      by : (b : Bool) → (client == q) ≡ b → cond b (Some (max stamp (mark_in cell.marks client))) (fin.get cell.marks q) ≡ if_marked (cond b (max stamp (mark history q)) (mark history q))
      by true e =
          ap (λ n. Some (max stamp n)) (sym (mark_is cell history s client) ∙ ap (mark history) (eqb-true client q e))
          ∙ sym (cond-false (max stamp (mark history q) == 0) None (Some (max stamp (mark history q))) (ne_eqb _ 0 (λ zero. absurd (omega (arith, some, zero)))))
      by false e = s.marks q

  clients_left : (n : ℕ) → 0 < stamp → fin.len (raised_mark cell.marks stamp) ≡ length (marked_clients (after_dropped stamp n history))
  clients_left n some =
      fin.len-insert nat_cmp_total cell.marks client (max stamp (mark_in cell.marks client))
      ∙ swapped (is_some (fin.get cell.marks client)) (fin.len cell.marks)
      ∙ (λ i. cond (unmarked_by i) (s.clients i + 1) (s.clients i))
      ∙ sym (marked_dropped stamp n history some)
    where
      swapped : (b : Bool) (m : ℕ) → cond b m (m + 1) ≡ cond (not b) (m + 1) m
      swapped b m = grind arith

-- ---- the calls

pub discards : (cell new : Content) (stamp n : ℕ) → 0 < stamp → is_refused cell stamp ≡ false → new ≡ taken_back stamp cell → n + length new.versions ≡ length cell.versions → Serves cell new (Discard stamp) (ToDiscard (Dropped n))
unfolding reply_after discard_reply
discards cell new stamp n some free left freed = record {
  room = ap (λ (c : Content). c.room) left;
  reply = λ history s. ap ToDiscard (
      ap Dropped (count history s)
      ∙ sym (cond-false (stamp == 0) _ _ (ne_eqb stamp 0 (λ e. absurd (omega (arith, some, e)))) ∙ cond-false _ _ _ (sym (refused_is cell history s stamp) ∙ free)));
  history = λ history s. rw left (record {
    versions = versions_left cell history s stamp n;
    entries = s.entries;
    tags = s.tags;
    marks = marks_left cell history s stamp n some;
    clients = clients_left cell history s stamp n some;
  });
}
  where
    count : (history : List Exchange) → StandsFor cell history → n ≡ count_by (is_droppable history stamp) (kept history)
    count history s =
        let gone : n ≡ count_by (is_open_at stamp) cell.versions = omega (arith, freed, parted stamp cell.versions, ap (λ (c : Content). length c.versions) left) in
        gone ∙ s.versions (is_open_at stamp) ∙ count_by-map (is_open_at stamp) (mark_of history) (kept history)

pub discards_refused : (cell : Content) (stamp : ℕ) → 0 < stamp → is_refused cell stamp ≡ true → Serves cell cell (Discard stamp) (ToDiscard FullMarks)
unfolding reply_after discard_reply
discards_refused cell stamp some full = record {
  room = refl;
  reply = λ history s. ap ToDiscard (sym (cond-false (stamp == 0) _ _ (ne_eqb stamp 0 (λ e. absurd (omega (arith, some, e)))) ∙ cond-true _ _ _ (sym (refused_is cell history s stamp) ∙ full)));
  history = λ history s. same_for cell history _ refl refl (λ key. refl) refl s;
}

discards_first : (cell : Content) → count_by (λ (u : Version). u.prepared.stamp == 0) cell.versions ≡ 0 → Serves cell cell (Discard 0) (ToDiscard (Dropped 0))
unfolding reply_after discard_reply
discards_first cell none = record {
  room = refl;
  reply = λ history s. refl;
  history = λ history s. record {
    versions = subst (λ vs. SameMembers vs (marked_versions (after_dropped 0 0 history))) (none_gone 0 cell.versions none) (versions_left cell history s 0 0);
    entries = s.entries;
    tags = s.tags;
    marks = λ client. s.marks client ∙ ap if_marked (sym (mark_dropped 0 0 history client ∙ same_max (client_of 0 == client) (mark history client)));
    clients = s.clients;
  };
}
  where
    same_max : (b : Bool) (n : ℕ) → cond b (max 0 n) n ≡ n
    same_max b n = grind arith

pub discards_initial : (cell : Content) (stamp : ℕ) → count_by (λ (u : Version). u.prepared.stamp == stamp) cell.versions ≡ 0 → stamp ≡ 0 → Serves cell cell (Discard stamp) (ToDiscard (Dropped 0))
discards_initial cell stamp none initial = rw initial (discards_first cell (subst (λ n. count_by (λ (u : Version). u.prepared.stamp == n) cell.versions ≡ 0) initial none))

-- ---- the items' chains, without the versions of the stamp that are not committed

module _ (block after : Cells) (cell : Parts) (heads : Heads) (stamp n : ℕ) (lies : LiesIn block cell) (few : length cell.items ≤ cell.room.items) (stands : HoldsChains after heads)
    (gone : chain_lists after heads ≡ map (without_open stamp) (chain_lists block cell.chains)) (fewer : heads.used + n ≡ cell.chains.used) (share : heads.share ≡ cell.chains.share) where
  abbrev all : List Version
  all = (content_in block cell).versions

  versions_gone : together (item_chains cell.items (chain_lists after heads)) ≡ without_open stamp all
  versions_gone =
      ap (λ lists. together (item_chains cell.items lists)) gone
      ∙ together_each (without_open stamp) refl (filter-append (stays stamp)) cell.items (chain_lists block cell.chains)

  counted : heads.used ≡ length (together (item_chains cell.items (chain_lists after heads)))
  counted =
      used_is after heads stands
      ∙ ap (sum_by (λ (vs : List Version). length vs)) gone
      ∙ sum_by-map length (without_open stamp) (chain_lists block cell.chains)
      ∙ (λ j. sum_by (λ vs. length-filter (stays stamp) vs j) (chain_lists block cell.chains))
      ∙ sym (count_all cell.items (held_in block cell.chains) (has_all block cell lies few) (used_is block cell.chains lies.versions.stands) (stays stamp))
      ∙ sym (length-filter (stays stamp) all)
      ∙ ap length (sym versions_gone)

  pub discard_holds : HoldsTogether cell.room.slots cell.room.items cell.items (held_in after heads) cell.index
  discard_holds = record {
    laid = subst (IsLaid cell.items) (sym gone) (laid_each (without_open stamp) refl (λ key vs own. All-filter (stays stamp) (IsVersionOf key) vs own) cell.items (chain_lists block cell.chains) lies.holds.laid);
    counted = counted;
    fits = omega (arith, fewer, lies.holds.fits);
    share = share ∙ lies.holds.share;
    chains = ap length gone ∙ length-map (chain_lists block cell.chains) (without_open stamp) ∙ lies.holds.chains;
    knows = lies.holds.knows;
    room = lies.holds.room;
  }

  pub discard_serves : (marks : List ℕ) → 0 < stamp → is_refused (content_in block cell) stamp ≡ false → marks_of marks ≡ raised_mark (marks_of cell.marks) stamp
      → Serves (content_in block cell) (content_in after (record cell { chains = heads; marks = marks })) (Discard stamp) (ToDiscard (Dropped n))
  discard_serves marks some free raised =
      discards (content_in block cell) (content_in after (record cell { chains = heads; marks = marks })) stamp n some free
      (λ i. record (content_in block cell) { versions = versions_gone i; marks = raised i }) (omega (arith, fewer, counted, lies.holds.counted))
