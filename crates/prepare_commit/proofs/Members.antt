-- For `Cell::prepare` and `collect`. What a cell finds in its lists is what the history has.
use Rattle.std.proofs.Common.{◌≡◌, ℕ, Bool, true, false, ◌&&◌, eqb, List, find, length, Option, Some, None, bytes_eq, refl, sym, ◌∙◌, ap, subst, arith}
use Rattle.std.specs.List.{list_any}
use Rattle.std.specs.Cmp.{booleans_Decides}
use mathlib.Core.Bool.{beq}
use Rattle.std.proofs.lemmas.Bool.{and_parts, and_from, eqb-true, eq-eqb, both_ways, false_from_ne_true}
use Rattle.std.proofs.lemmas.Slice.Eq.{bytes_eq-Decides}
use Rattle.std.proofs.lemmas.List.{length-map}
use Rattle.stamps.specs.Record.{Record, record_eq}
use Rattle.plain_store.specs.Log.{Exchange, is_version, versions, is_committed, floor, kept, items}
use Rattle.stamps.specs.RecordLaws.{record_eq-Decides}
use Rattle.plain_store.proofs.Counting.{In, counted, uncounted, count_by-all, find_is, find_none, any_is, any_in, In-map, map-In}
use Rattle.plain_store.proofs.Logs.{is_version-parts, kept_unique, find_version, any_item, IsUnknown, floor_none}
use Rattle.prepare_commit.specs.Lists.{SameMembers}
use Rattle.prepare_commit.specs.Content.{entry_at, version_at}
use Rattle.prepare_commit.specs.Serving.{marked_versions, floored}
use Rattle.version_chain.specs.declared.version.Version.{Version}
use Rattle.prepare_commit.specs.declared.items.KnownItem.{KnownItem}

-- what stands in the one stands in the other, where a test reports the members apart
pub In-same : {X : Type 0} (same : X → X → Bool) → ((x y : X) → same x y ≡ true → x ≡ y) → ((x : X) → same x x ≡ true) → (xs ys : List X) → SameMembers xs ys → (x : X) → In x xs → In x ys
In-same {X} same apart own xs ys h x i =
    let n = uncounted (same x) x xs i (own x) in
    let c = counted (same x) ys (omega (arith, n, h (same x))) in
    let P : X → Type 0 = λ y. In y ys in
    subst P (sym (apart x c.0 c.2)) c.1

pub same_length : {X : Type 0} (xs ys : List X) → SameMembers xs ys → length xs ≡ length ys
same_length xs ys same = sym (count_by-all xs) ∙ same (λ _. true) ∙ count_by-all ys

abbrev pub same_version : Version → Version → Bool
same_version v w = record_eq v.prepared w.prepared && beq v.committed w.committed

pub same_version-true : (v w : Version) → same_version v w ≡ true → v ≡ w
same_version-true v w h =
    let p = and_parts (record_eq v.prepared w.prepared) (beq v.committed w.committed) h in
    let r = (record_eq-Decides v.prepared w.prepared).0 p.0 in
    let b = (booleans_Decides v.committed w.committed).0 p.1 in
    λ i. record { prepared = r i; committed = b i }

pub same_version-own : (v : Version) → same_version v v ≡ true
same_version-own v = and_from _ _ ((record_eq-Decides v.prepared v.prepared).1 refl) ((booleans_Decides v.committed v.committed).1 refl)

abbrev pub same_entry : KnownItem → KnownItem → Bool
same_entry e f = bytes_eq e.key f.key && eqb e.floor f.floor

pub same_entry-true : (e f : KnownItem) → same_entry e f ≡ true → e ≡ f
same_entry-true e f h =
    let p = and_parts (bytes_eq e.key f.key) (eqb e.floor f.floor) h in
    let k = (bytes_eq-Decides e.key f.key).0 p.0 in
    let n = eqb-true e.floor f.floor p.1 in
    λ i. record { key = k i; floor = n i }

pub same_entry-own : (e : KnownItem) → same_entry e e ≡ true
same_entry-own e = and_from _ _ ((bytes_eq-Decides e.key e.key).1 refl) (eq-eqb e.floor e.floor refl)

module _ (entries : List KnownItem) (history : List Exchange) (s : SameMembers entries (floored history)) where
  In-floored : (e : KnownItem) → In e entries → In e (floored history)
  In-floored = In-same same_entry same_entry-true same_entry-own entries (floored history) s

  In-entries : (e : KnownItem) → In e (floored history) → In e entries
  In-entries = In-same same_entry same_entry-true same_entry-own (floored history) entries (λ test. sym (s test))

  pub found_entry : (key : List ℕ) (e : KnownItem) → entry_at key entries ≡ Some e → (floor history key ≡ e.floor) × (list_any (bytes_eq key) (items history) ≡ true)
  found_entry key e h =
      let f = find_is (λ (x : KnownItem). bytes_eq x.key key) entries e h in
      let m = In-map (λ k. record { key = k; floor = floor history k }) e (items history) (In-floored e f.0) in
      let k : m.0 ≡ key = ap (λ (x : KnownItem). x.key) m.2 ∙ (bytes_eq-Decides e.key key).0 f.1 in
      (ap (floor history) (sym k) ∙ ap (λ (x : KnownItem). x.floor) m.2, any_is (bytes_eq key) (items history) m.0 m.1 ((bytes_eq-Decides key m.0).1 (sym k)))

  pub no_entry : (key : List ℕ) → entry_at key entries ≡ None → (floor history key ≡ 0) × (list_any (bytes_eq key) (items history) ≡ false)
  no_entry key h = (floor_none history key unknown, none)
    where
      none : list_any (bytes_eq key) (items history) ≡ false
      none = false_from_ne_true _ (λ t.
          let a = any_in (bytes_eq key) (items history) t in
          let e : KnownItem = record { key = a.0; floor = floor history a.0 } in
          let i = In-entries e (map-In (λ k. record { key = k; floor = floor history k }) a.0 (items history) a.1) in
          both_ways _ (find_none (λ (x : KnownItem). bytes_eq x.key key) entries h e i) ((bytes_eq-Decides a.0 key).1 (sym ((bytes_eq-Decides key a.0).0 a.2))))

      unknown : IsUnknown history key
      unknown v i = false_from_ne_true _ (λ t.
          both_ways _ (sym (any_item key history) ∙ none) (any_is (λ (r : Record). bytes_eq key r.key) (versions history) v i ((bytes_eq-Decides key v.key).1 (sym ((bytes_eq-Decides v.key key).0 t)))))

  pub entries_length : length entries ≡ length (items history)
  entries_length = same_length entries (floored history) s ∙ length-map (items history) _

module _ (held : List Version) (history : List Exchange) (s : SameMembers held (marked_versions history)) where
  In-marked : (v : Version) → In v held → In v (marked_versions history)
  In-marked = In-same same_version same_version-true same_version-own held (marked_versions history) s

  In-versions : (v : Version) → In v (marked_versions history) → In v held
  In-versions = In-same same_version same_version-true same_version-own (marked_versions history) held (λ test. sym (s test))

  -- the versions of the cell are kept, and marked where they are committed
  pub version_kept : (v : Version) → In v held → In v.prepared (kept history) × (v.committed ≡ is_committed history v.prepared.key v.prepared.stamp)
  version_kept v i =
      let m = In-map (λ (r : Record). record { prepared = r; committed = is_committed history r.key r.stamp }) v (kept history) (In-marked v i) in
      let P : Version → Type 0 = λ w. In w.prepared (kept history) × (w.committed ≡ is_committed history w.prepared.key w.prepared.stamp) in
      subst P m.2 (m.1, refl)

  pub kept_version : (r : Record) → In r (kept history) → In (record { prepared = r; committed = is_committed history r.key r.stamp }) held
  kept_version r i = In-versions _ (map-In (λ (r : Record). record { prepared = r; committed = is_committed history r.key r.stamp }) r (kept history) i)

  pub found_version : (key : List ℕ) (stamp : ℕ) (v : Version) → version_at key stamp held ≡ Some v → find (is_version key stamp) (kept history) ≡ Some v.prepared
  found_version key stamp v e =
      let f = find_is (λ (w : Version). is_version key stamp w.prepared) held v e in
      let p = is_version-parts key stamp v.prepared f.1 in
      find_version (kept history) (kept_unique history) key stamp v.prepared (version_kept v f.0).0 p.0 p.1

  pub no_version : (key : List ℕ) (stamp : ℕ) → version_at key stamp held ≡ None → find (is_version key stamp) (kept history) ≡ None
  no_version key stamp e = by (find (is_version key stamp) (kept history)) refl
    where
      by : (o : Option Record) → find (is_version key stamp) (kept history) ≡ o → o ≡ None
      by None f = refl
      by (Some r) f =
          let g = find_is (is_version key stamp) (kept history) r f in
          absurd (both_ways _ (find_none (λ (w : Version). is_version key stamp w.prepared) held e _ (kept_version r g.0)) g.1)

  pub versions_length : length held ≡ length (kept history)
  versions_length = same_length held (marked_versions history) s ∙ length-map (kept history) _
