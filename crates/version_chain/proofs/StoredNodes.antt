-- For `Block` and `StoredNode`. Versions as they lie in a block: a head in the cell, and the bytes of the record beside it.
use Rattle.std.proofs.Common.{◌≡◌, inl, inr, ℕ, zero, suc, ◌<◌, ◌≤◌, Bool, min, false, true, cond, List, [], ◌∷◌, length, take, set, replicate, Option, Some, None, IsSome, is_some, refl, sym, ap, subst, ◌∙◌, arith, length-set, length-take-le}
use Rattle.std.proofs.lemmas.List.{get_or-set_same, get_or-set_other, get_or_past}
use Rattle.stamps.specs.Record.{Record}
use Rattle.packed.specs.Packing.{IsStoreRecord}
use Rattle.packed.specs.Bodies.{packed_body, record_in, IsFront, IsPackedBody}
use Rattle.packed.specs.Sizes.{max_body_bytes}
use Rattle.packed.proofs.BodyParts.{record_is}
use Rattle.plain_store.proofs.Counting.{count_by-cons}
use Rattle.version_arena.specs.Arena.{IsLive, beside, entry, live_count, next_beside, with_next}
use Rattle.version_arena.specs.SlotBytes.{bytes_at}
use Rattle.version_chain.specs.declared.version.Head.{Head}
use Rattle.version_chain.specs.Node.{Node}
use Rattle.version_chain.specs.Chain.{Cells, IsMarkedAt}
use Rattle.version_chain.specs.Stored.{HeadCells, AreStored, IsStored, IsStoredIn, body_of, node_of, node_or, no_node, record_of, stored_cell, stored_cells, stored_node}
use Rattle.version_chain.proofs.Replacing.{same_or_not}

held : (cell : Option (Node × Option ℕ)) → IsSome cell → cell ≡ Some (node_or no_node cell, beside cell)
held None some = absurd (let e : false ≡ true = some in cc)
held (Some cell) some = refl

pub stored_there : (cells : Cells) (slot : ℕ) → IsLive cells slot → entry cells slot ≡ Some (stored_node cells slot, next_beside cells slot)
stored_there cells slot live = held (entry cells slot) live

-- ---- the cells, by their heads and bytes

pub stored_long : (cells : HeadCells) (all : List (List ℕ)) → length (stored_cells cells all) ≡ length cells
stored_long [] all = refl
stored_long (cell ∷ cells) [] = ap suc (stored_long cells [])
stored_long (cell ∷ cells) (bytes ∷ all) = ap suc (stored_long cells all)

pub stored_entry : (cells : HeadCells) (all : List (List ℕ)) (slot : ℕ) → entry (stored_cells cells all) slot ≡ stored_cell (entry cells slot) (bytes_at all slot)
stored_entry [] all slot = refl
stored_entry (cell ∷ cells) [] zero = refl
stored_entry (cell ∷ cells) [] (suc slot) = stored_entry cells [] slot
stored_entry (cell ∷ cells) (bytes ∷ all) zero = refl
stored_entry (cell ∷ cells) (bytes ∷ all) (suc slot) = stored_entry cells all slot

-- a head is written, and bytes are put, at one slot
pub stored_set : (cells : HeadCells) (all : List (List ℕ)) (slot : ℕ) (cell : Option (Head × Option ℕ)) (bytes : List ℕ) → slot < length all
    → stored_cells (set cells slot cell) (set all slot bytes) ≡ set (stored_cells cells all) slot (stored_cell cell bytes)
stored_set [] all slot cell bytes within = refl
stored_set (other ∷ cells) [] slot cell bytes within = absurd (omega (arith, within))
stored_set (other ∷ cells) (b ∷ all) zero cell bytes within = refl
stored_set (other ∷ cells) (b ∷ all) (suc slot) cell bytes within = ap (λ rest. stored_cell other b ∷ rest) (stored_set cells all slot cell bytes (omega (arith, within)))

-- a head alone is written
pub stored_write : (cells : HeadCells) (all : List (List ℕ)) (slot : ℕ) (cell : Option (Head × Option ℕ))
    → stored_cells (set cells slot cell) all ≡ set (stored_cells cells all) slot (stored_cell cell (bytes_at all slot))
stored_write [] all slot cell = refl
stored_write (other ∷ cells) [] zero cell = refl
stored_write (other ∷ cells) [] (suc slot) cell = ap (λ rest. stored_cell other [] ∷ rest) (stored_write cells [] slot cell)
stored_write (other ∷ cells) (b ∷ all) zero cell = refl
stored_write (other ∷ cells) (b ∷ all) (suc slot) cell = ap (λ rest. stored_cell other b ∷ rest) (stored_write cells all slot cell)

pub stored_none : (count : ℕ) (all : List (List ℕ)) → stored_cells (replicate count None) all ≡ replicate count None
stored_none zero all = refl
stored_none (suc count) [] = ap (λ (rest : Cells). None ∷ rest) (stored_none count [])
stored_none (suc count) (b ∷ all) = ap (λ (rest : Cells). None ∷ rest) (stored_none count all)

-- ---- what is live

some_stored : (cell : Option (Head × Option ℕ)) (bytes : List ℕ) → is_some (stored_cell cell bytes) ≡ is_some cell
some_stored None bytes = refl
some_stored (Some cell) bytes = refl

pub live_stored : (cells : HeadCells) (all : List (List ℕ)) (slot : ℕ) → is_some (entry (stored_cells cells all) slot) ≡ is_some (entry cells slot)
live_stored cells all slot = ap is_some (stored_entry cells all slot) ∙ some_stored (entry cells slot) (bytes_at all slot)

pub live_head : (cells : HeadCells) (all : List (List ℕ)) (slot : ℕ) → IsLive (stored_cells cells all) slot → IsLive cells slot
live_head cells all slot live = sym (live_stored cells all slot) ∙ live

abbrev one_if : Bool → ℕ
one_if b = cond b 1 0

counted : (cell : Option (Head × Option ℕ)) (cells : HeadCells) (bytes : List ℕ) (more : Cells) → live_count more ≡ live_count cells → live_count (stored_cell cell bytes ∷ more) ≡ live_count (cell ∷ cells)
counted cell cells bytes more same =
    let first : one_if (is_some (stored_cell cell bytes)) ≡ one_if (is_some cell) = ap one_if (some_stored cell bytes) in
    omega (arith, count_by-cons is_some (stored_cell cell bytes) more, count_by-cons is_some cell cells, first, same)

pub live_many : (cells : HeadCells) (all : List (List ℕ)) → live_count (stored_cells cells all) ≡ live_count cells
live_many [] all = refl
live_many (cell ∷ cells) [] = counted cell cells [] (stored_cells cells []) (live_many cells [])
live_many (cell ∷ cells) (bytes ∷ all) = counted cell cells bytes (stored_cells cells all) (live_many cells all)

next_stored : (cell : Option (Head × Option ℕ)) (bytes : List ℕ) → beside (stored_cell cell bytes) ≡ beside cell
next_stored None bytes = refl
next_stored (Some cell) bytes = refl

pub stored_next : (cells : HeadCells) (all : List (List ℕ)) (slot : ℕ) → next_beside (stored_cells cells all) slot ≡ next_beside cells slot
stored_next cells all slot = ap beside (stored_entry cells all slot) ∙ next_stored (entry cells slot) (bytes_at all slot)

-- ---- the bytes are those of the records

none_entry : (count slot : ℕ) → entry {T = Head} (replicate count None) slot ≡ None
none_entry zero slot = refl
none_entry (suc count) zero = refl
none_entry (suc count) (suc slot) = none_entry count slot

pub none_stored : (count : ℕ) (all : List (List ℕ)) → length all ≡ length (replicate {A = Option (Head × Option ℕ)} count None) → AreStored (replicate count None) all
none_stored count all long = record { long = long; each = λ slot. subst (λ c. IsStoredIn c (bytes_at all slot)) (sym (none_entry count slot)) tt }

module _ (cells : HeadCells) (all : List (List ℕ)) (are : AreStored cells all) (slot : ℕ) (within : slot < length cells) (cell : Option (Head × Option ℕ)) where
  -- of another head
  head_in : IsStoredIn cell (bytes_at all slot) → (k : ℕ) → IsStoredIn (entry (set cells slot cell) k) (bytes_at all k)
  head_in its k = elim (same_or_not k slot) [
    | inl same ↦ subst (λ n. IsStoredIn (entry (set cells slot cell) n) (bytes_at all n)) (sym same) (subst (λ c. IsStoredIn c (bytes_at all slot)) (sym (get_or-set_same cells slot cell None within)) its)
    | inr other ↦ subst (λ c. IsStoredIn c (bytes_at all k)) (sym (get_or-set_other cells slot k cell None other)) (are.each k)
  ]

  pub write_stored : IsStoredIn cell (bytes_at all slot) → AreStored (set cells slot cell) all
  write_stored its = record { long = are.long ∙ sym (length-set cells slot cell); each = head_in its }

  module _ (bytes : List ℕ) where
    both_in : IsStoredIn cell bytes → (k : ℕ) → IsStoredIn (entry (set cells slot cell) k) (bytes_at (set all slot bytes) k)
    both_in its k = elim (same_or_not k slot) [
      | inl same ↦ subst (λ n. IsStoredIn (entry (set cells slot cell) n) (bytes_at (set all slot bytes) n)) (sym same)
          (subst (λ c. IsStoredIn c (bytes_at (set all slot bytes) slot)) (sym (get_or-set_same cells slot cell None within))
          (subst (IsStoredIn cell) (sym (get_or-set_same all slot bytes [] (omega (arith, within, are.long)))) its))
      | inr other ↦ subst (λ c. IsStoredIn c (bytes_at (set all slot bytes) k)) (sym (get_or-set_other cells slot k cell None other))
          (subst (IsStoredIn (entry cells k)) (sym (get_or-set_other all slot k bytes [] other)) (are.each k))
    ]

    pub set_stored : IsStoredIn cell bytes → AreStored (set cells slot cell) (set all slot bytes)
    set_stored its = record { long = length-set all slot bytes ∙ are.long ∙ sym (length-set cells slot cell); each = both_in its }

-- ---- one live cell

pub live_within : (cells : HeadCells) (slot : ℕ) (cell : Head × Option ℕ) → entry cells slot ≡ Some cell → slot < length cells
live_within cells slot cell held = grind (arith, get_or_past)

module _ (cells : HeadCells) (all : List (List ℕ)) (slot : ℕ) (head : Head) (next : Option ℕ) (there : entry cells slot ≡ Some (head, next)) where
  pub node_is : stored_node (stored_cells cells all) slot ≡ node_of head (bytes_at all slot)
  node_is = ap (node_or no_node) (stored_entry cells all slot ∙ ap (λ c. stored_cell c (bytes_at all slot)) there)

  pub stored_at : AreStored cells all → IsStored head (bytes_at all slot)
  stored_at are = subst (λ c. IsStoredIn c (bytes_at all slot)) there (are.each slot)

  module _ (are : AreStored cells all) where
    abbrev its : IsStored head (bytes_at all slot)
    its = stored_at are

    -- the record that the bytes were packed of
    pub packed_of : record_of head (bytes_at all slot) ≡ its.packed.0
    packed_of = record_is head.stamp (body_of head (bytes_at all slot)) its.packed

    pub stamp_at : (stored_node (stored_cells cells all) slot).version.prepared.stamp ≡ head.stamp
    stamp_at = ap (λ n. n.version.prepared.stamp) node_is ∙ ap (λ r. r.stamp) packed_of ∙ its.packed.2

    pub store_at : IsStoreRecord (stored_node (stored_cells cells all) slot).version.prepared
    store_at = subst IsStoreRecord (sym (ap (λ n. n.version.prepared) node_is ∙ packed_of)) its.packed.1

    pub body_at : take head.len (bytes_at all slot) ≡ packed_body (stored_node (stored_cells cells all) slot).version.prepared
    body_at = its.packed.3 ∙ ap packed_body (sym (ap (λ n. n.version.prepared) node_is ∙ packed_of))

    pub len_at : head.len ≡ length (packed_body (stored_node (stored_cells cells all) slot).version.prepared)
    len_at = sym (length-take-le head.len (bytes_at all slot) its.there) ∙ ap length body_at

    -- the same of the version that a `StoredNode` shows
    module _ (b : Cells) (whole : stored_cells cells all ≡ b) (n : Node) (view : stored_node b slot ≡ n) where
      shown : stored_node (stored_cells cells all) slot ≡ n
      shown = ap (λ (cells : Cells). stored_node cells slot) whole ∙ view

      pub node_shown : node_of head (bytes_at all slot) ≡ n
      node_shown = sym node_is ∙ shown

      pub stamp_shown : head.stamp ≡ n.version.prepared.stamp
      stamp_shown = sym stamp_at ∙ ap (λ (n : Node). n.version.prepared.stamp) shown

      pub store_shown : IsStoreRecord n.version.prepared
      store_shown = subst (λ (n : Node). IsStoreRecord n.version.prepared) shown store_at

      pub body_shown : take head.len (bytes_at all slot) ≡ packed_body n.version.prepared
      body_shown = body_at ∙ ap (λ (n : Node). packed_body n.version.prepared) shown

      pub len_shown : head.len ≡ length (packed_body n.version.prepared)
      len_shown = len_at ∙ ap (λ (n : Node). length (packed_body n.version.prepared)) shown

      pub tag_len_shown : head.tag_len ≡ length n.version.prepared.tag
      tag_len_shown = its.tag ∙ ap (λ (n : Node). length n.version.prepared.tag) node_shown

-- ---- the front of a record

take_within : (len whole : ℕ) (bytes : List ℕ) → len ≤ whole → take len (take whole bytes) ≡ take len bytes
take_within zero whole bytes less = refl
take_within (suc len) zero bytes less = absurd (omega (arith, less))
take_within (suc len) (suc whole) [] less = refl
take_within (suc len) (suc whole) (x ∷ bytes) less = ap (λ rest. x ∷ rest) (take_within len whole bytes (omega (arith, less)))

pub front_is : (bytes body out : List ℕ) (whole len : ℕ) → take whole bytes ≡ body → whole ≤ length bytes → len ≡ min whole 64 → take len out ≡ take len bytes → IsFront (take len out) body
front_is bytes body out whole len is long first read =
    let within : len ≤ whole = omega (arith, first) in
    let count : length (take len out) ≡ len = ap length read ∙ length-take-le len bytes (omega (arith, within, long)) in
    let all : length body ≡ whole = ap length (sym is) ∙ length-take-le whole bytes long in
    record {
      same = read ∙ sym (take_within len whole bytes within) ∙ ap (take len) is ∙ ap (λ n. take n body) (sym count);
      long = omega (arith, count, all, first);
    }

-- ---- what the calls of a block leave

pub live_short : (cells : HeadCells) (slot : ℕ) → IsLive cells slot → slot < length cells
live_short [] slot some = absurd (let e : false ≡ true = some in cc)
live_short (cell ∷ cells) zero some = omega arith
live_short (cell ∷ cells) (suc slot) some = (let more = live_short cells slot some in omega (arith, more))

next_of : (cell : Option (Head × Option ℕ)) (bytes : List ℕ) (next : Option ℕ) → stored_cell (with_next cell next) bytes ≡ with_next (stored_cell cell bytes) next
next_of None bytes next = refl
next_of (Some cell) bytes next = refl

next_keeps : (cell : Option (Head × Option ℕ)) (bytes : List ℕ) (next : Option ℕ) → IsStoredIn cell bytes → IsStoredIn (with_next cell next) bytes
next_keeps None bytes next is = tt
next_keeps (Some cell) bytes next is = is

-- another slot is written beside a head
module _ (cells : HeadCells) (all : List (List ℕ)) (slot : ℕ) (next : Option ℕ) where
  pub next_is : stored_cells (set cells slot (with_next (entry cells slot) next)) all ≡ set (stored_cells cells all) slot (with_next (entry (stored_cells cells all) slot) next)
  next_is = stored_write cells all slot (with_next (entry cells slot) next)
      ∙ ap (set (stored_cells cells all) slot) (next_of (entry cells slot) (bytes_at all slot) next ∙ ap (λ c. with_next c next) (sym (stored_entry cells all slot)))

  pub next_stays : AreStored cells all → IsLive cells slot → AreStored (set cells slot (with_next (entry cells slot) next)) all
  next_stays are live = write_stored cells all are slot (live_short cells slot live) (with_next (entry cells slot) next) (next_keeps (entry cells slot) (bytes_at all slot) next (are.each slot))

-- a head and the bytes of its record are put into a free cell
module _ (cells : HeadCells) (all new : List (List ℕ)) (slot : ℕ) (head : Head) (next : Option ℕ) (within : slot < length cells)
    (are : AreStored cells all) (others : new ≡ set all slot (bytes_at new slot)) where
  pub put_is : (prepared : Record) → record_of head (bytes_at new slot) ≡ prepared
      → stored_cells (set cells slot (Some (head, next))) new ≡ set (stored_cells cells all) slot (Some (record { version = record { prepared = prepared; committed = head.committed }; tenant = head.tenant; chain = head.chain }, next))
  put_is prepared read =
      ap (stored_cells (set cells slot (Some (head, next)))) others
      ∙ stored_set cells all slot (Some (head, next)) (bytes_at new slot) (omega (arith, within, are.long))
      ∙ ap (λ (r : Record). set (stored_cells cells all) slot (Some (record { version = record { prepared = r; committed = head.committed }; tenant = head.tenant; chain = head.chain }, next))) read

  pub put_stays : IsStored head (bytes_at new slot) → AreStored (set cells slot (Some (head, next))) new
  put_stays its = subst (AreStored (set cells slot (Some (head, next)))) (sym others) (set_stored cells all are slot within (Some (head, next)) (bytes_at new slot) its)

-- so many bytes of a slot are those of a buffer, which are the body of a record
pub body_put : (stamp : ℕ) (head : Head) (bytes body : List ℕ) (len : ℕ) → head.len ≡ len → head.stamp ≡ stamp → take len bytes ≡ take len body → IsPackedBody stamp (take len body) → len ≤ length bytes → len ≤ max_body_bytes
    → head.tag_len ≡ length (record_of head bytes).tag → IsStored head bytes
body_put stamp head bytes body len same of there packed long few tag = record {
  packed = subst (λ s. IsPackedBody s (take head.len bytes)) (sym of) (subst (IsPackedBody stamp) (sym (ap (λ n. take n bytes) same ∙ there)) packed);
  there = omega (arith, same, long);
  few = omega (arith, same, few);
  tag = tag;
}

pub body_read : (stamp : ℕ) (head : Head) (bytes body : List ℕ) (len : ℕ) (prepared : Record) → head.len ≡ len → head.stamp ≡ stamp → take len bytes ≡ take len body → record_in stamp (take len body) ≡ prepared
    → record_of head bytes ≡ prepared
body_read stamp head bytes body len prepared same of there read = ap (λ s. record_in s (take head.len bytes)) of ∙ ap (record_in stamp) (ap (λ n. take n bytes) same ∙ there) ∙ read

-- ---- a version that is marked

pub mark_stays : (cells : HeadCells) (all : List (List ℕ)) (slot : ℕ) (head : Head) (next : Option ℕ) → entry cells slot ≡ Some (head, next) → AreStored cells all
    → AreStored (set cells slot (Some (record { stamp = head.stamp; tenant = head.tenant; chain = head.chain; len = head.len; tag_len = head.tag_len; committed = true }, next))) all
mark_stays cells all slot head next there are =
    let its = stored_at cells all slot head next there are in
    write_stored cells all are slot (live_within cells slot (head, next) there) _ (record { packed = its.packed; there = its.there; few = its.few; tag = its.tag })

pub marked_at : (cells : HeadCells) (all : List (List ℕ)) (slot : ℕ) (head : Head) → entry cells slot ≡ Some (head, next_beside cells slot)
    → IsMarkedAt (stored_cells cells all) (stored_cells (set cells slot (Some (record { stamp = head.stamp; tenant = head.tenant; chain = head.chain; len = head.len; tag_len = head.tag_len; committed = true }, next_beside cells slot))) all) slot
marked_at cells all slot head there =
    let next = stored_next cells all slot in
    record {
      node = node_of head (bytes_at all slot);
      held = stored_entry cells all slot ∙ ap (λ c. stored_cell c (bytes_at all slot)) there ∙ ap (λ n. Some (node_of head (bytes_at all slot), n)) (sym next);
      new_is = stored_write cells all slot _ ∙ ap (λ n. set (stored_cells cells all) slot (Some (record { version = record { prepared = record_of head (bytes_at all slot); committed = true }; tenant = head.tenant; chain = head.chain }, n))) (sym next);
    }
