-- How an index lies in its lists.
use Rattle.std.specs.Prelude.{◌≡◌, Bool, false, not, ◌&&◌, List, [], map, filter, length, count_by, is_some, Option}
use Rattle.std.specs.Prelude.{Some, None, bytes_eq}
use Rattle.std.specs.FinMap.{get, from_sorted}
use Rattle.std.specs.FinMap.Entries.{find}
use Rattle.std.specs.Ordering.{ordering_then}
use Rattle.std.specs.declared.cmp.Ordering.{Ordering}
use Rattle.stamps.specs.Key.{key_cmp}
use Rattle.plain_store.specs.Words.{Key, Tag}
use Rattle.secondary_index.specs.declared.entries.TaggedKey.{TaggedKey}
use Rattle.secondary_index.specs.declared.pairs.Pair.{Pair}
use Rattle.secondary_index.specs.Index.{Tags, carries_tag}
use Rattle.secondary_index.specs.Ordered.{IsInOrder}

-- ---- the known keys

abbrev pub entry_row : TaggedKey → Key × Tag
entry_row e = (e.key, e.tag)

abbrev pub tags_of : List TaggedKey → Tags
tags_of entries = from_sorted (map entry_row entries)

abbrev pub is_tagged_entry : TaggedKey → Bool
is_tagged_entry e = not (bytes_eq e.tag [])

-- ---- the pairs of a tag and a key that carries it

-- by tag, and then by key
abbrev pub pair_cmp : Pair → Pair → Ordering
pair_cmp p q = ordering_then (key_cmp p.tag q.tag) (key_cmp p.key q.key)

abbrev pub pair_row : Pair → Pair × Unit {0}
pair_row p = (p, tt)

-- whether a pair is in the list
abbrev pub has_pair : List Pair → Pair → Bool
has_pair pairs p = is_some (find pair_cmp p (map pair_row pairs))

-- whether the pair of this key and this tag, if there is one, is in the list
abbrev pub has_own : List Pair → Key → Option Tag → Bool
has_own pairs key None = false
has_own pairs key (Some tag) = has_pair pairs (record { tag = tag; key = key })

-- whether it is the pair of this key and this tag, if there is one
abbrev pub is_pair : Key → Option Tag → Pair → Bool
is_pair key None p = false
is_pair key (Some tag) p = bytes_eq p.tag tag && bytes_eq p.key key

-- the keys of the pairs with a tag
abbrev pub paired_keys : Tag → List Pair → List Key
paired_keys tag pairs = map (λ (p : Pair). p.key) (filter (λ (p : Pair). bytes_eq p.tag tag) pairs)

-- the pairs are those of the keys that carry a tag
pub record Holds (entries : List TaggedKey) (pairs : List Pair) : Type 0 where
  pub in_order : IsInOrder key_cmp entry_row entries
  pub pairs_in_order : IsInOrder pair_cmp pair_row pairs
  pub members : (p : Pair) → has_pair pairs p ≡ carries_tag p.tag (get (tags_of entries) p.key)
  pub as_many : length pairs ≡ count_by is_tagged_entry entries
