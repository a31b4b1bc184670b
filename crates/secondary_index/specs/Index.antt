-- An index: a finite map from known keys to the tag that each was last set to.
use Rattle.std.specs.Prelude.{◌≡◌, ◌<◌, ◌⊎◌, ◌&&◌, not, IsTrue, ℕ, Bool, false, if◌then◌else◌, List, [], ◌∷◌, map, filter}
use Rattle.std.specs.Prelude.{length, take, Option, Some, None, unwrap_or, bytes_eq, refl}
use Rattle.std.specs.Coded.{Coded, code_by, coded×, coded_ℕ, coded_list}
use Rattle.std.specs.FinMap.{FinMap, get, contains_key, insert, len, entries, code}
use Rattle.stamps.specs.Key.{key_cmp, sorted_keys}
use Rattle.stamps.specs.Limits.{max_found}
use Rattle.plain_store.specs.Words.{Key, Tag, Findings, is_tagged}
use Rattle.plain_store.specs.Log.{distinct}

-- the known keys, each with its tag; the empty tag is none
abbrev pub Tags : Type 0
Tags = FinMap key_cmp Tag

-- how many keys there is room for, and the known ones with their tags
pub record Index : Type 0 where
  pub room : ℕ
  pub tags : Tags

-- an index is stored as the pair of its fields
abbrev pub index_code : Coded Index
index_code =
    code_by (ℕ × Tags) (coded× coded_ℕ (code (coded_list coded_ℕ) (coded_list coded_ℕ))) (λ i. (i.room, i.tags))
    (λ p. record { room = p.0; tags = p.1 }) (λ _. refl)

-- how many keys these are, and the first `max_found` of them in byte order
abbrev pub findings_of : List Key → Findings
findings_of keys = record { count = length keys; keys = take max_found (sorted_keys keys) }

-- the keys that carry a tag; none carries the empty one
abbrev pub keys_under : Tags → Tag → List Key
keys_under tags tag = map (λ e. e.0) (filter (λ e. is_tagged tag e.1) (entries tags))

-- the tag of a key: the empty one, where it is not known
abbrev pub tag_of : Tags → Key → Tag
tag_of tags key = unwrap_or (get tags key) []

-- the tags with this one as the key's, in place of the one that it had; where it is the empty one, a key that is not known stays so
abbrev pub with_tag : Tags → Key → Tag → Tags
with_tag tags key tag = if bytes_eq tag [] && not (contains_key tags key) then tags else insert tags key tag

-- a key may be set that is known, or for which there is room
abbrev pub HasPlace : Index → Key → Type 0
HasPlace index key = IsTrue (contains_key index.tags key) ⊎ (len index.tags < index.room)

-- ---- after a list of calls

-- a call of `set`
pub record Setting : Type 0 where
  pub key : Key
  pub tag : Tag

-- the tag that a key was last set to, where the list has the newest call first
abbrev pub last_tag : List Setting → Key → Option Tag
last_tag [] key = None
last_tag (setting ∷ before) key = if bytes_eq setting.key key then Some setting.tag else last_tag before key

-- the keys that were ever set are known, each with its last tag
abbrev pub IsIndexOf : Tags → List Setting → Type 0
IsIndexOf tags settings = (key : Key) → get tags key ≡ last_tag settings key

abbrev pub carries_tag : Tag → Option Tag → Bool
carries_tag tag None = false
carries_tag tag (Some own) = is_tagged tag own

-- the keys whose last tag is this one, each once
abbrev pub keys_last_set_to : List Setting → Tag → List Key
keys_last_set_to settings tag =
    filter (λ key. carries_tag tag (last_tag settings key)) (distinct (map (λ (s : Setting). s.key) settings))
