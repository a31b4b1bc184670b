-- For `Findings`. What an index reports of a cell's log, where it reports of each item the tag of its latest committed version.
use Rattle.std.proofs.Common.{◌≡◌, Bool, true, false, cond, ◌&&◌, nat_lt, List, [], ◌∷◌, map, filter, Option, Some, None, bytes_eq, inl, inr, refl, sym, ◌∙◌, ap, subst}
use Rattle.std.specs.List.{list_any}
use Rattle.std.specs.FinMap.{get}
use Rattle.std.proofs.lemmas.Slice.Eq.{bytes_eq-Decides}
use Rattle.plain_store.specs.Words.{Key, Tag, Record, is_tagged}
use Rattle.plain_store.specs.Log.{Log, versions, record_of, latest, items}
use Rattle.plain_store.specs.Tags.{carries as record_carries, is_under, under, findings}
use Rattle.plain_store.proofs.Counting.{In, any_in, any_is}
use Rattle.secondary_index.specs.Index.{Tags, findings_of, keys_under, carries_tag}
use Rattle.secondary_index.proofs.Findings.{findings_by, distinct-AllPairs}

abbrev pub tag_of : Option Record → Tag
tag_of None = []
tag_of (Some version) = version.tag

-- the tag of an item's latest committed version, the empty one where none is committed
abbrev pub latest_tag : Log → Key → Tag
latest_tag log key = cond (nat_lt 0 (latest log key)) (tag_of (record_of log key (latest log key))) []

-- what an index reports of a key after a log: nothing, unless it is an item
abbrev pub tag_after : Log → Key → Option Tag
tag_after log key = cond (list_any (bytes_eq key) (items log)) (Some (latest_tag log key)) None

is_item : (log : Log) (key : Key) → list_any (bytes_eq key) (items log) ≡ true → In key (items log)
is_item log key h =
    let found = any_in (bytes_eq key) (items log) h in
    let P : Key → Type 0 = λ k. In k (items log) in
    subst P (sym ((bytes_eq-Decides key found.0).0 found.2)) found.1

item_found : (keys : List Key) (key : Key) → In key keys → list_any (bytes_eq key) keys ≡ true
item_found keys key i = any_is (bytes_eq key) keys key i ((bytes_eq-Decides key key).1 refl)

-- tests that agree on what stands in a list keep the same of it
filter_alike : (p q : Key → Bool) (keys : List Key) → ((key : Key) → In key keys → p key ≡ q key) → filter p keys ≡ filter q keys
filter_alike p q [] alike = refl
filter_alike p q (key ∷ keys) alike =
    let here = alike key (inl refl) in
    let rest = filter_alike p q keys (λ k i. alike k (inr i)) in
    λ i. cond (here i) (key ∷ rest i) (rest i)

no_tag : (tag : Tag) → is_tagged tag [] ≡ false
no_tag [] = refl
no_tag (b ∷ bs) = refl

carried : (tag : Tag) (o : Option Record) → is_tagged tag (tag_of o) ≡ record_carries tag o
carried tag None = no_tag tag
carried tag (Some version) = refl

-- an item stands under a tag where the index reports that tag of it
under_alike : (log : Log) (tag : Tag) (key : Key) → In key (items log) → carries_tag tag (tag_after log key) ≡ is_under log tag key
under_alike log tag key i =
    ap (λ b. carries_tag tag (cond b (Some (latest_tag log key)) None)) (item_found (items log) key i) ∙ by (nat_lt 0 (latest log key))
  where
    by : (b : Bool) → is_tagged tag (cond b (tag_of (record_of log key (latest log key))) []) ≡ (b && record_carries tag (record_of log key (latest log key)))
    by true = carried tag (record_of log key (latest log key))
    by false = no_tag tag

told : (log : Log) (tag : Tag) (key : Key) → carries_tag tag (tag_after log key) ≡ true → list_any (bytes_eq key) (items log) ≡ true
told log tag key h = by (list_any (bytes_eq key) (items log)) h
  where
    by : (b : Bool) → carries_tag tag (cond b (Some (latest_tag log key)) None) ≡ true → b ≡ true
    by true h = refl
    by false h = h

-- the findings of the log
pub findings_after : (tags : Tags) (log : Log) (tag : Tag) → ((key : Key) → get tags key ≡ tag_after log key) → findings_of (keys_under tags tag) ≡ findings log tag
unfolding under
findings_after tags log tag is =
    findings_by tags (tag_after log) (items log) tag is (distinct-AllPairs (map (λ (v : Record). v.key) (versions log))) (λ key h. is_item log key (told log tag key h))
    ∙ ap findings_of (filter_alike (λ key. carries_tag tag (tag_after log key)) (is_under log tag) (items log) (under_alike log tag))
