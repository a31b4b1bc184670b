-- How acts are packed, and what is read of them.
use Rattle.std.specs.Prelude.{◌<◌, ◌^◌, ◌==◌, ℕ, nat_lt, List, [], ◌∷◌, ◌++◌, length}
use Rattle.std.specs.Prelude.{Option, Some, None, if◌then◌else◌}
use Rattle.std.specs.List.{AllByRecursion}
use Rattle.stamps.specs.Limits.{max_counter}
use Rattle.stamps.specs.Bounds.{IsClient, IsCounter, IsKeep}
use Rattle.stamps.specs.Key.{IsKey}
use Rattle.stamps.specs.Tag.{IsTag}
use Rattle.stamps.specs.Value.{IsValue}
use Rattle.stamps.specs.declared.record.Item.{Item}
use Rattle.plain_store.specs.declared.step.Act.{Act}
use Rattle.plain_store.specs.declared.step.Act.TheVariants.{Hello, Put, Get, Find, Deliver, Lose, Retry}
use Rattle.plain_store.specs.declared.step.Act.TheVariants.{Stop, Collect, Keep}
use Rattle.packed.specs.Packing.{packed_number, packed_text}
use Rattle.packed.specs.Reading.{◌>>=◌, byte_at, number_at, count_at, key_at, tag_at, value_at}
use Rattle.packed_steps.specs.Lists.{packed_list, many_at}

-- ---- items

-- part by part
abbrev pub packed_item : Item → List ℕ
packed_item i = packed_text i.key ++ packed_text i.tag ++ packed_text i.value

-- what each item of the store meets
pub record IsStoreItem (i : Item) : Type 0 where
  pub key : IsKey i.key
  pub tag : IsTag i.tag
  pub value : IsValue i.value

unfoldable pub item_at : List ℕ → Option (Item × List ℕ)
item_at bytes = do
  key ← key_at bytes
  tag ← tag_at key.1
  value ← value_at tag.1
  Some (record { key = key.0; tag = tag.0; value = value.0 }, value.1)

-- ---- acts

-- a byte for the form, and its parts
abbrev pub packed_act : Act → List ℕ
packed_act (Hello client base) = 0 ∷ packed_number client ++ packed_number base
packed_act (Put client items) = 1 ∷ packed_number client ++ packed_list packed_item items
packed_act (Get client keys) = 2 ∷ packed_number client ++ packed_list packed_text keys
packed_act (Find client tag) = 3 ∷ packed_number client ++ packed_text tag
packed_act (Deliver row) = 4 ∷ packed_number row
packed_act (Lose row) = 5 ∷ packed_number row
packed_act (Retry client) = 6 ∷ packed_number client
packed_act (Stop client) = 7 ∷ packed_number client
packed_act (Collect partition) = 8 ∷ packed_number partition
packed_act (Keep keep) = 9 ∷ keep ∷ []

-- what each list of items, and each list of keys, of the store meets
pub record AreStoreItems (items : List Item) : Type 0 where
  pub counted : length items < 2 ^ 64
  pub each : AllByRecursion IsStoreItem items

pub record AreStoreKeys (keys : List (List ℕ)) : Type 0 where
  pub counted : length keys < 2 ^ 64
  pub each : AllByRecursion IsKey keys

-- what each act of the store meets
abbrev pub IsStoreAct : Act → Type 0
IsStoreAct (Hello client base) = IsClient client × IsCounter base
IsStoreAct (Put client items) = IsClient client × AreStoreItems items
IsStoreAct (Get client keys) = IsClient client × AreStoreKeys keys
IsStoreAct (Find client tag) = IsClient client × IsTag tag
IsStoreAct (Deliver row) = row < 2 ^ 64
IsStoreAct (Lose row) = row < 2 ^ 64
IsStoreAct (Retry client) = IsClient client
IsStoreAct (Stop client) = IsClient client
IsStoreAct (Collect partition) = partition < 2 ^ 32
IsStoreAct (Keep keep) = IsKeep keep

-- ---- what is read of acts

-- 1 to 65535
abbrev pub client_from : ℕ → Option ℕ
client_from n = if nat_lt 65535 n then None else (if n == 0 then None else Some n)

unfoldable pub client_at : List ℕ → Option (ℕ × List ℕ)
client_at bytes = do
  n ← number_at bytes
  client ← client_from n.0
  Some (client, n.1)

abbrev pub counter_from : ℕ → Option ℕ
counter_from n = if nat_lt max_counter n then None else Some n

unfoldable pub counter_at : List ℕ → Option (ℕ × List ℕ)
counter_at bytes = do
  n ← number_at bytes
  counter ← counter_from n.0
  Some (counter, n.1)

unfoldable pub items_at : List ℕ → Option (List Item × List ℕ)
items_at bytes = do
  count ← number_at bytes
  many_at item_at count.0 count.1

unfoldable pub keys_at : List ℕ → Option (List (List ℕ) × List ℕ)
keys_at bytes = do
  count ← number_at bytes
  many_at key_at count.0 count.1

unfoldable pub hello_at : List ℕ → Option (Act × List ℕ)
hello_at bytes = do
  client ← client_at bytes
  base ← counter_at client.1
  Some (Hello client.0 base.0, base.1)

unfoldable pub put_at : List ℕ → Option (Act × List ℕ)
put_at bytes = do
  client ← client_at bytes
  items ← items_at client.1
  Some (Put client.0 items.0, items.1)

unfoldable pub get_at : List ℕ → Option (Act × List ℕ)
get_at bytes = do
  client ← client_at bytes
  keys ← keys_at client.1
  Some (Get client.0 keys.0, keys.1)

unfoldable pub find_at : List ℕ → Option (Act × List ℕ)
find_at bytes = do
  client ← client_at bytes
  tag ← tag_at client.1
  Some (Find client.0 tag.0, tag.1)

unfoldable pub deliver_at : List ℕ → Option (Act × List ℕ)
deliver_at bytes = do
  row ← number_at bytes
  Some (Deliver row.0, row.1)

unfoldable pub lose_at : List ℕ → Option (Act × List ℕ)
lose_at bytes = do
  row ← number_at bytes
  Some (Lose row.0, row.1)

unfoldable pub retry_at : List ℕ → Option (Act × List ℕ)
retry_at bytes = do
  client ← client_at bytes
  Some (Retry client.0, client.1)

unfoldable pub stop_at : List ℕ → Option (Act × List ℕ)
stop_at bytes = do
  client ← client_at bytes
  Some (Stop client.0, client.1)

unfoldable pub collection_at : List ℕ → Option (Act × List ℕ)
collection_at bytes = do
  partition ← count_at bytes
  Some (Collect partition.0, partition.1)

unfoldable pub keep_at : List ℕ → Option (ℕ × List ℕ)
keep_at bytes = do
  keep ← byte_at bytes
  if keep.0 == 0 then None else Some keep

unfoldable pub kept_at : List ℕ → Option (Act × List ℕ)
kept_at bytes = do
  keep ← keep_at bytes
  Some (Keep keep.0, keep.1)

-- the parts of a form that no list stands in
unfoldable pub small_act_by : ℕ → List ℕ → Option (Act × List ℕ)
small_act_by form bytes =
    if form == 0 then hello_at bytes
    else (if form == 3 then find_at bytes
    else (if form == 4 then deliver_at bytes
    else (if form == 5 then lose_at bytes
    else (if form == 6 then retry_at bytes
    else (if form == 7 then stop_at bytes
    else (if form == 8 then collection_at bytes
    else (if form == 9 then kept_at bytes
    else None)))))))

-- the parts of this form
unfoldable pub act_by : ℕ → List ℕ → Option (Act × List ℕ)
act_by form bytes =
    if form == 1 then put_at bytes
    else (if form == 2 then get_at bytes
    else small_act_by form bytes)

unfoldable pub act_at : List ℕ → Option (Act × List ℕ)
act_at bytes = do
  form ← byte_at bytes
  act_by form.0 form.1
