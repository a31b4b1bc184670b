-- That a packed act is read again.
use Rattle.std.proofs.Common.{◌≡◌, ℕ, ◌∷◌, ◌++◌, List, Some, refl, ap, ◌∙◌, append_assoc, length, arith}
use Rattle.std.specs.List.{flat_map}
use Rattle.std.proofs.lemmas.Bool.{ne_eqb, le-ltb}
use Rattle.stamps.specs.Bounds.{IsClient, IsCounter, IsKeep}
use Rattle.stamps.specs.Key.{IsKey}
use Rattle.stamps.specs.Limits.{max_counter}
use Rattle.stamps.specs.declared.record.Item.{Item}
use Rattle.plain_store.specs.declared.step.Act.{Act}
use Rattle.plain_store.specs.declared.step.Act.TheVariants.{Hello, Put, Get, Find, Deliver, Lose, Retry}
use Rattle.plain_store.specs.declared.step.Act.TheVariants.{Stop, Collect, Keep}
use Rattle.packed.specs.Packing.{packed_number, packed_text}
use Rattle.packed.specs.Reading.{key_at}
use Rattle.packed_steps.specs.Lists.{packed_list}
use Rattle.packed_steps.specs.PackedActs.{packed_item, IsStoreItem, item_at, packed_act, AreStoreItems, AreStoreKeys, IsStoreAct, client_at, counter_at, items_at, keys_at, hello_at, put_at, get_at, find_at, deliver_at, lose_at, retry_at, stop_at, collection_at, keep_at, kept_at, small_act_by, act_by, act_at}
use Rattle.packed.proofs.Texts.{number_again, count_again, key_again, tag_again, value_again}
use Rattle.packed_steps.proofs.ManyLoop.{many_again}

pub client_again : (client : ℕ) (rest : List ℕ) → IsClient client → client_at (packed_number client ++ rest) ≡ Some (client, rest)
unfolding client_at
client_again client rest h =
    let some = h.positive in
    let small = h.small in
    rw (number_again client rest (omega arith), le-ltb 65535 client (omega arith), ne_eqb client 0 (λ e. omega (arith, some, e))) refl

pub counter_again : (counter : ℕ) (rest : List ℕ) → IsCounter counter → counter_at (packed_number counter ++ rest) ≡ Some (counter, rest)
unfolding counter_at
counter_again counter rest h =
    rw (number_again counter rest (omega (arith, h)), le-ltb max_counter counter h) refl

pub keep_again : (keep : ℕ) (rest : List ℕ) → IsKeep keep → keep_at (keep ∷ rest) ≡ Some (keep, rest)
unfolding keep_at
keep_again keep rest h = let some = h.positive in rw (ne_eqb keep 0 (λ e. omega (arith, some, e))) refl

parted : (a b c rest : List ℕ) → (a ++ b ++ c) ++ rest ≡ a ++ (b ++ (c ++ rest))
parted a b c rest = simp append_assoc

pub item_again : (i : Item) (rest : List ℕ) → IsStoreItem i → item_at (packed_item i ++ rest) ≡ Some (i, rest)
unfolding item_at
item_again i rest h =
    let after_tag = packed_text i.value ++ rest in
    let after_key = packed_text i.tag ++ after_tag in
    ap item_at (parted (packed_text i.key) (packed_text i.tag) (packed_text i.value) rest)
    ∙ rw (key_again i.key after_key h.key, tag_again i.tag after_tag h.tag, value_again i.value rest h.value) refl

items_again : (items : List Item) (rest : List ℕ) → AreStoreItems items → items_at (packed_list packed_item items ++ rest) ≡ Some (items, rest)
unfolding items_at
items_again items rest h =
    let others = flat_map packed_item items in
    ap items_at (append_assoc (packed_number (length items)) others rest)
    ∙ rw (number_again (length items) (others ++ rest) h.counted, many_again item_at packed_item IsStoreItem item_again items rest h.each) refl

keys_again : (keys : List (List ℕ)) (rest : List ℕ) → AreStoreKeys keys → keys_at (packed_list packed_text keys ++ rest) ≡ Some (keys, rest)
unfolding keys_at
keys_again keys rest h =
    let others = flat_map packed_text keys in
    ap keys_at (append_assoc (packed_number (length keys)) others rest)
    ∙ rw (number_again (length keys) (others ++ rest) h.counted, many_again key_at packed_text IsKey key_again keys rest h.each) refl

hello_again : (client base : ℕ) (rest : List ℕ) → IsClient client → IsCounter base → hello_at ((packed_number client ++ packed_number base) ++ rest) ≡ Some (Hello client base, rest)
unfolding hello_at
hello_again client base rest h k =
    ap hello_at (append_assoc (packed_number client) (packed_number base) rest)
    ∙ rw (client_again client (packed_number base ++ rest) h, counter_again base rest k) refl

put_again : (client : ℕ) (items : List Item) (rest : List ℕ) → IsClient client → AreStoreItems items → put_at ((packed_number client ++ packed_list packed_item items) ++ rest) ≡ Some (Put client items, rest)
unfolding put_at
put_again client items rest h k =
    ap put_at (append_assoc (packed_number client) (packed_list packed_item items) rest)
    ∙ rw (client_again client (packed_list packed_item items ++ rest) h, items_again items rest k) refl

get_again : (client : ℕ) (keys : List (List ℕ)) (rest : List ℕ) → IsClient client → AreStoreKeys keys → get_at ((packed_number client ++ packed_list packed_text keys) ++ rest) ≡ Some (Get client keys, rest)
unfolding get_at
get_again client keys rest h k =
    ap get_at (append_assoc (packed_number client) (packed_list packed_text keys) rest)
    ∙ rw (client_again client (packed_list packed_text keys ++ rest) h, keys_again keys rest k) refl

find_again : (client : ℕ) (tag rest : List ℕ) → IsStoreAct (Find client tag) → find_at ((packed_number client ++ packed_text tag) ++ rest) ≡ Some (Find client tag, rest)
unfolding find_at
find_again client tag rest h =
    ap find_at (append_assoc (packed_number client) (packed_text tag) rest)
    ∙ rw (client_again client (packed_text tag ++ rest) h.0, tag_again tag rest h.1) refl

pub act_again : (act : Act) (rest : List ℕ) → IsStoreAct act → act_at (packed_act act ++ rest) ≡ Some (act, rest)
unfolding act_at act_by small_act_by deliver_at lose_at retry_at stop_at collection_at kept_at
act_again (Hello client base) rest h = hello_again client base rest h.0 h.1
act_again (Put client items) rest h = put_again client items rest h.0 h.1
act_again (Get client keys) rest h = get_again client keys rest h.0 h.1
act_again (Find client tag) rest h = find_again client tag rest h
act_again (Deliver row) rest h = rw (number_again row rest h) refl
act_again (Lose row) rest h = rw (number_again row rest h) refl
act_again (Retry client) rest h = rw (client_again client rest h) refl
act_again (Stop client) rest h = rw (client_again client rest h) refl
act_again (Collect partition) rest h = rw (count_again partition rest h) refl
act_again (Keep keep) rest h = rw (keep_again keep rest h) refl
