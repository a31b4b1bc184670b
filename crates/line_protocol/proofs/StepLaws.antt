-- What is read is spelled so, and what is spelled so is read: for the parts of a step line.
use Rattle.std.proofs.Common.{◌≡◌, ◌^◌, ◌<◌, ◌≤◌, ℕ, Bool, true, false, ◌||◌, cond, eqb, List, [], ◌∷◌, ◌++◌, Some, None, refl, sym, ap, subst, ◌∙◌, arith, append_assoc}
use Rattle.std.specs.Prelude.{decimal}
use Rattle.std.specs.List.{list_all}
use Rattle.std.proofs.lemmas.Bool.{and_parts, and_from, eqb-false, ne_eqb}
use Rattle.std.proofs.lemmas.Option.{same_Some}
use Rattle.stamps.specs.Limits.{max_value_len}
use Rattle.stamps.specs.Bounds.{IsClient, IsKeep}
use Rattle.stamps.specs.Text.{is_name_byte, is_visible_byte}
use Rattle.stamps.specs.Tag.{IsTag}
use Rattle.stamps.specs.declared.record.Item.{Item}
use Rattle.line_protocol.specs.Spelling.{tag_text}
use Rattle.line_protocol.specs.Reading.{◌>>=◌, split_first, number_at, key_at, value_at, tagged_at}
use Rattle.line_protocol.specs.StepSpelling.{is_tenant_byte, IsName, item_text, IsItem}
use Rattle.line_protocol.specs.StepReading.{client_at, keep_at, item_at}
use Rattle.line_protocol.proofs.Splits.{Lacks, Lacks-append, bind_some, split_first-joined, split_first-parts}
use Rattle.line_protocol.proofs.Numbers.{number_found, number_again}
use Rattle.line_protocol.proofs.Laws.{IsReader, Lacks-allowed, Lacks-decimal, text_reader, not_chosen}
use Rattle.line_protocol.proofs.RecordLaws.{key_is, tag_lacks, tagged_found, tagged_again}

-- ---- names

or_true_left : (a b : Bool) → a ≡ true → (a || b) ≡ true
or_true_left true b e = refl
or_true_left false b e = absurd cc

tenant_byte : (byte : ℕ) → is_tenant_byte byte ≡ true → is_name_byte byte ≡ true
tenant_byte byte h =
    or_true_left (is_tenant_byte byte || eqb byte 46 || eqb byte 47) (eqb byte 45)
    (or_true_left (is_tenant_byte byte || eqb byte 46) (eqb byte 47) (or_true_left (is_tenant_byte byte) (eqb byte 46) h))

tenant_bytes : (text : List ℕ) → list_all is_tenant_byte text ≡ true → list_all is_name_byte text ≡ true
tenant_bytes [] h = refl
tenant_bytes (b ∷ text) h =
    let p = and_parts (is_tenant_byte b) (list_all is_tenant_byte text) h in
    and_from (is_name_byte b) (list_all is_name_byte text) (tenant_byte b p.0) (tenant_bytes text p.1)

-- each name is spelled as a tag is
pub name_is_tag : (text : List ℕ) → IsName text → IsTag text
name_is_tag text h = record { at_least = omega arith; at_most = h.at_most; all_allowed = tenant_bytes text h.all_allowed }

-- ---- a number above 0

positive_found : (most : ℕ) (text : List ℕ) (n : ℕ) → most < 2 ^ 64 → (number_at most text >>= λ m. cond (eqb m 0) None (Some m)) ≡ Some n → (0 < n) × (n ≤ most) × (text ≡ decimal n)
positive_found most text n bound e =
    let m = bind_some (number_at most text) (λ m. cond (eqb m 0) None (Some m)) n e in
    let some = not_chosen (eqb m.0 0) (Some m.0) n m.2 in
    let number = number_found most text m.0 bound m.1 in
    let ne = eqb-false m.0 0 some.0 in
    subst (λ (k : ℕ). (0 < k) × (k ≤ most) × (text ≡ decimal k)) (same_Some m.0 n some.1) (omega arith, number.0, number.1)

positive_again : (most n : ℕ) → most < 2 ^ 64 → 0 < n → n ≤ most → (number_at most (decimal n) >>= λ m. cond (eqb m 0) None (Some m)) ≡ Some n
positive_again most n bound positive small =
    let above : eqb n 0 ≡ false = ne_eqb n 0 (λ e. omega (arith, e)) in
    rw (number_again most n small bound, above) refl

-- ---- clients

client_found : (text : List ℕ) (client : ℕ) → client_at text ≡ Some client → IsClient client × (text ≡ decimal client)
unfolding client_at
client_found text client e = let n = positive_found 65535 text client (omega arith) e in (record { positive = n.0; small = omega (arith, n.1) }, n.2)

client_again : (client : ℕ) → IsClient client → client_at (decimal client) ≡ Some client
unfolding client_at
client_again client h = positive_again 65535 client (omega arith) h.positive (omega (arith, h.small))

pub client_reader : IsReader decimal IsClient client_at
client_reader = record { found = client_found; again = client_again }

pub client_lacks_space : (client : ℕ) → IsClient client → Lacks 32 (decimal client)
client_lacks_space client h = let small = h.small in Lacks-decimal 32 client refl (omega arith)

-- ---- keeps

keep_found : (text : List ℕ) (keep : ℕ) → keep_at text ≡ Some keep → IsKeep keep × (text ≡ decimal keep)
unfolding keep_at
keep_found text keep e = let n = positive_found 255 text keep (omega arith) e in (record { positive = n.0; small = omega (arith, n.1) }, n.2)

keep_again : (keep : ℕ) → IsKeep keep → keep_at (decimal keep) ≡ Some keep
unfolding keep_at
keep_again keep h = positive_again 255 keep (omega arith) h.positive (omega (arith, h.small))

pub keep_reader : IsReader decimal IsKeep keep_at
keep_reader = record { found = keep_found; again = keep_again }

-- ---- items

item_joined : (text front value' key' value key tag : List ℕ) → text ≡ front ++ 61 ∷ value' → front ≡ key' ++ tag → key' ≡ key → value' ≡ value → text ≡ key ++ (tag ++ 61 ∷ value)
item_joined text front value' key' value key tag a b c d = a ∙ ap (λ (f : List ℕ). f ++ 61 ∷ value') b ∙ append_assoc key' tag (61 ∷ value') ∙ ap (λ (k : List ℕ). k ++ (tag ++ 61 ∷ value')) c ∙ ap (λ (v : List ℕ). key ++ (tag ++ 61 ∷ v)) d

-- the item that was made is the one that was found
item_made : (text : List ℕ) (made item : Item) → Some made ≡ Some item → IsItem made → text ≡ item_text made → IsItem item × (text ≡ item_text item)
item_made text made item same is spelled = subst (λ (i : Item). IsItem i × (text ≡ item_text i)) (same_Some made item same) (is, spelled)

item_found : (text : List ℕ) (item : Item) → item_at text ≡ Some item → IsItem item × (text ≡ item_text item)
unfolding item_at
item_found text item e =
    let p = bind_some (split_first 61 text) (λ p. value_at p.1 >>= λ value. tagged_at p.0 >>= λ t. key_at t.0 >>= λ key. Some (record { key = key; tag = t.1; value = value })) item e in
    let v = bind_some (value_at p.0.1) (λ value. tagged_at p.0.0 >>= λ t. key_at t.0 >>= λ key. Some (record { key = key; tag = t.1; value = value })) item p.2 in
    let t = bind_some (tagged_at p.0.0) (λ t. key_at t.0 >>= λ key. Some (record { key = key; tag = t.1; value = v.0 })) item v.2 in
    let k = bind_some (key_at t.0.0) (λ key. Some (record { key = key; tag = t.0.1; value = v.0 })) item t.2 in
    let value = (text_reader is_visible_byte 0 max_value_len).found p.0.1 v.0 v.1 in
    let tag = tagged_found p.0.0 t.0.0 t.0.1 t.1 in
    let key = key_is.found t.0.0 k.0 k.1 in
    item_made text (record { key = k.0; tag = t.0.1; value = v.0 }) item k.2 (record { key = key.0; tag = tag.0; value = value.0 })
    (item_joined text p.0.0 p.0.1 t.0.0 v.0 k.0 (tag_text t.0.1) (split_first-parts 61 text p.0.0 p.0.1 p.1).parts tag.1 key.1 value.1)

front_lacks : (byte : ℕ) (item : Item) → is_name_byte byte ≡ false → eqb 35 byte ≡ false → IsItem item → Lacks byte (item.key ++ tag_text item.tag)
front_lacks byte item name hash h =
    Lacks-append byte item.key (tag_text item.tag) (Lacks-allowed is_name_byte byte name item.key h.key.all_allowed) (tag_lacks byte item.tag name hash h.tag.all_allowed)

item_again : (item : Item) → IsItem item → item_at (item_text item) ≡ Some item
unfolding item_at
item_again item h =
    rw (
      sym (append_assoc item.key (tag_text item.tag) (61 ∷ item.value)),
      split_first-joined 61 (item.key ++ tag_text item.tag) item.value (front_lacks 61 item refl refl h),
      (text_reader is_visible_byte 0 max_value_len).again item.value h.value,
      tagged_again item.key item.tag (Lacks-allowed is_name_byte 35 refl item.key h.key.all_allowed) h.tag,
      key_is.again item.key h.key,
    ) refl

pub item_reader : IsReader item_text IsItem item_at
item_reader = record { found = item_found; again = item_again }

pub item_lacks_space : (item : Item) → IsItem item → Lacks 32 (item_text item)
item_lacks_space item h =
    subst (Lacks 32) (append_assoc item.key (tag_text item.tag) (61 ∷ item.value))
    (Lacks-append 32 (item.key ++ tag_text item.tag) (61 ∷ item.value) (front_lacks 32 item refl refl h) (refl, Lacks-allowed is_visible_byte 32 refl item.value h.value.all_allowed))
