-- What is read is spelled so, and what is spelled so is read: for write sets and records.
use Rattle.std.proofs.Common.{◌≡◌, ℕ, ◌<◌, true, false, ◌&&◌, cond, eqb, leb, ltb, List, [], ◌∷◌, ◌++◌, length, Option, Some, None, refl, sym, ap, subst, ◌∙◌, arith}
use Rattle.std.specs.Prelude.{decimal, bytes_eq, map}
use Rattle.std.specs.List.{list_all, list_any, slice_split, AllByRecursion}
use Rattle.std.proofs.lemmas.Bool.{and_parts, leb-true, le-leb, ltb-true, lt-ltb}
use Rattle.std.proofs.lemmas.Option.{cond_some, same_Some}
use Rattle.std.proofs.lemmas.List.{append-nil}
use Rattle.std.proofs.lemmas.List.Elements.{All-from_recursion}
use Rattle.std.proofs.lemmas.List.Splits.{slice_split_none, slice_split_at, length-slice_split, join_with_byte-slice_split}
use Rattle.stamps.specs.Limits.{max_keys, max_key_len, max_tag_len, max_value_len}
use Rattle.stamps.specs.Text.{IsText, is_between, is_name_byte, is_visible_byte}
use Rattle.stamps.specs.Stamp.{IsStamp, counter_of, client_of}
use Rattle.stamps.specs.Key.{IsKey}
use Rattle.stamps.specs.Tag.{IsTag}
use Rattle.stamps.specs.WriteSet.{IsWriteSet}
use Rattle.stamps.specs.Record.{Record}
use Rattle.line_protocol.specs.Spelling.{same_text, stamp_text, tag_text, version_text, record_text, keys_text, HasRecordText}
use Rattle.stamps.specs.Making.{is_ascending, writes_from}
use Rattle.line_protocol.specs.Reading.{◌>>=◌, split_first, stamp_at, key_at, tag_at, value_at, each_at, writes_at, tagged_by, tagged_at, record_from, record_at}
use Rattle.line_protocol.proofs.Splits.{Lacks, Lacks-append, bind_some, split_first-joined, split_first-parts, split_first-lacks}
use Rattle.line_protocol.proofs.Laws.{IsReader, Lacks-allowed, Lacks-decimal, text_reader, each_found, each_again, stamp_reader}
use Rattle.stamps.proofs.MakingLemmas.{ascending_from, ascending_to, member_from, member_to}

-- ---- write sets

pub key_is : IsReader same_text IsKey key_at
key_is = text_reader is_name_byte 1 max_key_len

same_keys : (keys : List (List ℕ)) → map same_text keys ≡ keys
same_keys [] = refl
same_keys (key ∷ keys) = ap (λ (ks : List (List ℕ)). key ∷ ks) (same_keys keys)

pub keys_found : (parts keys : List (List ℕ)) → each_at key_at parts ≡ Some keys → AllByRecursion IsKey keys × (parts ≡ keys)
keys_found parts keys e = let each = each_found same_text IsKey key_at key_is parts keys e in (each.0, each.1 ∙ same_keys keys)

keys_again : (keys : List (List ℕ)) → AllByRecursion IsKey keys → each_at key_at keys ≡ Some keys
keys_again keys h = ap (each_at key_at) (sym (same_keys keys)) ∙ each_again same_text IsKey key_at key_is keys h

-- keys that were joined are separated where they were joined
split_keys : (key : List ℕ) (keys : List (List ℕ)) → AllByRecursion IsKey (key ∷ keys) → slice_split (λ b. eqb b 44) (keys_text (key ∷ keys)) ≡ key ∷ keys
split_keys key [] h = slice_split_none (λ b. eqb b 44) key (All-from_recursion (λ b. eqb b 44 ≡ false) key (Lacks-allowed is_name_byte 44 refl key h.0.all_allowed))
split_keys key (next ∷ keys) h =
    slice_split_at (λ b. eqb b 44) key 44 (keys_text (next ∷ keys)) (All-from_recursion (λ b. eqb b 44 ≡ false) key (Lacks-allowed is_name_byte 44 refl key h.0.all_allowed)) refl
    ∙ ap (λ (ps : List (List ℕ)). key ∷ ps) (split_keys next keys h.1)

pub split_some : (byte : ℕ) (text : List ℕ) → 0 < length (slice_split (λ b. eqb b byte) text)
split_some byte text = rw (length-slice_split (λ b. eqb b byte) text) (omega arith)

pub writes_found : (text : List ℕ) (writes : List (List ℕ)) → writes_at text ≡ Some writes → (AllByRecursion IsKey writes × IsWriteSet writes) × (text ≡ keys_text writes)
unfolding writes_at writes_from
writes_found text writes e =
    let parts = slice_split (λ b. eqb b 44) text in
    let k = bind_some (each_at key_at parts) (λ keys. cond (leb (length keys) max_keys && is_ascending keys) (Some keys) None) writes e in
    let g = cond_some (leb (length k.0) max_keys && is_ascending k.0) k.0 writes k.2 in
    let t = and_parts (leb (length k.0) max_keys) (is_ascending k.0) g.0 in
    let keys = keys_found parts k.0 k.1 in
    let some : 0 < length k.0 = subst (λ (ps : List (List ℕ)). 0 < length ps) keys.1 (split_some 44 text) in
    subst (λ (x : List (List ℕ)). (AllByRecursion IsKey x × IsWriteSet x) × (text ≡ keys_text x)) g.1 (
      (keys.0, record { not_empty = some; at_most = leb-true (length k.0) max_keys t.0; ascending = ascending_from k.0 t.1 }),
      sym (join_with_byte-slice_split 44 text) ∙ ap keys_text keys.1,
    )

pub writes_again : (writes : List (List ℕ)) → AllByRecursion IsKey writes → IsWriteSet writes → writes_at (keys_text writes) ≡ Some writes
unfolding writes_at writes_from
writes_again [] h w = let some = w.not_empty in absurd (omega arith)
writes_again (key ∷ keys) h w =
    rw (split_keys key keys h, keys_again (key ∷ keys) h, le-leb (length (key ∷ keys)) max_keys w.at_most, ascending_to (key ∷ keys) w.ascending) refl

-- ---- records

-- what a byte that no stamp has is missing from
stamp_lacks : (byte stamp : ℕ) → is_between 48 57 byte ≡ false → eqb 46 byte ≡ false → IsStamp stamp → Lacks byte (stamp_text stamp)
stamp_lacks byte stamp digit dot h =
    let small = h.small in
    Lacks-append byte (decimal (counter_of stamp)) (46 ∷ decimal (client_of stamp)) (Lacks-decimal byte (counter_of stamp) digit (omega arith)) (dot, Lacks-decimal byte (client_of stamp) digit (omega arith))

pub tag_lacks : (byte : ℕ) (tag : List ℕ) → is_name_byte byte ≡ false → eqb 35 byte ≡ false → list_all is_name_byte tag ≡ true → Lacks byte (tag_text tag)
tag_lacks byte [] name hash h = tt
tag_lacks byte (b ∷ tag) name hash h = (hash, Lacks-allowed is_name_byte byte name (b ∷ tag) h)

pub tagged_found : (text front tag : List ℕ) → tagged_at text ≡ Some (front, tag) → IsTag tag × (text ≡ front ++ tag_text tag)
unfolding tagged_at
tagged_found text front tag e = go (split_first 35 text) refl e
  where
    empty_tag : IsTag []
    empty_tag = record { at_least = omega arith; at_most = omega arith; all_allowed = refl }

    written : (t : List ℕ) → IsText is_name_byte 1 max_tag_len t → IsTag t × (tag_text t ≡ 35 ∷ t)
    written [] h = let some = h.at_least in absurd (omega arith)
    written (b ∷ t) h = (record { at_least = omega arith; at_most = h.at_most; all_allowed = h.all_allowed }, refl)

    go : (o : Option (List ℕ × List ℕ)) → split_first 35 text ≡ o → tagged_by text o ≡ Some (front, tag) → IsTag tag × (text ≡ front ++ tag_text tag)
    go None parts h =
        subst (λ (p : List ℕ × List ℕ). IsTag p.1 × (text ≡ p.0 ++ tag_text p.1)) (same_Some (text, []) (front, tag) h) (empty_tag, sym (append-nil text))
    go (Some p) parts h =
        let t = bind_some (tag_at p.1) (λ tag. Some (p.0, tag)) (front, tag) h in
        let is = (text_reader is_name_byte 1 max_tag_len).found p.1 t.0 t.1 in
        let w = written t.0 is.0 in
        let parted = split_first-parts 35 text p.0 p.1 parts in
        subst (λ (q : List ℕ × List ℕ). IsTag q.1 × (text ≡ q.0 ++ tag_text q.1)) (same_Some (p.0, t.0) (front, tag) t.2)
        (w.0, parted.parts ∙ ap (λ (x : List ℕ). p.0 ++ 35 ∷ x) is.1 ∙ ap (λ (x : List ℕ). p.0 ++ x) (sym w.1))

pub tagged_again : (front tag : List ℕ) → Lacks 35 front → IsTag tag → tagged_at (front ++ tag_text tag) ≡ Some (front, tag)
unfolding tagged_at
tagged_again front [] lacks h = rw (append-nil front, split_first-lacks 35 front lacks) refl
tagged_again front (b ∷ tag) lacks h =
    rw (split_first-joined 35 front (b ∷ tag) lacks, (text_reader is_name_byte 1 max_tag_len).again (b ∷ tag) (record { at_least = omega arith; at_most = h.at_most; all_allowed = h.all_allowed })) refl

joined : (text head value' key' version stamp' tag key value stamp : List ℕ) → text ≡ head ++ 61 ∷ value' → head ≡ key' ++ 64 ∷ version → version ≡ stamp' ++ tag → key' ≡ key → value' ≡ value → stamp' ≡ stamp
    → text ≡ (key ++ 64 ∷ (stamp ++ tag)) ++ 61 ∷ value
joined text head value' key' version stamp' tag key value stamp a b c d e f = cc

-- the record that was made is the one that was found
record_made : (text : List ℕ) (writes : List (List ℕ)) (made r : Record) → made ≡ r → HasRecordText made → text ≡ record_text made → made.writes ≡ writes → HasRecordText r × ((text ≡ record_text r) × (r.writes ≡ writes))
record_made text writes made r same has spelled its = subst (λ (x : Record). HasRecordText x × ((text ≡ record_text x) × (x.writes ≡ writes))) same (has, (spelled, its))

pub record_found : (text : List ℕ) (writes : List (List ℕ)) (r : Record) → AllByRecursion IsKey writes × IsWriteSet writes → record_at text writes ≡ Some r → HasRecordText r × ((text ≡ record_text r) × (r.writes ≡ writes))
unfolding record_at
record_found text writes r sound e =
    let p = bind_some (split_first 61 text) (λ p. value_at p.1 >>= λ value. split_first 64 p.0 >>= λ q. key_at q.0 >>= λ key. tagged_at q.1 >>= λ t. stamp_at t.0 >>= λ stamp. record_from key t.1 value stamp writes) r e in
    let v = bind_some (value_at p.0.1) (λ value. split_first 64 p.0.0 >>= λ q. key_at q.0 >>= λ key. tagged_at q.1 >>= λ t. stamp_at t.0 >>= λ stamp. record_from key t.1 value stamp writes) r p.2 in
    let q = bind_some (split_first 64 p.0.0) (λ q. key_at q.0 >>= λ key. tagged_at q.1 >>= λ t. stamp_at t.0 >>= λ stamp. record_from key t.1 v.0 stamp writes) r v.2 in
    let k = bind_some (key_at q.0.0) (λ key. tagged_at q.0.1 >>= λ t. stamp_at t.0 >>= λ stamp. record_from key t.1 v.0 stamp writes) r q.2 in
    let t = bind_some (tagged_at q.0.1) (λ t. stamp_at t.0 >>= λ stamp. record_from k.0 t.1 v.0 stamp writes) r k.2 in
    let n = bind_some (stamp_at t.0.0) (λ stamp. record_from k.0 t.0.1 v.0 stamp writes) r t.2 in
    let g = cond_some (ltb 0 n.0 && list_any (bytes_eq k.0) writes) (record { key = k.0; tag = t.0.1; value = v.0; stamp = n.0; writes = writes }) r n.2 in
    let test = and_parts (ltb 0 n.0) (list_any (bytes_eq k.0) writes) g.0 in
    let value = (text_reader is_visible_byte 0 max_value_len).found p.0.1 v.0 v.1 in
    let key = key_is.found q.0.0 k.0 k.1 in
    let tag = tagged_found q.0.1 t.0.0 t.0.1 t.1 in
    let stamp = stamp_reader.found t.0.0 n.0 n.1 in
    let outer = split_first-parts 61 text p.0.0 p.0.1 p.1 in
    let inner = split_first-parts 64 p.0.0 q.0.0 q.0.1 q.1 in
    record_made text writes (record { key = k.0; tag = t.0.1; value = v.0; stamp = n.0; writes = writes }) r g.1
    (record { key = key.0; tag = tag.0; value = value.0; stamp = stamp.0; keys = sound.0; writes = sound.1; whole = record { written = ltb-true 0 n.0 test.0; member = member_from k.0 writes test.1 } })
    (joined text p.0.0 p.0.1 q.0.0 q.0.1 t.0.0 (tag_text t.0.1) k.0 v.0 (stamp_text n.0) outer.parts inner.parts tag.1 key.1 value.1 stamp.1) refl

head_lacks : (byte : ℕ) (r : Record) → is_name_byte byte ≡ false → is_between 48 57 byte ≡ false → eqb 46 byte ≡ false → eqb 35 byte ≡ false → eqb 64 byte ≡ false → HasRecordText r → Lacks byte (version_text r)
head_lacks byte r name digit dot hash at h =
    Lacks-append byte r.key (64 ∷ (stamp_text r.stamp ++ tag_text r.tag)) (Lacks-allowed is_name_byte byte name r.key h.key.all_allowed)
    (at, Lacks-append byte (stamp_text r.stamp) (tag_text r.tag) (stamp_lacks byte r.stamp digit dot h.stamp) (tag_lacks byte r.tag name hash h.tag.all_allowed))

pub record_again : (r : Record) → HasRecordText r → record_at (record_text r) r.writes ≡ Some r
unfolding record_at
record_again r h =
    rw (
      split_first-joined 61 (version_text r) r.value (head_lacks 61 r refl refl refl refl refl h),
      (text_reader is_visible_byte 0 max_value_len).again r.value h.value,
      split_first-joined 64 r.key (stamp_text r.stamp ++ tag_text r.tag) (Lacks-allowed is_name_byte 64 refl r.key h.key.all_allowed),
      key_is.again r.key h.key,
      tagged_again (stamp_text r.stamp) r.tag (stamp_lacks 35 r.stamp refl refl h.stamp) h.tag,
      stamp_reader.again r.stamp h.stamp,
      lt-ltb 0 r.stamp h.whole.written,
      member_to r.key r.writes h.whole.member,
    ) refl

pub record_lacks_space : (r : Record) → HasRecordText r → Lacks 32 (record_text r)
record_lacks_space r h = Lacks-append 32 (version_text r) (61 ∷ r.value) (head_lacks 32 r refl refl refl refl refl h) (refl, Lacks-allowed is_visible_byte 32 refl r.value h.value.all_allowed)
