-- Bodies of records: what was packed is read again, by readers that check nothing.
use Rattle.std.proofs.Common.{◌≡◌, ℕ, ◌<◌, ◌≤◌, ◌+◌, ◌-◌, suc, zero, leb, ◌&&◌, Bool, true, false, eqb, ltb, cond, ◌||◌, List, [], ◌∷◌, ◌++◌, length, take, drop, Option, Some, None, refl, sym, ap, subst, ◌∙◌, append_assoc, append-nil, length-append, length-take-le, take-append-drop, arith}
use Rattle.std.specs.Prelude.{IsSome, is_some}
use Rattle.std.specs.Option.{option_map}
use Rattle.std.proofs.lemmas.Bool.{false≢true, and_parts, leb-true, lt-ltb, ltb-false, eqb-false}
use Rattle.std.proofs.lemmas.List.{take-take}
use Rattle.std.proofs.Math.Seq.{take-append-add}
use Rattle.stamps.specs.Limits.{max_keys, max_key_len, max_tag_len, max_value_len}
use Rattle.stamps.specs.Text.{IsText, is_name_byte, is_visible_byte}
use Rattle.stamps.specs.Key.{IsKey}
use Rattle.stamps.specs.Tag.{IsTag}
use Rattle.stamps.specs.Value.{IsValue}
use Rattle.stamps.specs.WriteSet.{IsWriteSet}
use Rattle.stamps.specs.Record.{Record}
use Rattle.stamps.specs.Making.{text_from, writes_from, is_ascending}
use Rattle.stamps.proofs.MakingLemmas.{text_from-found, member_to, ascending_from}
use Rattle.packed.specs.Packing.{packed_text, packed_keys, IsStoreRecord}
use Rattle.packed.specs.Bodies.{packed_body, body_at, record_in, record_or, no_record, IsPackedBody, IsFront}
use Rattle.packed.specs.Reading.{◌>>=◌, byte_at, text_at, key_from, key_at, tag_at, value_at, keys_at, writes_of, writes_at}
use Rattle.packed.proofs.Texts.{text_again, key_again, tag_again, value_again}
use Rattle.packed.proofs.Records.{writes_again}
use Rattle.packed.proofs.KeyLoop.{begins_not}

-- ---- the parts of a body

-- each with what stands behind the body
abbrev pub behind_value : Record → List ℕ → List ℕ
behind_value r more = packed_keys r.writes ++ more

abbrev pub behind_tag : Record → List ℕ → List ℕ
behind_tag r more = packed_text r.value ++ behind_value r more

abbrev pub behind_key : Record → List ℕ → List ℕ
behind_key r more = packed_text r.tag ++ behind_tag r more

parted : (a b c d e : List ℕ) → (a ++ b ++ c ++ d) ++ e ≡ a ++ (b ++ (c ++ (d ++ e)))
parted a b c d e = simp append_assoc

pub body_parted : (r : Record) (more : List ℕ) → packed_body r ++ more ≡ packed_text r.key ++ behind_key r more
body_parted r more = parted (packed_text r.key) (packed_text r.tag) (packed_text r.value) (packed_keys r.writes) more

-- a body alone, with nothing behind it
pub alone : (r : Record) (bytes : List ℕ) → bytes ≡ packed_body r → bytes ≡ packed_body r ++ []
alone r bytes is = is ∙ sym (append-nil (packed_body r))

-- bytes of which the first ones are a body
pub body_first : (r : Record) (bytes : List ℕ) (len : ℕ) → take len bytes ≡ packed_body r → bytes ≡ packed_body r ++ drop len bytes
body_first r bytes len is = sym (take-append-drop len bytes) ∙ ap (λ front. front ++ drop len bytes) is

module _ (r : Record) (more : List ℕ) (store : IsStoreRecord r) where
  pub first_text : (bytes : List ℕ) → bytes ≡ packed_body r ++ more → text_at bytes ≡ Some (r.key, behind_key r more)
  first_text bytes is = ap text_at (is ∙ body_parted r more) ∙ text_again r.key (behind_key r more)

  pub key_is : (bytes : List ℕ) → bytes ≡ packed_body r ++ more → key_at bytes ≡ Some (r.key, behind_key r more)
  key_is bytes is = ap key_at (is ∙ body_parted r more) ∙ key_again r.key (behind_key r more) store.key

  pub tag_is : tag_at (behind_key r more) ≡ Some (r.tag, behind_tag r more)
  tag_is = tag_again r.tag (behind_tag r more) store.tag

  pub value_is : value_at (behind_tag r more) ≡ Some (r.value, behind_value r more)
  value_is = value_again r.value (behind_value r more) store.value

  pub writes_is : writes_at (behind_value r more) ≡ Some (r.writes, more)
  writes_is = writes_again r.writes more store.writes store.keys

  body_again : (bytes : List ℕ) → bytes ≡ packed_body r ++ more → body_at r.stamp bytes ≡ Some (r, more)
  unfolding body_at
  body_again bytes is = rw (key_is bytes is, tag_is, value_is, writes_is, lt-ltb 0 r.stamp store.whole.written, member_to r.key r.writes store.whole.member) refl

-- the record of a body is the one that it was packed of
pub record_is : (stamp : ℕ) (bytes : List ℕ) (h : IsPackedBody stamp bytes) → record_in stamp bytes ≡ h.0
record_is stamp bytes h = ap (λ s. record_in s bytes) (sym h.2) ∙ ap (record_or no_record) (body_again h.0 [] h.1 bytes (alone h.0 bytes h.3))

-- ---- what is read without a check

pub is_there : {X : Type 0} {o : Option X} {x : X} → o ≡ Some x → IsSome o
is_there {X} {o} {x} is = rw is refl

pub some_before : {A B : Type 0} (f : A → B) (o : Option A) (read : Option B) → option_map f o ≡ read → IsSome read → IsSome o
some_before f None read is some = absurd (false≢true (subst IsSome (sym is) some))
some_before f (Some a) read is some = refl

-- what a reader finds: a value, and the bytes behind it
abbrev pub found : {A B : Type 0} → A → B → Option (A × B)
found a b = Some (a, b)

left_or : {A B : Type 0} → A → Option (A × B) → A
left_or a None = a
left_or a (Some x) = x.0

right_or : {A B : Type 0} → B → Option (A × B) → B
right_or b None = b
right_or b (Some x) = x.1

pub pair_parts : {A B : Type 0} (a x : A) (b y : B) → found a b ≡ found x y → (a ≡ x) × (b ≡ y)
unfolding left_or right_or
pair_parts a x b y e = (ap (left_or a) e, ap (right_or b) e)

module _ (r : Record) (more : List ℕ) (store : IsStoreRecord r) where
  pub after_first : (bytes text rest : List ℕ) → bytes ≡ packed_body r ++ more → found text rest ≡ text_at bytes → rest ≡ behind_key r more
  after_first bytes text rest is read = (pair_parts text r.key rest (behind_key r more) (read ∙ first_text r more store bytes is)).1

  pub after_key : (bytes key rest : List ℕ) → bytes ≡ packed_body r ++ more → found key rest ≡ key_at bytes → (key ≡ r.key) × (rest ≡ behind_key r more)
  after_key bytes key rest is read = pair_parts key r.key rest (behind_key r more) (read ∙ key_is r more store bytes is)

  pub after_tag : (bytes tag rest : List ℕ) → bytes ≡ behind_key r more → found tag rest ≡ tag_at bytes → (tag ≡ r.tag) × (rest ≡ behind_tag r more)
  after_tag bytes tag rest is read = pair_parts tag r.tag rest (behind_tag r more) (read ∙ ap tag_at is ∙ tag_is r more store)

  pub after_value : (bytes value rest : List ℕ) → bytes ≡ behind_tag r more → found value rest ≡ value_at bytes → (value ≡ r.value) × (rest ≡ behind_value r more)
  after_value bytes value rest is read = pair_parts value r.value rest (behind_value r more) (read ∙ ap value_at is ∙ value_is r more store)

  pub after_writes : (bytes : List ℕ) (writes : List (List ℕ)) (rest : List ℕ) → bytes ≡ behind_value r more → found writes rest ≡ writes_at bytes → writes ≡ r.writes
  after_writes bytes writes rest is read = (pair_parts writes r.writes rest more (read ∙ ap writes_at is ∙ writes_is r more store)).0

  pub tag_there : (bytes : List ℕ) → bytes ≡ behind_key r more → IsSome (tag_at bytes)
  tag_there bytes is = is_there (ap tag_at is ∙ tag_is r more store)

  pub value_there : (bytes : List ℕ) → bytes ≡ behind_tag r more → IsSome (value_at bytes)
  value_there bytes is = is_there (ap value_at is ∙ value_is r more store)

  pub writes_there : (bytes : List ℕ) → bytes ≡ behind_value r more → IsSome (writes_at bytes)
  writes_there bytes is = is_there (ap writes_at is ∙ writes_is r more store)

-- ---- the first bytes of a body

-- the key and the tag stand there
pub front_parts : (r : Record) (store : IsStoreRecord r) (front body : List ℕ) → body ≡ packed_body r → IsFront front body
    → (rest : List ℕ) × (front ≡ packed_text r.key ++ (packed_text r.tag ++ rest))
front_parts r store front body is h =
    let both = packed_text r.key ++ packed_text r.tag in
    let tail = behind_tag r [] in
    let split : body ≡ both ++ tail = alone r body is ∙ body_parted r [] ∙ sym (append_assoc (packed_text r.key) (packed_text r.tag) tail) in
    let total = ap length split ∙ length-append both tail in
    let size = length-append (packed_text r.key) (packed_text r.tag) in
    let key_long = store.key.at_most in
    let tag_long = store.tag.at_most in
    let long = h.long in
    let within : length both ≤ length front = omega (arith, total, size, key_long, tag_long, long) in
    let more = length front - length both in
    let sum : length front ≡ length both + more = omega (arith, within) in (
      take more tail,
      h.same ∙ ap (λ n. take n body) sum ∙ ap (take (length both + more)) split ∙ take-append-add both tail more ∙ append_assoc (packed_text r.key) (packed_text r.tag) (take more tail),
    )

module _ (r : Record) (store : IsStoreRecord r) (front rest : List ℕ) (is : front ≡ packed_text r.key ++ (packed_text r.tag ++ rest)) where
  pub front_text_is : text_at front ≡ Some (r.key, packed_text r.tag ++ rest)
  front_text_is = ap text_at is ∙ text_again r.key (packed_text r.tag ++ rest)

  pub front_key_is : key_at front ≡ Some (r.key, packed_text r.tag ++ rest)
  front_key_is = ap key_at is ∙ key_again r.key (packed_text r.tag ++ rest) store.key

  pub front_tag_is : (bytes text : List ℕ) → found text bytes ≡ text_at front → tag_at bytes ≡ Some (r.tag, rest)
  front_tag_is bytes text read =
      ap tag_at (pair_parts text r.key bytes (packed_text r.tag ++ rest) (read ∙ front_text_is)).1 ∙ tag_again r.tag rest store.tag

-- ---- what is known of texts and sets that are there

-- a text of an alphabet that was found to be one
stored_from : (allowed : ℕ → Bool) (least most : ℕ) (text rest : List ℕ) → IsSome (text_from allowed least most text >>= λ x. found x rest)
    → IsText allowed least most text × (found text rest ≡ (text_from allowed least most text >>= λ x. found x rest))
stored_from allowed least most text rest there = go (text_from allowed least most text) refl there
  where
    go : (o : Option (List ℕ)) → text_from allowed least most text ≡ o → IsSome (o >>= λ x. found x rest) → IsText allowed least most text × (found text rest ≡ (text_from allowed least most text >>= λ x. found x rest))
    go None is some = absurd (false≢true some)
    go (Some a) is some = let made = text_from-found allowed least most text a is in (subst (IsText allowed least most) (sym made.1) made.0, rw is (ap (λ x. found x rest) made.1))

-- a text lies behind the byte with its length
pub text_found : (bytes text rest : List ℕ) → found text rest ≡ text_at bytes → (0 < length bytes) × (take (length text) (drop 1 bytes) ≡ text)
unfolding text_at
text_found [] text rest is = absurd (false≢true (ap is_some (sym is)))
text_found (len ∷ bytes) text rest is = go (ltb (length bytes) len) refl is
  where
    go : (b : Bool) → ltb (length bytes) len ≡ b → found text rest ≡ cond b None (found (take len bytes) (drop len bytes))
        → (0 < length (len ∷ bytes)) × (take (length text) bytes ≡ text)
    go true short read = absurd (false≢true (sym (ap is_some read)))
    go false long read =
        let same = (pair_parts text (take len bytes) rest (drop len bytes) read).0 in
        (omega arith, ap (λ n. take n bytes) (ap length same ∙ length-take-le len bytes (ltb-false (length bytes) len long)) ∙ sym same)

-- also in an array that begins there
pub front_text : (bytes text rest front : List ℕ) (n : ℕ) → found text rest ≡ text_at bytes → front ≡ take n (drop 1 bytes) → length text ≤ n → take (length text) front ≡ text
front_text bytes text rest front n is front_is fits =
    ap (take (length text)) front_is ∙ take-take (length text) n (drop 1 bytes) fits ∙ (text_found bytes text rest is).1

pub key_here : (bytes text rest : List ℕ) → found text rest ≡ text_at bytes → IsSome (key_at bytes) → IsKey text × (found text rest ≡ key_at bytes)
unfolding key_at
key_here bytes text rest is there = rw (← is) (stored_from is_name_byte 1 max_key_len text rest (rw (← is) at there))

pub tag_here : (bytes text rest : List ℕ) → found text rest ≡ text_at bytes → IsSome (tag_at bytes) → IsTag text × (found text rest ≡ tag_at bytes)
unfolding tag_at
tag_here bytes text rest is there = rw (← is) (stored_from is_name_byte 0 max_tag_len text rest (rw (← is) at there))

pub value_here : (bytes text rest : List ℕ) → found text rest ≡ text_at bytes → IsSome (value_at bytes) → IsValue text × (found text rest ≡ value_at bytes)
unfolding value_at
value_here bytes text rest is there = rw (← is) (stored_from is_visible_byte 0 max_value_len text rest (rw (← is) at there))

pub text_of_key : (bytes : List ℕ) → IsSome (key_at bytes) → IsSome (text_at bytes)
unfolding key_at
text_of_key bytes there = go (text_at bytes) there
  where
    go : (o : Option (List ℕ × List ℕ)) → IsSome (o >>= λ text. key_from text.0 >>= λ key. found key text.1) → IsSome o
    go None some = some
    go (Some x) some = refl

pub text_of_tag : (bytes : List ℕ) → IsSome (tag_at bytes) → IsSome (text_at bytes)
unfolding tag_at
text_of_tag bytes there = go (text_at bytes) there
  where
    go : (o : Option (List ℕ × List ℕ)) → IsSome (o >>= λ text. text_from is_name_byte 0 max_tag_len text.0 >>= λ key. found key text.1) → IsSome o
    go None some = some
    go (Some x) some = refl

pub text_of_value : (bytes : List ℕ) → IsSome (value_at bytes) → IsSome (text_at bytes)
unfolding value_at
text_of_value bytes there = go (text_at bytes) there
  where
    go : (o : Option (List ℕ × List ℕ)) → IsSome (o >>= λ text. text_from is_visible_byte 0 max_value_len text.0 >>= λ key. found key text.1) → IsSome o
    go None some = some
    go (Some x) some = refl

-- ---- write sets

pub byte_of_writes : (bytes : List ℕ) → IsSome (writes_at bytes) → IsSome (byte_at bytes)
unfolding writes_at
byte_of_writes [] there = there
byte_of_writes (count ∷ rest) there = refl

above_none : (n : ℕ) → (n ≡ 0 → ⊥) → 0 < n
above_none zero not = absurd (not refl)
above_none (suc n) not = omega arith

-- the count is in its range
pub keys_here : (bytes : List ℕ) (count : ℕ) (rest : List ℕ) → found count rest ≡ byte_at bytes → IsSome (writes_at bytes) → (0 < count) × (count ≤ max_keys) × (writes_at bytes ≡ writes_of count rest)
unfolding writes_at
keys_here bytes count rest is there = rw (← is) (go (eqb count 0) refl (ltb max_keys count) refl (rw (← is) at there))
  where
    go : (z : Bool) → eqb count 0 ≡ z → (b : Bool) → ltb max_keys count ≡ b → IsSome (cond (eqb count 0 || ltb max_keys count) None (writes_of count rest))
        → (0 < count) × (count ≤ max_keys) × (cond (eqb count 0 || ltb max_keys count) None (writes_of count rest) ≡ writes_of count rest)
    go true none b many some = absurd (false≢true (rw none at some))
    go false apart true many some = absurd (false≢true (rw (apart, many) at some))
    go false apart false few some = (above_none count (eqb-false count 0 apart), ltb-false max_keys count few, rw (apart, few) refl)

-- keys that were read make a set
pub set_here : (count : ℕ) (bytes : List ℕ) (keys : List (List ℕ)) (rest : List ℕ) → 0 < length keys → keys_at count bytes ≡ found keys rest → IsSome (writes_of count bytes)
    → IsWriteSet keys × (found keys rest ≡ writes_of count bytes)
unfolding writes_of writes_from
set_here count bytes keys rest some read there = go (leb (length keys) max_keys && is_ascending keys) refl (rw read at there)
  where
    go : (b : Bool) → (leb (length keys) max_keys && is_ascending keys) ≡ b → IsSome (cond b (Some keys) None >>= λ writes. found writes rest) → IsWriteSet keys × (found keys rest ≡ writes_of count bytes)
    go true both made =
        let t = and_parts (leb (length keys) max_keys) (is_ascending keys) both in
        (record { not_empty = some; at_most = leb-true (length keys) max_keys t.0; ascending = ascending_from keys t.1 }, rw (read, both) refl)
    go false none made = absurd (false≢true made)

-- the first key is there
pub first_here : (count : ℕ) (bytes : List ℕ) → 0 < count → IsSome (writes_of count bytes) → IsSome (key_at bytes)
first_here count bytes some there = go (key_at bytes) refl
  where
    go : (o : Option (List ℕ × List ℕ)) → key_at bytes ≡ o → IsSome o
    go None none = absurd (false≢true (subst IsSome (begins_not count bytes some none) there))
    go (Some x) is = refl
