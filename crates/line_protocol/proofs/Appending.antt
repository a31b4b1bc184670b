-- Texts behind one another in a buffer.
use Rattle.std.proofs.Common.{◌≡◌, ℕ, ◌+◌, ◌<◌, ◌≤◌, List, [], ◌∷◌, ◌++◌, length, get_or, take, refl, sym, ap, ◌∙◌, append_assoc, arith}
use Rattle.std.proofs.lemmas.List.{take_more, length-take-le, flat_map_more}
use Rattle.bytes.specs.Filled.{Filled}
use Rattle.line_protocol.specs.Room.{Appends, key_room, reading_room, spaced_reading_room}
use Rattle.plain_store.specs.declared.reading.Reading.{Reading}
use Rattle.line_protocol.specs.Spelling.{keys_text, found_keys_text}
use Rattle.line_protocol.specs.AnswerSpelling.{reading_text, readings_text}

keys_text-push : (keys : List (List ℕ)) (key : List ℕ) → 0 < length keys → keys_text (keys ++ key ∷ []) ≡ keys_text keys ++ 44 ∷ key
keys_text-push [] key h = absurd (omega arith)
keys_text-push (k ∷ []) key h = refl
keys_text-push (k ∷ l ∷ keys) key h =
    ap (λ (t : List ℕ). k ++ 44 ∷ t) (keys_text-push (l ∷ keys) key (omega arith)) ∙ sym (append_assoc k (44 ∷ keys_text (l ∷ keys)) (44 ∷ key))

pub first_key_text : (keys : List (List ℕ)) (i : ℕ) (key : List ℕ) → i < length keys → key ≡ get_or keys i key → i ≡ 0 → keys_text (take i keys) ++ key ≡ keys_text (take (i + 1) keys)
first_key_text keys i key lt is none = rw (take_more keys i key lt, ← is, none) refl

pub later_key_text : (keys : List (List ℕ)) (i : ℕ) (key : List ℕ) → i < length keys → key ≡ get_or keys i key → 0 < i → keys_text (take i keys) ++ 44 ∷ key ≡ keys_text (take (i + 1) keys)
later_key_text keys i key lt is some = rw (take_more keys i key lt, ← is) (sym (keys_text-push (take i keys) key (omega (arith, length-take-le i keys (omega arith)))))

-- ---- a buffer that got one text behind another

pub Appends-trans : (m n : ℕ) (old mid new : Filled) (text more : List ℕ) → Appends m old mid text → Appends n mid new more → Appends (m + n) old new (text ++ more)
Appends-trans m n old mid new text more h k = record {
  items = k.items ∙ ap (λ (t : List ℕ). t ++ more) h.items ∙ append_assoc old.items text more;
  used = let used = h.used in let then_used = k.used in omega arith;
  kept = k.kept ∙ h.kept;
}

-- a key and the byte before it
abbrev pub parted_key_room : ℕ
parted_key_room = 1 + key_room

pub Appends-parted : (byte : ℕ) (old mid new : Filled) (key : List ℕ) → Appends 1 old mid (byte ∷ []) → Appends key_room mid new key → Appends parted_key_room old new (byte ∷ key)
Appends-parted byte old mid new key = Appends-trans 1 key_room old mid new (byte ∷ []) key

-- a space, and then a reading
pub Appends-reading : (old mid new : Filled) (text : List ℕ) → Appends 1 old mid (32 ∷ []) → Appends reading_room mid new text → Appends spaced_reading_room old new (32 ∷ text)
Appends-reading old mid new text = Appends-trans 1 reading_room old mid new (32 ∷ []) text

-- a text that is not longer than thought
pub Appends-at_most : (m n : ℕ) (old new : Filled) (text same : List ℕ) → m ≤ n → text ≡ same → Appends m old new text → Appends n old new same
Appends-at_most m n old new text same le e h = record { items = rw (← e) h.items; used = let used = h.used in omega arith; kept = h.kept }

-- one more key after a space
pub found_keys_text-push : (keys : List (List ℕ)) (i : ℕ) (key : List ℕ) → i < length keys → key ≡ get_or keys i key → found_keys_text (take i keys) ++ 32 ∷ key ≡ found_keys_text (take (i + 1) keys)
found_keys_text-push keys i key lt is = flat_map_more (λ k. 32 ∷ k) [] (take i keys) key ∙ ap found_keys_text (ap (λ (k : List ℕ). take i keys ++ k ∷ []) is ∙ sym (take_more keys i key lt))

-- one more reading after a space
pub readings_text-push : (readings : List Reading) (i : ℕ) (reading : Reading) → i < length readings → reading ≡ get_or readings i reading
    → readings_text (take i readings) ++ 32 ∷ reading_text reading ≡ readings_text (take (i + 1) readings)
readings_text-push readings i reading lt is =
    flat_map_more (λ r. 32 ∷ reading_text r) [] (take i readings) reading ∙ ap readings_text (ap (λ (r : Reading). take i readings ++ r ∷ []) is ∙ sym (take_more readings i reading lt))
