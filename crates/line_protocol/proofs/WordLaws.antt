-- Where the parts of a word end, and what the word is read as.
use Rattle.std.proofs.Common.{◌≡◌, ℕ, suc, ◌+◌, ◌<◌, ◌≤◌, ◌⊎◌, inl, inr, Bool, true, false, cond, eqb, List, [], ◌∷◌, ◌++◌, length, take, drop, Option, Some, None, refl, sym, ap, ◌∙◌, append_assoc, arith}
use Rattle.std.specs.List.{list_all, prefix_len}
use Rattle.std.proofs.lemmas.Bool.{and_parts, false≢true}
use Rattle.std.proofs.lemmas.List.{append-nil}
use Rattle.std.proofs.lemmas.List.Folds.{length-prefix_len}
use Rattle.stamps.specs.Limits.{max_tag_len, max_value_len}
use Rattle.stamps.specs.Text.{IsText, is_name_byte, is_visible_byte}
use Rattle.stamps.specs.Key.{IsKey}
use Rattle.stamps.specs.Tag.{IsTag}
use Rattle.stamps.specs.Value.{IsValue}
use Rattle.stamps.specs.declared.record.Item.{Item}
use Rattle.line_protocol.specs.Spelling.{same_text, tag_text}
use Rattle.line_protocol.specs.StepSpelling.{item_text, IsItem}
use Rattle.line_protocol.specs.Reading.{split_first, part_by, part_at, key_at}
use Rattle.line_protocol.specs.StepReading.{item_at}
use Rattle.line_protocol.specs.Words.{BeginsWithout, EndsTag, word_end}
use Rattle.line_protocol.proofs.Splits.{Lacks, split_first-joined, split_first-parts, split_first-lacks}
use Rattle.line_protocol.proofs.Laws.{IsReader, Lacks-allowed}
use Rattle.line_protocol.proofs.RecordLaws.{key_is}
use Rattle.line_protocol.proofs.StepLaws.{item_reader, item_lacks_space}

-- ---- runs of an alphabet

one_more : (n : ℕ) → 1 + n ≡ suc n
one_more n = omega arith

pub run_passes : (p : ℕ → Bool) (xs : List ℕ) → list_all p (take (prefix_len p xs) xs) ≡ true
run_passes p [] = refl
run_passes p (x ∷ xs) = go (p x) refl (run_passes p xs)
  where
    go : (b : Bool) → p x ≡ b → list_all p (take (prefix_len p xs) xs) ≡ true → list_all p (take (cond b (1 + prefix_len p xs) 0) (x ∷ xs)) ≡ true
    go true e h = rw (one_more (prefix_len p xs), e, h) refl
    go false e h = refl

pub run_ends : (p : ℕ → Bool) (xs : List ℕ) → BeginsWithout p (drop (prefix_len p xs) xs)
run_ends p [] = tt
run_ends p (x ∷ xs) = go (p x) refl (run_ends p xs)
  where
    go : (b : Bool) → p x ≡ b → BeginsWithout p (drop (prefix_len p xs) xs) → BeginsWithout p (drop (cond b (1 + prefix_len p xs) 0) (x ∷ xs))
    go true e h = rw (one_more (prefix_len p xs)) h
    go false e h = e

pub run_joined : (p : ℕ → Bool) (xs ys : List ℕ) → list_all p xs ≡ true → BeginsWithout p ys → prefix_len p (xs ++ ys) ≡ length xs
run_joined p [] [] h e = refl
run_joined p [] (y ∷ ys) h e = rw e refl
run_joined p (x ∷ xs) ys h e = let a = and_parts (p x) (list_all p xs) h in
    let more = run_joined p xs ys a.1 e in rw a.0 (omega arith)

-- the run with which a text begins, as a text of the alphabet
pub run_text : (p : ℕ → Bool) (least most : ℕ) (xs front : List ℕ) → least ≤ prefix_len p xs → prefix_len p xs ≤ most → front ≡ take (prefix_len p xs) xs → IsText p least most front
run_text p least most xs front low high is = record {
  at_least = rw (is, length-prefix_len p xs) low;
  at_most = rw (is, length-prefix_len p xs) high;
  all_allowed = rw is (run_passes p xs);
}

-- no such text stands before what does not go on with it, where the run is too short or too long
pub no_run : (p : ℕ → Bool) (least most : ℕ) (xs front back : List ℕ) → IsText p least most front → BeginsWithout p back → xs ≡ front ++ back → (prefix_len p xs < least) ⊎ (most < prefix_len p xs) → ⊥
no_run p least most xs front back is ends e out =
    let len = ap (prefix_len p) e ∙ run_joined p front back is.all_allowed ends in
    let low = is.at_least in
    let high = is.at_most in
    elim out [
      | inl lt ↦ omega arith
      | inr lt ↦ omega arith
    ]

-- what passes as a whole goes on with what follows it
pub run_goes_on : (p : ℕ → Bool) (xs ys : List ℕ) → list_all p xs ≡ true → prefix_len p (xs ++ ys) ≡ length xs + prefix_len p ys
run_goes_on p [] ys h = omega arith
run_goes_on p (x ∷ xs) ys h =
    let a = and_parts (p x) (list_all p xs) h in
    let more = run_goes_on p xs ys a.1 in rw a.0 (omega arith)

-- a text has one such beginning
pub same_run : (p : ℕ → Bool) (xs ys vs ws : List ℕ) → list_all p xs ≡ true → BeginsWithout p ys → list_all p vs ≡ true → BeginsWithout p ws → xs ++ ys ≡ vs ++ ws → (xs ≡ vs) × (ys ≡ ws)
same_run p [] ys [] ws h a k b e = (refl, e)
same_run p [] [] (v ∷ vs) ws h a k b e = absurd cc
same_run p [] (y ∷ ys) (v ∷ vs) ws h a k b e =
    let same : y ≡ v = cc in absurd (false≢true (sym a ∙ ap p same ∙ (and_parts (p v) (list_all p vs) k).0))
same_run p (x ∷ xs) ys [] [] h a k b e = absurd cc
same_run p (x ∷ xs) ys [] (w ∷ ws) h a k b e =
    let same : w ≡ x = cc in absurd (false≢true (sym b ∙ ap p same ∙ (and_parts (p x) (list_all p xs) h).0))
same_run p (x ∷ xs) ys (v ∷ vs) ws h a k b e =
    let first : x ≡ v = cc in
    let more : xs ++ ys ≡ vs ++ ws = cc in
    let rest = same_run p xs ys vs ws (and_parts (p x) (list_all p xs) h).1 a (and_parts (p v) (list_all p vs) k).1 b more in
    (rw (first, rest.0) refl, rest.1)

-- a text has one tag before a `=`
same_tag : (tag after other value : List ℕ) → list_all is_name_byte tag ≡ true → EndsTag tag after → list_all is_name_byte other ≡ true → tag_text tag ++ after ≡ tag_text other ++ 61 ∷ value → after ≡ 61 ∷ value
same_tag [] after [] value h ends k e = e
same_tag [] [] (y ∷ ys) value h ends k e = absurd cc
same_tag [] (z ∷ after) (y ∷ ys) value h ends k e =
    let same : z ≡ 35 = cc in absurd (false≢true (sym ends ∙ ap (λ b. eqb b 35) same))
same_tag (x ∷ xs) after [] value h ends k e = let same : ◌≡◌ {A = ℕ} 35 61 = cc in absurd (omega (arith, same))
same_tag (x ∷ xs) after (y ∷ ys) value h ends k e =
    let more : (x ∷ xs) ++ after ≡ (y ∷ ys) ++ 61 ∷ value = cc in (same_run is_name_byte (x ∷ xs) after (y ∷ ys) (61 ∷ value) h ends k refl more).1

-- a tag that is written has a byte at least, and no more than it may have
pub no_tag : (text after tag behind : List ℕ) → text ≡ 35 ∷ after → IsTag tag → text ≡ tag_text tag ++ 61 ∷ behind → (prefix_len is_name_byte after < 1) ⊎ (max_tag_len < prefix_len is_name_byte after) → ⊥
no_tag text after [] behind hash is e out = let same : ◌≡◌ {A = ℕ} 35 61 = cc in absurd (omega (arith, same))
no_tag text after (x ∷ xs) behind hash is e out =
    let joined : after ≡ (x ∷ xs) ++ 61 ∷ behind = cc in
    no_run is_name_byte 1 max_tag_len after (x ∷ xs) (61 ∷ behind) (record { at_least = omega arith; at_most = is.at_most; all_allowed = is.all_allowed }) refl joined out

pub tag_split : (text after tag behind : List ℕ) → text ≡ 35 ∷ after → after ≡ tag ++ behind → 1 ≤ length tag → BeginsWithout is_name_byte behind → (text ≡ tag_text tag ++ behind) × EndsTag tag behind
tag_split text after [] behind hash joined some ends = absurd (omega arith)
tag_split text after (x ∷ xs) behind hash joined some ends = (hash ∙ ap (λ (t : List ℕ). 35 ∷ t) joined, ends)

visible_end : (rest : Option (List ℕ)) → BeginsWithout is_visible_byte (word_end rest)
visible_end None = tt
visible_end (Some rest) = refl

-- a value is no longer than it may be
pub no_value : (text after value : List ℕ) (rest : Option (List ℕ)) → text ≡ 61 ∷ after → IsValue value → text ≡ 61 ∷ (value ++ word_end rest) → max_value_len < prefix_len is_visible_byte after → ⊥
no_value text after value rest begins is e long =
    let joined : after ≡ value ++ word_end rest = cc in no_run is_visible_byte 0 max_value_len after value (word_end rest) is (visible_end rest) joined (inr long)

-- what stands behind a value is the word's end
pub value_end : (text after front back value : List ℕ) (rest : Option (List ℕ)) → text ≡ 61 ∷ after → after ≡ front ++ back → IsValue front → BeginsWithout is_visible_byte back → IsValue value → text ≡ 61 ∷ (value ++ word_end rest) → back ≡ word_end rest
value_end text after front back value rest begins split is_front ends is e =
    let joined : after ≡ value ++ word_end rest = cc in
    (same_run is_visible_byte front back value (word_end rest) is_front.all_allowed ends is.all_allowed (visible_end rest) (sym split ∙ joined)).1

-- ---- the first word of a text

part_joined : (text : List ℕ) (o : Option (List ℕ × List ℕ)) → split_first 32 text ≡ o → text ≡ (part_by text o).0 ++ word_end (part_by text o).1
part_joined text None e = sym (append-nil text)
part_joined text (Some p) e = (split_first-parts 32 text p.0 p.1 e).parts

part_is : (text : List ℕ) → text ≡ (part_at 32 text).0 ++ word_end (part_at 32 text).1
unfolding part_at
part_is text = part_joined text (split_first 32 text) refl

part_of : (word : List ℕ) (rest : Option (List ℕ)) → Lacks 32 word → part_at 32 (word ++ word_end rest) ≡ (word, rest)
unfolding part_at
part_of word None lacks = rw (append-nil word, split_first-lacks 32 word lacks) refl
part_of word (Some rest) lacks = rw (split_first-joined 32 word rest lacks) refl

-- the first word is read as this
pub word_read : {A : Type 0} (text_of : A → List ℕ) (Is : A → Type 0) (at : List ℕ → Option A) → IsReader text_of Is at → ((a : A) → Is a → Lacks 32 (text_of a)) → (text : List ℕ) (a : A) (rest : Option (List ℕ)) → Is a
    → text ≡ text_of a ++ word_end rest → (at (part_at 32 text).0 ≡ Some a) × (rest ≡ (part_at 32 text).1)
word_read {A} text_of Is at reader lacks text a rest is spelled =
    let part = ap (part_at 32) spelled ∙ part_of (text_of a) rest (lacks a is) in
    (ap (λ (p : List ℕ × Option (List ℕ)). at p.0) part ∙ reader.again a is, sym (ap (λ (p : List ℕ × Option (List ℕ)). p.1) part))

-- the first word is read as nothing
word_not_read : {A : Type 0} (text_of : A → List ℕ) (Is : A → Type 0) (at : List ℕ → Option A) → IsReader text_of Is at → (text : List ℕ) → ((a : A) (rest : Option (List ℕ)) → Is a → text ≡ text_of a ++ word_end rest → ⊥) → at (part_at 32 text).0 ≡ None
word_not_read {A} text_of Is at reader text never = go (at (part_at 32 text).0) refl
  where
    go : (o : Option A) → at (part_at 32 text).0 ≡ o → o ≡ None
    go None e = refl
    go (Some a) e =
        let found = reader.found (part_at 32 text).0 a e in
        absurd (never a (part_at 32 text).1 found.0 (part_is text ∙ ap (λ (w : List ℕ). w ++ word_end (part_at 32 text).1) found.1))

-- ---- keys

key_lacks_space : (key : List ℕ) → IsKey key → Lacks 32 (same_text key)
key_lacks_space key h = Lacks-allowed is_name_byte 32 refl key h.all_allowed

end_begins : (rest : Option (List ℕ)) → BeginsWithout is_name_byte (word_end rest)
end_begins None = tt
end_begins (Some rest) = refl

pub key_read : (text key after : List ℕ) (rest : Option (List ℕ)) → IsKey key → text ≡ key ++ after → after ≡ word_end rest → (key_at (part_at 32 text).0 ≡ Some key) × (rest ≡ (part_at 32 text).1)
key_read text key after rest is joined end = word_read same_text IsKey key_at key_is key_lacks_space text key rest is (joined ∙ ap (λ (t : List ℕ). key ++ t) end)

pub no_key_read : (text : List ℕ) → ((key after : List ℕ) → IsKey key → BeginsWithout is_name_byte after → text ≡ key ++ after → ⊥) → key_at (part_at 32 text).0 ≡ None
no_key_read text never = word_not_read same_text IsKey key_at key_is text (λ key rest is e. never key (word_end rest) is (end_begins rest) e)

pub no_key_end : (text key after : List ℕ) → IsKey key → text ≡ key ++ after → BeginsWithout is_name_byte after → ((rest : Option (List ℕ)) → after ≡ word_end rest → ⊥) → key_at (part_at 32 text).0 ≡ None
no_key_end text key after is joined begins never =
    word_not_read same_text IsKey key_at key_is text (λ other rest h e. never rest (same_run is_name_byte key after other (word_end rest) is.all_allowed begins h.all_allowed (end_begins rest) (sym joined ∙ e)).1)

-- ---- items

tag_begins : (tag more : List ℕ) → BeginsWithout is_name_byte (tag_text tag ++ 61 ∷ more)
tag_begins [] more = refl
tag_begins (byte ∷ tag) more = refl

item_parts : (text : List ℕ) (item : Item) (rest : Option (List ℕ)) → text ≡ item_text item ++ word_end rest → text ≡ item.key ++ (tag_text item.tag ++ 61 ∷ (item.value ++ word_end rest))
item_parts text item rest e =
    e ∙ append_assoc item.key (tag_text item.tag ++ 61 ∷ item.value) (word_end rest) ∙ ap (λ (t : List ℕ). item.key ++ t) (append_assoc (tag_text item.tag) (61 ∷ item.value) (word_end rest))

pub item_read : (text key after tag behind value : List ℕ) (rest : Option (List ℕ)) → IsKey key → text ≡ key ++ after → IsTag tag → after ≡ tag_text tag ++ behind → IsValue value → behind ≡ 61 ∷ (value ++ word_end rest)
    → (item_at (part_at 32 text).0 ≡ Some (record { key = key; tag = tag; value = value })) × (rest ≡ (part_at 32 text).1)
item_read text key after tag behind value rest is_key joined is_tag tagged is_value valued =
    let item : Item = record { key = key; tag = tag; value = value } in
    word_read item_text IsItem item_at item_reader item_lacks_space text item rest (record { key = is_key; tag = is_tag; value = is_value })
    (joined ∙ ap (λ (t : List ℕ). key ++ t) (tagged ∙ ap (λ (t : List ℕ). tag_text tag ++ t) valued ∙ sym (append_assoc (tag_text tag) (61 ∷ value) (word_end rest)))
    ∙ sym (append_assoc key (tag_text tag ++ 61 ∷ value) (word_end rest)))

pub no_item_key : (text : List ℕ) → ((key after : List ℕ) → IsKey key → BeginsWithout is_name_byte after → text ≡ key ++ after → ⊥) → item_at (part_at 32 text).0 ≡ None
no_item_key text never =
    word_not_read item_text IsItem item_at item_reader text (λ item rest is e. never item.key _ is.key (tag_begins item.tag (item.value ++ word_end rest)) (item_parts text item rest e))

-- what stands behind the key of an item
item_after : (text key after : List ℕ) (item : Item) (rest : Option (List ℕ)) → IsKey key → text ≡ key ++ after → BeginsWithout is_name_byte after → IsItem item → text ≡ item_text item ++ word_end rest
    → after ≡ tag_text item.tag ++ 61 ∷ (item.value ++ word_end rest)
item_after text key after item rest is_key joined begins is e =
    (same_run is_name_byte key after item.key (tag_text item.tag ++ 61 ∷ (item.value ++ word_end rest)) is_key.all_allowed begins is.key.all_allowed (tag_begins item.tag (item.value ++ word_end rest))
    (sym joined ∙ item_parts text item rest e)).1

pub no_item_tag : (text key after : List ℕ) → IsKey key → text ≡ key ++ after → BeginsWithout is_name_byte after → ((tag behind : List ℕ) → IsTag tag → after ≡ tag_text tag ++ 61 ∷ behind → ⊥) → item_at (part_at 32 text).0 ≡ None
no_item_tag text key after is_key joined begins never =
    word_not_read item_text IsItem item_at item_reader text (λ item rest is e. never item.tag (item.value ++ word_end rest) is.tag (item_after text key after item rest is_key joined begins is e))

pub no_item_value : (text key after tag behind : List ℕ) → IsKey key → text ≡ key ++ after → BeginsWithout is_name_byte after → IsTag tag → after ≡ tag_text tag ++ behind → EndsTag tag behind
    → ((value : List ℕ) (rest : Option (List ℕ)) → IsValue value → behind ≡ 61 ∷ (value ++ word_end rest) → ⊥) → item_at (part_at 32 text).0 ≡ None
no_item_value text key after tag behind is_key joined begins is_tag tagged ends never =
    word_not_read item_text IsItem item_at item_reader text (λ item rest is e.
    never item.value rest is.value (same_tag tag behind item.tag (item.value ++ word_end rest) is_tag.all_allowed ends is.tag.all_allowed (sym tagged ∙ item_after text key after item rest is_key joined begins is e)))
