-- What is read is spelled so, and what is spelled so is read: for acts.
use Rattle.std.proofs.Common.{◌≡◌, ℕ, ◌-◌, ◌^◌, ◌<◌, false, eqb, List, [], ◌∷◌, ◌++◌, length, Option, Some, None, refl, sym, ap, subst, ◌∙◌, arith, inl, inr}
use Rattle.std.specs.Prelude.{decimal, codes, map}
use Rattle.std.specs.List.{flat_map, join_with_byte, AllByRecursion, slice_split}
use Rattle.std.proofs.lemmas.Option.{same_Some}
use Rattle.std.proofs.lemmas.List.{append-nil}
use Rattle.std.proofs.lemmas.List.Elements.{All-from_recursion}
use Rattle.std.proofs.lemmas.List.Splits.{slice_split_none, slice_split_at, join_with_byte-slice_split}
use Rattle.stamps.specs.Bounds.{IsClient}
use Rattle.stamps.specs.Limits.{max_tag_len, max_counter}
use Rattle.stamps.specs.Text.{is_name_byte}
use Rattle.stamps.specs.Key.{IsKey}
use Rattle.plain_store.specs.declared.step.Act.{Act}
use Rattle.plain_store.specs.declared.step.Act.TheVariants.{Hello, Put, Get, Find, Deliver, Lose, Retry, Stop, Collect, Keep}
use Rattle.line_protocol.specs.Reading.{◌>>=◌, split_first, number_at, key_at, tag_at, part_by, part_at, parts_in, each_at}
use Rattle.line_protocol.specs.Spelling.{same_text}
use Rattle.line_protocol.specs.StepSpelling.{item_text, words_text, IsItem, HasText, act_text, Spells}
use Rattle.line_protocol.specs.StepReading.{client_at, keep_at, item_at, hello_by, hello_at, put_at, get_at, find_at, deliver_at, lose_at, retry_at, stop_at, collect_at, keep_act_at, act_by, act_at}
use Rattle.line_protocol.proofs.Splits.{Lacks, bind_some, split_first-joined, split_first-parts, split_first-lacks}
use Rattle.line_protocol.proofs.Numbers.{number_found, number_again}
use Rattle.line_protocol.proofs.Laws.{IsReader, Lacks-allowed, text_reader, each_found, each_again, written_tag, tag_again, either_command}
use Rattle.line_protocol.proofs.RecordLaws.{key_is, split_some}
use Rattle.line_protocol.proofs.StepLaws.{client_reader, client_lacks_space, keep_reader, item_reader, item_lacks_space}

-- ---- words, each after a space

abbrev pub spaced : List (List ℕ) → List ℕ
spaced = flat_map (λ word. 32 ∷ word)

pub spaced_map : {A : Type 0} (text_of : A → List ℕ) (all : List A) → spaced (map text_of all) ≡ words_text text_of all
spaced_map text_of [] = refl
spaced_map text_of (a ∷ all) = ap (λ (t : List ℕ). 32 ∷ (text_of a ++ t)) (spaced_map text_of all)

spaced_join : (words : List (List ℕ)) → 0 < length words → spaced words ≡ 32 ∷ join_with_byte 32 words
spaced_join [] some = absurd (omega arith)
spaced_join (word ∷ []) some = ap (λ (t : List ℕ). 32 ∷ t) (append-nil word)
spaced_join (word ∷ next ∷ words) some = ap (λ (t : List ℕ). 32 ∷ (word ++ t)) (spaced_join (next ∷ words) (omega arith))

pub spaced_split : (text : List ℕ) → spaced (slice_split (λ b. eqb b 32) text) ≡ 32 ∷ text
spaced_split text = spaced_join (slice_split (λ b. eqb b 32) text) (split_some 32 text) ∙ ap (λ (t : List ℕ). 32 ∷ t) (join_with_byte-slice_split 32 text)

parted-by : (text : List ℕ) (o : Option (List ℕ × List ℕ)) → split_first 32 text ≡ o → text ≡ (part_by text o).0 ++ spaced (parts_in 32 (part_by text o).1)
parted-by text None parts = sym (append-nil text)
parted-by text (Some p) parts = (split_first-parts 32 text p.0 p.1 parts).parts ∙ ap (λ (t : List ℕ). p.0 ++ t) (sym (spaced_split p.1))

-- a first word, and the words after it
pub parted : (text : List ℕ) → text ≡ (part_at 32 text).0 ++ spaced (parts_in 32 (part_at 32 text).1)
unfolding part_at
parted text = parted-by text (split_first 32 text) refl

-- the words after the first, as they are separated
abbrev pub after_first : List (List ℕ) → Option (List ℕ)
after_first [] = None
after_first (word ∷ words) = Some (word ++ spaced words)

pub part-spaced : (front : List ℕ) (words : List (List ℕ)) → Lacks 32 front → part_at 32 (front ++ spaced words) ≡ (front, after_first words)
unfolding part_at
part-spaced front [] lacks = rw (append-nil front, split_first-lacks 32 front lacks) refl
part-spaced front (word ∷ words) lacks = rw (split_first-joined 32 front (word ++ spaced words) lacks) refl

split-spaced : (word : List ℕ) (words : List (List ℕ)) → AllByRecursion (Lacks 32) (word ∷ words) → slice_split (λ b. eqb b 32) (word ++ spaced words) ≡ word ∷ words
split-spaced word [] h = rw (append-nil word) (slice_split_none (λ b. eqb b 32) word (All-from_recursion (λ b. eqb b 32 ≡ false) word h.0))
split-spaced word (next ∷ words) h =
    slice_split_at (λ b. eqb b 32) word 32 (next ++ spaced words) (All-from_recursion (λ b. eqb b 32 ≡ false) word h.0) refl
    ∙ ap (λ (ws : List (List ℕ)). word ∷ ws) (split-spaced next words h.1)

words-after : (words : List (List ℕ)) → AllByRecursion (Lacks 32) words → parts_in 32 (after_first words) ≡ words
words-after [] h = refl
words-after (word ∷ words) h = split-spaced word words h

-- ---- lists of words

each_lacks : {A : Type 0} (text_of : A → List ℕ) (Is : A → Type 0) → ((a : A) → Is a → Lacks 32 (text_of a)) → (all : List A) → AllByRecursion Is all → AllByRecursion (Lacks 32) (map text_of all)
each_lacks text_of Is lacks [] h = tt
each_lacks text_of Is lacks (a ∷ all) h = (lacks a h.0, each_lacks text_of Is lacks all h.1)

-- a client, and words of which each is read
list_found : {A : Type 0} (text_of : A → List ℕ) (Is : A → Type 0) (at : List ℕ → Option A) → IsReader text_of Is at → (words : List ℕ) (client : ℕ) (all : List A)
    → client_at (part_at 32 words).0 ≡ Some client → each_at at (parts_in 32 (part_at 32 words).1) ≡ Some all → IsClient client × AllByRecursion Is all × (words ≡ decimal client ++ words_text text_of all)
list_found text_of Is at reader words client all c e =
    let who = client_reader.found (part_at 32 words).0 client c in
    let each = each_found text_of Is at reader (parts_in 32 (part_at 32 words).1) all e in
    (who.0, each.0, parted words ∙ ap (λ (f : List ℕ). f ++ spaced (parts_in 32 (part_at 32 words).1)) who.1 ∙ ap (λ (t : List ℕ). decimal client ++ t) (ap spaced each.1 ∙ spaced_map text_of all))

list_parts : {A : Type 0} (text_of : A → List ℕ) (client : ℕ) (all : List A) → IsClient client → part_at 32 (decimal client ++ words_text text_of all) ≡ (decimal client, after_first (map text_of all))
list_parts text_of client all h = ap (λ (t : List ℕ). part_at 32 (decimal client ++ t)) (sym (spaced_map text_of all)) ∙ part-spaced (decimal client) (map text_of all) (client_lacks_space client h)

pub list_words : {A : Type 0} (text_of : A → List ℕ) (Is : A → Type 0) (at : List ℕ → Option A) → IsReader text_of Is at → ((a : A) → Is a → Lacks 32 (text_of a)) → (all : List A) → AllByRecursion Is all
    → each_at at (parts_in 32 (after_first (map text_of all))) ≡ Some all
list_words text_of Is at reader lacks all h = ap (each_at at) (words-after (map text_of all) (each_lacks text_of Is lacks all h)) ∙ each_again text_of Is at reader all h

pub key_lacks_space : (key : List ℕ) → IsKey key → Lacks 32 key
key_lacks_space key h = Lacks-allowed is_name_byte 32 refl key h.all_allowed

-- ---- what is read is spelled so

-- the words of a text of this act
abbrev IsAsked : List ℕ → List ℕ → Act → Type 0
IsAsked command words act = HasText act × Spells act (command ++ 32 ∷ words)

hello_by-found : (words : List ℕ) (o : Option (List ℕ × List ℕ)) (act : Act) → split_first 32 words ≡ o → hello_by words o ≡ Some act → IsAsked (codes "hello") words act
hello_by-found words None act parts e =
    let c = bind_some (client_at words) (λ client. Some (Hello client 0)) act e in
    let client = client_reader.found words c.0 c.1 in
    subst (λ (a : Act). IsAsked (codes "hello") words a) (same_Some (Hello c.0 0) act c.2) ((client.0, omega arith), inr (refl, ap (λ (t : List ℕ). codes "hello" ++ 32 ∷ t) client.1))
hello_by-found words (Some p) act parts e =
    let c = bind_some (client_at p.0) (λ client. number_at max_counter p.1 >>= λ base. Some (Hello client base)) act e in
    let b = bind_some (number_at max_counter p.1) (λ base. Some (Hello c.0 base)) act c.2 in
    let client = client_reader.found p.0 c.0 c.1 in
    let base = number_found max_counter p.1 b.0 (omega arith) b.1 in
    let parted = split_first-parts 32 words p.0 p.1 parts in
    subst (λ (a : Act). IsAsked (codes "hello") words a) (same_Some (Hello c.0 b.0) act b.2) (
      (client.0, omega (arith, base.0)),
      inl (ap (λ (t : List ℕ). codes "hello" ++ 32 ∷ t) (parted.parts ∙ ap (λ (t : List ℕ). t ++ 32 ∷ p.1) client.1 ∙ ap (λ (t : List ℕ). decimal c.0 ++ 32 ∷ t) base.1)),
    )

hello-found : (words : List ℕ) (act : Act) → hello_at words ≡ Some act → IsAsked (codes "hello") words act
unfolding hello_at
hello-found words act e = hello_by-found words (split_first 32 words) act refl e

put-found : (words : List ℕ) (act : Act) → put_at words ≡ Some act → IsAsked (codes "put") words act
unfolding put_at
put-found words act e =
    let c = bind_some (client_at (part_at 32 words).0) (λ client. each_at item_at (parts_in 32 (part_at 32 words).1) >>= λ items. Some (Put client items)) act e in
    let l = bind_some (each_at item_at (parts_in 32 (part_at 32 words).1)) (λ items. Some (Put c.0 items)) act c.2 in
    let list = list_found item_text IsItem item_at item_reader words c.0 l.0 c.1 l.1 in
    subst (λ (a : Act). IsAsked (codes "put") words a) (same_Some (Put c.0 l.0) act l.2) ((list.0, list.1), inl (ap (λ (t : List ℕ). codes "put" ++ 32 ∷ t) list.2))

get-found : (words : List ℕ) (act : Act) → get_at words ≡ Some act → IsAsked (codes "get") words act
unfolding get_at
get-found words act e =
    let c = bind_some (client_at (part_at 32 words).0) (λ client. each_at key_at (parts_in 32 (part_at 32 words).1) >>= λ keys. Some (Get client keys)) act e in
    let l = bind_some (each_at key_at (parts_in 32 (part_at 32 words).1)) (λ keys. Some (Get c.0 keys)) act c.2 in
    let list = list_found same_text IsKey key_at key_is words c.0 l.0 c.1 l.1 in
    subst (λ (a : Act). IsAsked (codes "get") words a) (same_Some (Get c.0 l.0) act l.2) ((list.0, list.1), inl (ap (λ (t : List ℕ). codes "get" ++ 32 ∷ t) list.2))

find-found : (words : List ℕ) (act : Act) → find_at words ≡ Some act → IsAsked (codes "find") words act
unfolding find_at
find-found words act e =
    let p = bind_some (split_first 32 words) (λ p. client_at p.0 >>= λ client. tag_at p.1 >>= λ tag. Some (Find client tag)) act e in
    let c = bind_some (client_at p.0.0) (λ client. tag_at p.0.1 >>= λ tag. Some (Find client tag)) act p.2 in
    let t = bind_some (tag_at p.0.1) (λ tag. Some (Find c.0 tag)) act c.2 in
    let client = client_reader.found p.0.0 c.0 c.1 in
    let tag = (text_reader is_name_byte 1 max_tag_len).found p.0.1 t.0 t.1 in
    let written = written_tag t.0 tag.0 in
    let parted = split_first-parts 32 words p.0.0 p.0.1 p.1 in
    subst (λ (a : Act). IsAsked (codes "find") words a) (same_Some (Find c.0 t.0) act t.2) (
      (client.0, written.0, written.1),
      inl (ap (λ (t : List ℕ). codes "find" ++ 32 ∷ t) (parted.parts ∙ ap (λ (t : List ℕ). t ++ 32 ∷ p.0.1) client.1 ∙ ap (λ (t : List ℕ). decimal c.0 ++ 32 ∷ t) tag.1)),
    )

deliver-found : (words : List ℕ) (act : Act) → deliver_at words ≡ Some act → IsAsked (codes "deliver") words act
unfolding deliver_at
deliver-found words act e =
    let n = bind_some (number_at (2 ^ 64 - 1) words) (λ row. Some (Deliver row)) act e in
    let row = number_found (2 ^ 64 - 1) words n.0 (omega arith) n.1 in
    subst (λ (a : Act). IsAsked (codes "deliver") words a) (same_Some (Deliver n.0) act n.2) (omega (arith, row.0), inl (ap (λ (t : List ℕ). codes "deliver" ++ 32 ∷ t) row.1))

lose-found : (words : List ℕ) (act : Act) → lose_at words ≡ Some act → IsAsked (codes "lose") words act
unfolding lose_at
lose-found words act e =
    let n = bind_some (number_at (2 ^ 64 - 1) words) (λ row. Some (Lose row)) act e in
    let row = number_found (2 ^ 64 - 1) words n.0 (omega arith) n.1 in
    subst (λ (a : Act). IsAsked (codes "lose") words a) (same_Some (Lose n.0) act n.2) (omega (arith, row.0), inl (ap (λ (t : List ℕ). codes "lose" ++ 32 ∷ t) row.1))

retry-found : (words : List ℕ) (act : Act) → retry_at words ≡ Some act → IsAsked (codes "retry") words act
unfolding retry_at
retry-found words act e =
    let c = bind_some (client_at words) (λ client. Some (Retry client)) act e in
    let client = client_reader.found words c.0 c.1 in
    subst (λ (a : Act). IsAsked (codes "retry") words a) (same_Some (Retry c.0) act c.2) (client.0, inl (ap (λ (t : List ℕ). codes "retry" ++ 32 ∷ t) client.1))

stop-found : (words : List ℕ) (act : Act) → stop_at words ≡ Some act → IsAsked (codes "stop") words act
unfolding stop_at
stop-found words act e =
    let c = bind_some (client_at words) (λ client. Some (Stop client)) act e in
    let client = client_reader.found words c.0 c.1 in
    subst (λ (a : Act). IsAsked (codes "stop") words a) (same_Some (Stop c.0) act c.2) (client.0, inl (ap (λ (t : List ℕ). codes "stop" ++ 32 ∷ t) client.1))

collect-found : (words : List ℕ) (act : Act) → collect_at words ≡ Some act → IsAsked (codes "collect") words act
unfolding collect_at
collect-found words act e =
    let n = bind_some (number_at (2 ^ 32 - 1) words) (λ partition. Some (Collect partition)) act e in
    let partition = number_found (2 ^ 32 - 1) words n.0 (omega arith) n.1 in
    subst (λ (a : Act). IsAsked (codes "collect") words a) (same_Some (Collect n.0) act n.2) (omega (arith, partition.0), inl (ap (λ (t : List ℕ). codes "collect" ++ 32 ∷ t) partition.1))

keep-found : (words : List ℕ) (act : Act) → keep_act_at words ≡ Some act → IsAsked (codes "keep") words act
keep-found words act e =
    let k = bind_some (keep_at words) (λ keep. Some (Keep keep)) act e in
    let keep = keep_reader.found words k.0 k.1 in
    subst (λ (a : Act). IsAsked (codes "keep") words a) (same_Some (Keep k.0) act k.2) (keep.0, inl (ap (λ (t : List ℕ). codes "keep" ++ 32 ∷ t) keep.1))

act_by-found : (command words : List ℕ) (act : Act) → act_by command words ≡ Some act → IsAsked command words act
act_by-found command words act =
    either_command asked command (codes "put") (put_at words) _ act (put-found words act)
    (either_command asked command (codes "get") (get_at words) _ act (get-found words act)
    (either_command asked command (codes "hello") (hello_at words) _ act (hello-found words act)
    (either_command asked command (codes "find") (find_at words) _ act (find-found words act)
    (either_command asked command (codes "deliver") (deliver_at words) _ act (deliver-found words act)
    (either_command asked command (codes "lose") (lose_at words) _ act (lose-found words act)
    (either_command asked command (codes "retry") (retry_at words) _ act (retry-found words act)
    (either_command asked command (codes "stop") (stop_at words) _ act (stop-found words act)
    (either_command asked command (codes "collect") (collect_at words) _ act (collect-found words act)
    (either_command asked command (codes "keep") (keep_act_at words) None act (keep-found words act) (λ e. absurd cc))))))))))
  where
    asked : List ℕ → Type 0
    asked c = IsAsked c words act

pub act_found : (text : List ℕ) (act : Act) → act_at text ≡ Some act → HasText act × Spells act text
unfolding act_at
act_found text act e =
    let p = bind_some (split_first 32 text) (λ p. act_by p.0 p.1) act e in
    let asked = act_by-found p.0.0 p.0.1 act p.2 in
    (asked.0, subst (Spells act) (sym (split_first-parts 32 text p.0.0 p.0.1 p.1).parts) asked.1)

-- ---- what is spelled is read

text_again : (act : Act) → HasText act → act_at (act_text act) ≡ Some act
unfolding act_at hello_at put_at get_at find_at deliver_at lose_at retry_at stop_at collect_at
text_again (Hello client base) h =
    let small = h.1 in
    rw (
      split_first-joined 32 (codes "hello") (decimal client ++ 32 ∷ decimal base) (refl, (refl, (refl, (refl, (refl, tt))))),
      split_first-joined 32 (decimal client) (decimal base) (client_lacks_space client h.0),
      client_reader.again client h.0,
      number_again max_counter base (omega arith) (omega arith),
    ) refl
text_again (Put client items) h =
    rw (
      split_first-joined 32 (codes "put") (decimal client ++ words_text item_text items) (refl, (refl, (refl, tt))),
      list_parts item_text client items h.0,
      client_reader.again client h.0,
      list_words item_text IsItem item_at item_reader item_lacks_space items h.1,
    ) refl
text_again (Get client keys) h =
    rw (
      split_first-joined 32 (codes "get") (decimal client ++ words_text same_text keys) (refl, (refl, (refl, tt))),
      list_parts same_text client keys h.0,
      client_reader.again client h.0,
      list_words same_text IsKey key_at key_is key_lacks_space keys h.1,
    ) refl
text_again (Find client tag) h =
    rw (
      split_first-joined 32 (codes "find") (decimal client ++ 32 ∷ tag) (refl, (refl, (refl, (refl, tt)))),
      split_first-joined 32 (decimal client) tag (client_lacks_space client h.0),
      client_reader.again client h.0,
      tag_again tag (h.1, h.2),
    ) refl
text_again (Deliver row) h =
    rw (split_first-joined 32 (codes "deliver") (decimal row) (refl, (refl, (refl, (refl, (refl, (refl, (refl, tt))))))), number_again (2 ^ 64 - 1) row (omega arith) (omega arith)) refl
text_again (Lose row) h =
    rw (split_first-joined 32 (codes "lose") (decimal row) (refl, (refl, (refl, (refl, tt)))), number_again (2 ^ 64 - 1) row (omega arith) (omega arith)) refl
text_again (Retry client) h = rw (split_first-joined 32 (codes "retry") (decimal client) (refl, (refl, (refl, (refl, (refl, tt))))), client_reader.again client h) refl
text_again (Stop client) h = rw (split_first-joined 32 (codes "stop") (decimal client) (refl, (refl, (refl, (refl, tt)))), client_reader.again client h) refl
text_again (Collect partition) h =
    rw (split_first-joined 32 (codes "collect") (decimal partition) (refl, (refl, (refl, (refl, (refl, (refl, (refl, tt))))))), number_again (2 ^ 32 - 1) partition (omega arith) (omega arith)) refl
text_again (Keep keep) h = rw (split_first-joined 32 (codes "keep") (decimal keep) (refl, (refl, (refl, (refl, tt)))), keep_reader.again keep h) refl

hello_again : (client : ℕ) → IsClient client → act_at (codes "hello " ++ decimal client) ≡ Some (Hello client 0)
unfolding act_at hello_at
hello_again client h =
    rw (
      split_first-joined 32 (codes "hello") (decimal client) (refl, (refl, (refl, (refl, (refl, tt))))),
      split_first-lacks 32 (decimal client) (client_lacks_space client h),
      client_reader.again client h,
    ) refl

pub act_again : (text : List ℕ) (act : Act) → HasText act → Spells act text → act_at text ≡ Some act
act_again text act has (inl is) = ap act_at is ∙ text_again act has
act_again text (Hello client base) has (inr short) = ap act_at short.1 ∙ hello_again client has.0 ∙ ap (λ (b : ℕ). Some (Hello client b)) (sym short.0)
act_again text (Put client items) has (inr short) = absurd short
act_again text (Get client keys) has (inr short) = absurd short
act_again text (Find client tag) has (inr short) = absurd short
act_again text (Deliver row) has (inr short) = absurd short
act_again text (Lose row) has (inr short) = absurd short
act_again text (Retry client) has (inr short) = absurd short
act_again text (Stop client) has (inr short) = absurd short
act_again text (Collect partition) has (inr short) = absurd short
act_again text (Keep keep) has (inr short) = absurd short
