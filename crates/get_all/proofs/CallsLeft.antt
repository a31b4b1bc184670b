-- How many calls a reader and a search may still ask for, before a reply and after it.
use Rattle.std.proofs.Common.{◌≡◌, ℕ, ◌+◌, ◌*◌, ◌≤◌, List, [], ◌∷◌, Bool, true, false, ◌&&◌, ◌||◌, ◌==◌, not, map, filter, length, cond, refl, ap, sym, ◌∙◌, subst, Option, arith}
use Rattle.std.specs.Prelude.{is_some, bytes_eq}
use Rattle.std.specs.List.{list_any, list_all}
use Rattle.std.proofs.lemmas.List.{length-map}
use Rattle.std.proofs.lemmas.List.Sums.{length-filter, count_by-le-length}
use Rattle.stamps.specs.Record.{Record}
use Rattle.plain_store.specs.Words.{Key, Tag}
use Rattle.plain_store.specs.declared.reading.Reading.{Reading}
use Rattle.plain_store.proofs.ListTests.{all-map}
use Rattle.stamps.specs.Limits.{max_keys, max_found}
use Rattle.get_all.specs.AskedPartition.{awaits}
use Rattle.get_all.specs.TagSearch.{calls_left as find_left, calls_asked as find_asked, listed}
use Rattle.get_all.specs.declared.told.AskedPartition.{AskedPartition}
use Rattle.get_all.specs.declared.tag_search.TagSearch.{TagSearch}
use Rattle.get_all.specs.ReadProgress.{has_first, awaits_first, is_late_by, late_of, late_by, with_first, with_second}
use Rattle.get_all.specs.Reader.{calls_left, calls_asked}
use Rattle.get_all.specs.declared.read_progress.KeyProgress.{KeyProgress}
use Rattle.get_all.specs.declared.reader.Reader.{Reader}
use Rattle.get_all.specs.declared.reader.ReadMove.{ReadMove}
use Rattle.get_all.specs.declared.reader.ReadMove.TheVariants.{Wait, Ask, Read, Restart, Torn, Ignored}

abbrev are_shown : List KeyProgress → Bool
are_shown slots = list_all has_first slots

-- while a reply of round one is awaited, that is not complete
not_all : (key : Key) (slots : List KeyProgress) → list_any (awaits_first key) slots ≡ true → are_shown slots ≡ false
not_all key [] some = cc
not_all key (slot ∷ slots) some = go (bytes_eq slot.key key) (is_some slot.first) some (not_all key slots)
  where
    go : (same shown : Bool) → ((same && not shown) || list_any (awaits_first key) slots) ≡ true
        → (list_any (awaits_first key) slots ≡ true → are_shown slots ≡ false) → (shown && are_shown slots) ≡ false
    go same false some rest = refl
    go true true some rest = rest some
    go false true some rest = rest some

-- what such a reader may still ask for
abbrev pub left : Bool → List KeyProgress → ℕ
left ended slots = cond (ended || are_shown slots) 0 (length slots)

pub left_at_most : (ended : Bool) (slots : List KeyProgress) → left ended slots ≤ length slots
left_at_most ended slots = go (ended || are_shown slots)
  where
    go : (b : Bool) → cond b 0 (length slots) ≤ length slots
    go true = omega arith
    go false = omega arith

left_once : (ended : Bool) (slots : List KeyProgress) (b : Bool) → (ended || are_shown slots) ≡ b → left ended slots ≡ cond b 0 (length slots)
left_once ended slots b is = ap (λ b. cond b 0 (length slots)) is

-- once round one is complete
none_left : (ended : Bool) (slots : List KeyProgress) → are_shown slots ≡ true → left ended slots ≡ 0
none_left ended slots shown = left_once ended slots true (settled ended)
  where
    settled : (b : Bool) → (b || are_shown slots) ≡ true
    settled true = refl
    settled false = shown

late_few : (slots : List KeyProgress) → length (late_by slots) ≤ length slots
late_few slots =
    omega (arith, length-map (filter (is_late_by slots) slots) (late_of slots), length-filter (is_late_by slots) slots, count_by-le-length (is_late_by slots) slots)

-- what a reader answers once round one showed this of a key that was awaited
pub first_few : (ended : Bool) (slots : List KeyProgress) (key : Key) (shown : Option Record) → ended ≡ false → list_any (awaits_first key) slots ≡ true
    → (after : Reader) → after.slots ≡ map (with_first key shown) slots
    → (answer : ReadMove) (answered : Bool) (told : List Reading) → answer ≡ cond (are_shown after.slots) (cond answered (Read told) (Ask (late_by after.slots))) Wait
    → calls_asked answer + calls_left after ≤ left ended slots
first_few ended slots key shown goes_on awaited after marked answer answered told is = go (are_shown after.slots) refl is
  where
    before : left ended slots ≡ length slots
    before = left_once ended slots false (ap (λ b. b || are_shown slots) goes_on ∙ not_all key slots awaited)

    same : length after.slots ≡ length slots
    same = ap length marked ∙ length-map slots (with_first key shown)

    asked : (a : ReadMove) (n : ℕ) → answer ≡ a → calls_asked a ≤ n → calls_asked answer ≤ n
    asked a n this few = subst (λ (b : ReadMove). calls_asked b ≤ n) (sym this) few

    go : (b : Bool) → are_shown after.slots ≡ b → answer ≡ cond b (cond answered (Read told) (Ask (late_by after.slots))) Wait
        → calls_asked answer + calls_left after ≤ left ended slots
    go false e this =
        let none = asked Wait 0 this (omega arith) in
        omega (arith, before, same, none, left_at_most after.has_ended after.slots)
    go true e this =
        let late = asks answered this in
        omega (arith, before, same, late, none_left after.has_ended after.slots e)
      where
        asks : (d : Bool) → answer ≡ cond d (Read told) (Ask (late_by after.slots)) → calls_asked answer ≤ length after.slots
        asks true this = asked (Read told) (length after.slots) this (omega arith)
        asks false this = asked (Ask (late_by after.slots)) (length after.slots) this (late_few after.slots)

-- and once round two did
pub second_few : (ended : Bool) (slots : List KeyProgress) (key : Key) (version : Record) → are_shown slots ≡ true
    → (after : Reader) → after.slots ≡ map (with_second key version) slots
    → (answer : ReadMove) (answered : Bool) (told : List Reading) → answer ≡ cond answered (Read told) Wait
    → calls_asked answer + calls_left after ≤ left ended slots
second_few ended slots key version shown after marked answer answered told is =
    omega (arith, asks answered is, none_left after.has_ended after.slots still)
  where
    still : are_shown after.slots ≡ true
    still = ap are_shown marked ∙ all-map has_first (with_second key version) slots ∙ shown

    asks : (d : Bool) → answer ≡ cond d (Read told) Wait → calls_asked answer ≡ 0
    asks true this = ap calls_asked this
    asks false this = ap calls_asked this

-- ---- a search

abbrev have_told : List AskedPartition → Bool
have_told asked = list_all (λ (one : AskedPartition). one.has_told) asked

-- while some partition is awaited, not each has told
not_told : (partition : ℕ) (asked : List AskedPartition) → list_any (awaits partition) asked ≡ true → have_told asked ≡ false
not_told partition [] some = cc
not_told partition (one ∷ asked) some = go (one.partition == partition) one.has_told some (not_told partition asked)
  where
    go : (same told : Bool) → ((same && not told) || list_any (awaits partition) asked) ≡ true
        → (list_any (awaits partition) asked ≡ true → have_told asked ≡ false) → (told && have_told asked) ≡ false
    go same false some rest = refl
    go true true some rest = rest some
    go false true some rest = rest some

-- what is left to its reader
abbrev to_read : Bool → Reader → ℕ
to_read reads reader = cond reads (calls_left reader) 0

-- a partition told what it found, that was awaited
module _ (search : TagSearch) (reader : Reader) (partition : ℕ) (goes_on : search.has_ended ≡ false) (awaited : list_any (awaits partition) search.asked ≡ true) where
  before : find_left search reader ≡ 2 * max_keys + to_read search.reads reader
  before =
      ap (λ b. cond b 0 (cond (have_told search.asked) 0 (2 * max_keys) + to_read search.reads reader)) goes_on
      ∙ ap (λ b. cond b 0 (2 * max_keys) + to_read search.reads reader) (not_told partition search.asked awaited)

  pub found_waits : (after : TagSearch) → after.reads ≡ search.reads → 0 + find_left after reader ≤ find_left search reader
  found_waits after reads = go after.has_ended (have_told after.asked)
    where
      same : to_read after.reads reader ≡ to_read search.reads reader
      same = ap (λ b. to_read b reader) reads

      go : (b d : Bool) → 0 + cond b 0 (cond d 0 (2 * max_keys) + to_read after.reads reader) ≤ find_left search reader
      go true d = omega arith
      go false true = omega (arith, before, same)
      go false false = omega (arith, before, same)

  pub found_begins : (n : ℕ) → n ≤ 2 * max_keys → n ≤ find_left search reader
  found_begins n few = omega (arith, before)

-- of what its reader answered a search asks for as many
listed_few : (tag : Tag) (move : ReadMove) → find_asked (listed tag move) ≤ calls_asked move
listed_few tag Wait = omega arith
listed_few tag (Ask late) = omega arith
listed_few tag (Read readings) = omega arith
listed_few tag (Restart key floor) = omega arith
listed_few tag Torn = omega arith
listed_few tag Ignored = omega arith

-- its reader took a reply
pub found_reads : (search : TagSearch) (reader next : Reader) (tag : Tag) (move : ReadMove) → search.has_ended ≡ false → search.reads ≡ true
    → calls_asked move + calls_left next ≤ calls_left reader → (after : TagSearch) → after.reads ≡ true → after.asked ≡ search.asked
    → find_asked (listed tag move) + find_left after next ≤ find_left search reader
found_reads search reader next tag move goes_on reads few after still same = omega (arith, few, open_left, left after.has_ended, listed_few tag move)
  where
    open_left : find_left search reader ≡ cond (have_told search.asked) 0 (2 * max_found) + calls_left reader
    open_left =
        ap (λ b. cond b 0 (cond (have_told search.asked) 0 (2 * max_found) + to_read search.reads reader)) goes_on
        ∙ ap (λ b. cond (have_told search.asked) 0 (2 * max_found) + to_read b reader) reads

    left : (b : Bool) → cond b 0 (cond (have_told after.asked) 0 (2 * max_found) + to_read after.reads next) ≤ cond (have_told search.asked) 0 (2 * max_found) + calls_left next
    left true = omega arith
    left false =
        omega (arith, ap (λ (asked : List AskedPartition). cond (have_told asked) 0 (2 * max_found)) same, ap (λ b. to_read b next) still)
