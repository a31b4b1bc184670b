-- What a transaction that has just begun waits for: for `Running::begin`.
use Rattle.std.proofs.Common.{◌≡◌, ℕ, zero, suc, ◌<◌, ◌≤◌, List, [], ◌∷◌, Bool, true, false, ◌&&◌, ◌||◌, not, map, filter, ap, sym, ◌∙◌, refl, cond, arith, length, None}
use Rattle.std.specs.Prelude.{IsTrue, nat_lt}
use Rattle.std.specs.List.{list_all}
use Rattle.std.proofs.lemmas.List.{length-map}
use Rattle.stamps.specs.Bounds.{IsParts}
use Rattle.stamps.specs.Key.{IsTransactionKeys, home_of}
use Rattle.stamps.specs.Limits.{max_keys, max_found, max_parts}
use Rattle.plain_store.specs.Words.{Record, Item, Key, Tag, Stamp, Setup, home}
use Rattle.plain_store.specs.declared.calls.Call.TheVariants.{Prepare, Get, Found}
use Rattle.plain_store.specs.declared.message.Message.{Message}
use Rattle.plain_store.proofs.BadKeys.{transaction_keys, good_keys, bad_keys}
use Rattle.plain_store.specs.Finding.{below, found_calls, all_found, total_found, all_keys_found}
use Rattle.plain_store.specs.History.{Intent, Writes, Gets, Finds}
use Rattle.plain_store.specs.Moves.{calls_of, is_answered}
use Rattle.plain_store.specs.Rounds.{seen_first, first_calls, second_calls, reading_calls, round_one_complete}
use Rattle.plain_store.specs.Run.{are_bad}
use Rattle.plain_store.specs.Writing.{Outgoing, keys_written, record_for, prepare_call, prepare_calls, commit_calls, all_prepared}
use Rattle.plain_store.proofs.ListTests.{all_push, and-false, map_alike, map_again}
use Rattle.put_all.specs.declared.writer.Writer.{Writer}
use Rattle.put_all.specs.Writer.{StandsFor as StandsForWrite}
use Rattle.put_all.proofs.Steps.{not_ended}
use Rattle.get_all.specs.declared.reader.Reader.{Reader}
use Rattle.get_all.specs.declared.tag_search.TagSearch.{TagSearch}
use Rattle.get_all.specs.Reader.{is_no_read, StandsFor as StandsForRead}
use Rattle.get_all.specs.TagSearch.{StandsFor as StandsForFind}
use Rattle.get_all.specs.Reading.{has_ended as has_read}
use Rattle.get_all.proofs.New.{not_ended as not_read}
use Rattle.tenant_sessions.specs.Running.{is_past, waiting_calls, IsWriting, IsReading, IsFinding}
use Rattle.tenant_sessions.proofs.Placed.{length-below}
use Rattle.tenant_sessions.proofs.Taking.{filter_whole, not_both}

-- a test that exactly the keys of a transaction pass
pub passes_good : (keys : List Key) (b : Bool) → (b ≡ true → IsTransactionKeys keys) → (IsTransactionKeys keys → b ≡ true) → b ≡ not (are_bad keys)
passes_good keys true some whole = sym (ap not (good_keys keys (some refl)))
passes_good keys false some whole = sym (ap not (bad_keys keys (λ good. let t = whole good in cc)))

-- before any reply it waits for all calls of its part
pub waits_first : (setup : Setup) (request : Intent) (calls : List Outgoing) → calls_of setup (is_past request []) request [] ≡ calls → waiting_calls setup request [] ≡ calls
waits_first setup request calls is =
    ap (filter (λ out. not (is_answered [] out.partition out.call))) is ∙ filter_whole (λ out. not (is_answered [] out.partition out.call)) calls (λ out member. refl)

none_prepared : (stamp : Stamp) (items : List Item) → 0 < length (keys_written items) → all_prepared stamp items [] ≡ false
none_prepared stamp [] some = absurd (omega arith)
none_prepared stamp (item ∷ items) some = refl

none_shown : (keys : List Key) → 0 < length keys → round_one_complete keys [] ≡ false
unfolding seen_first
none_shown [] some = absurd (omega arith)
none_shown (key ∷ keys) some = refl

pub none_told : (n : ℕ) → 0 < n → list_all (λ p. false) (below n) ≡ false
none_told zero some = absurd (omega arith)
none_told (suc n) some = all_push (λ p. false) (below n) n ∙ and-false (list_all (λ p. false) (below n))

-- the first part of a read, and of a search
reads_first : (setup : Setup) (keys : List Key) → 0 < length keys → calls_of setup false (Gets keys) [] ≡ first_calls setup keys
reads_first setup keys some = ap (λ b. cond b (second_calls setup keys []) (first_calls setup keys)) (none_shown keys some)

finds_first : (setup : Setup) (tag : Tag) → 0 < setup.partitions → calls_of setup false (Finds tag) [] ≡ found_calls setup tag
finds_first setup tag some = ap (λ b. cond b (reading_calls setup (all_keys_found []) []) (found_calls setup tag)) (none_told setup.partitions some)

module _ (setup : Setup) (parts : ℕ) (is : setup.partitions ≡ parts) where
  abbrev pub prepare_at : Record → Outgoing
  prepare_at version = record { partition = home_of version.key parts; call = Prepare version }

  abbrev pub first_at : Key → Outgoing
  first_at key = record { partition = home_of key parts; call = Get key None }

  abbrev pub found_at : Tag → ℕ → Outgoing
  found_at tag partition = record { partition = partition; call = Found tag }

  at_home : (key : Key) → home_of key parts ≡ home setup key
  unfolding home
  at_home key = ap (home_of key) (sym is)

  prepares_are : (stamp : Stamp) (items : List Item) → map prepare_at (map (record_for stamp items) items) ≡ prepare_calls setup stamp items
  prepares_are stamp items =
      map_again prepare_at (record_for stamp items) (prepare_call setup stamp items)
      (λ item. ap (λ n. let out : Outgoing = record { partition = n; call = Prepare (record_for stamp items item) } in out) (at_home item.key)) items

  pub firsts_are : (keys : List Key) → map first_at keys ≡ first_calls setup keys
  firsts_are =
      map_alike first_at (λ key. let out : Outgoing = record { partition = home setup key; call = Get key None } in out)
      (λ key. ap (λ n. let out : Outgoing = record { partition = n; call = Get key None } in out) (at_home key))

  pub write_starts : (stamp : Stamp) (items : List Item) (w : Writer) (left : List Outgoing) → IsTransactionKeys (keys_written items) → StandsForWrite setup stamp items w []
      → (length (map prepare_at (map (record_for stamp items) items)) ≤ max_parts → left ≡ map prepare_at (map (record_for stamp items) items))
      → IsWriting setup stamp items [] w left × (waiting_calls setup (Writes stamp items) [] ≡ calls_of setup false (Writes stamp items) [])
  write_starts stamp items w left good stands new =
      let few : length items ≤ max_keys = omega (arith, good.at_most, length-map items (λ (item : Item). item.key)) in
      let made = prepares_are stamp items in
      let room : length (map prepare_at (map (record_for stamp items) items)) ≤ max_parts = omega (arith, ap length made, length-map items (prepare_call setup stamp items), few) in
      let all = waits_first setup (Writes stamp items) (prepare_calls setup stamp items)
      (ap (λ b. cond b (commit_calls setup stamp items) (prepare_calls setup stamp items)) (none_prepared stamp items good.not_empty)) in
      (record { stands = stands; goes_on = sym (not_ended setup stamp items good); few = few; in_order = λ _ p s. refl; waits = new room ∙ made ∙ sym all }, all)

  pub read_starts : (keys : List Key) (r : Reader) (left : List Outgoing) → IsTransactionKeys keys → ((taken : List Message) → IsTrue (list_all is_no_read taken) → StandsForRead keys r taken)
      → (length (map first_at keys) ≤ max_parts → left ≡ map first_at keys) → IsReading setup keys [] r left × (waiting_calls setup (Gets keys) [] ≡ calls_of setup false (Gets keys) [])
  read_starts keys r left good stands new =
      let room : length (map first_at keys) ≤ max_parts = omega (arith, length-map keys first_at, good.at_most) in
      let all = waits_first setup (Gets keys) (calls_of setup false (Gets keys) []) refl in
      (record { stands = stands [] refl; goes_on = not_read [] refl keys good.not_empty; few = good.at_most; waits = new room ∙ firsts_are keys ∙ sym (reads_first setup keys good.not_empty) ∙ sym all }, all)

  pub find_starts : (tag : Tag) (f : TagSearch) (r : Reader) (left : List Outgoing) → IsParts parts → StandsForFind setup tag f r []
      → (length (map (found_at tag) (below parts)) ≤ max_parts → left ≡ map (found_at tag) (below parts))
      → IsFinding setup tag [] f r left × (waiting_calls setup (Finds tag) [] ≡ calls_of setup false (Finds tag) [])
  find_starts tag f r left range stands new =
      let some : 0 < setup.partitions = omega (arith, is, range.positive) in
      let none : all_found setup [] ≡ false = none_told setup.partitions some in
      let room : length (map (found_at tag) (below parts)) ≤ max_parts = omega (arith, length-map (below parts) (found_at tag), length-below parts, range.small) in
      let all = waits_first setup (Finds tag) (calls_of setup false (Finds tag) []) refl in (
        record {
          stands = stands;
          goes_on = ap (λ b. b && (nat_lt max_found (total_found []) || has_read (all_keys_found []) [])) none;
          few = λ found. not_both (all_found setup []) found none;
          of_kind = refl;
          waits = new room ∙ ap (λ n. map (found_at tag) (below n)) (sym is) ∙ sym (finds_first setup tag some) ∙ sym all;
        },
        all,
      )

-- ---- how many calls are sent first

pub write_calls : (setup : Setup) (stamp : Stamp) (items : List Item) → are_bad (keys_written items) ≡ false → length (calls_of setup false (Writes stamp items) []) ≡ length items
write_calls setup stamp items good = length-map items (prepare_call setup stamp items)

pub read_calls : (setup : Setup) (keys : List Key) → are_bad keys ≡ false → length (calls_of setup false (Gets keys) []) ≡ length keys
read_calls setup keys good = ap length (reads_first setup keys (transaction_keys keys good).not_empty ∙ sym (firsts_are setup setup.partitions refl keys)) ∙ length-map keys (first_at setup setup.partitions refl)

pub find_calls : (setup : Setup) (parts : ℕ) → setup.partitions ≡ parts → (tag : Tag) → IsParts parts → length (calls_of setup false (Finds tag) []) ≡ parts
find_calls setup parts is tag range =
    ap length (finds_first setup tag (omega (arith, is, range.positive))) ∙ length-map (below setup.partitions) (found_at setup parts is tag) ∙ length-below setup.partitions ∙ is
