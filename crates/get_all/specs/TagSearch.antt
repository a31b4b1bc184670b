-- What a search stands for.
use Rattle.std.specs.Prelude.{◌≡◌, ◌≢◌, ℕ, ◌+◌, ◌*◌, ◌≤◌, min, List, Bool, true, false, ◌||◌, nat_lt, length, map, flat_map}
use Rattle.std.specs.Prelude.{[], cond, Option, Some, None}
use Rattle.std.specs.List.{list_any, list_all}
use Rattle.stamps.specs.Limits.{max_found}
use Rattle.stamps.specs.WriteSet.{contains_key}
use Rattle.plain_store.specs.declared.calls.Call.TheVariants.{Found}
use Rattle.plain_store.specs.declared.calls.ReadReply.{ReadReply}
use Rattle.plain_store.specs.declared.message.Message.{Message}
use Rattle.plain_store.specs.declared.refusal.Refusal.TheVariants.{Torn as IsTorn, TooMany as AreTooMany}
use Rattle.plain_store.specs.FoundKeys.{Findings}
use Rattle.plain_store.specs.Words.{Key, Tag, Setup, home}
use Rattle.plain_store.specs.Rounds.{first_calls}
use Rattle.plain_store.specs.Finding.{below, says_found, keys_found, all_found, total_found, all_keys_found, carrying}
use Rattle.plain_store.specs.Moves.{Move, Waits, Begins, Asks, Lists, Restarts, Fails, is_answered}
use Rattle.plain_store.specs.Run.{one_twice}
use Rattle.get_all.specs.Finding.{any_stray, has_ended, find_answer, taken_with, IsTold}
use Rattle.get_all.specs.Reading.{IsFirst, IsSecond}
use Rattle.get_all.specs.Reader.{ask_for, is_no_read, StandsFor as StandsForRead, calls_left as read_left}
use Rattle.get_all.specs.declared.told.AskedPartition.{AskedPartition}
use Rattle.get_all.specs.declared.reader.Reader.{Reader}
use Rattle.get_all.specs.declared.reader.ReadMove.{ReadMove}
use Rattle.get_all.specs.declared.reader.ReadMove.TheVariants.{Wait as WaitRead, Ask as AskRead, Read}
use Rattle.get_all.specs.declared.reader.ReadMove.TheVariants.{Restart as RestartRead, Torn as TornRead}
use Rattle.get_all.specs.declared.reader.ReadMove.TheVariants.{Ignored as IgnoredRead}
use Rattle.get_all.specs.declared.tag_search.TagSearch.{TagSearch}
use Rattle.get_all.specs.declared.tag_search.FindMove.{FindMove}
use Rattle.get_all.specs.declared.tag_search.FindMove.TheVariants.{Wait, Begin, Ask, List as Listing, Restart, TooMany}
use Rattle.get_all.specs.declared.tag_search.FindMove.TheVariants.{Torn, Ignored}

-- the move that a search's answer reports, None where the reply is ignored
abbrev pub told : Setup → FindMove → Option Move
told setup Wait = Some Waits
told setup (Begin keys) = Some (Begins (first_calls setup keys))
told setup (Ask late) = Some (Asks (map (ask_for setup) late))
told setup (Listing items) = Some (Lists items)
told setup (Restart key floor) = Some (Restarts key floor)
told setup TooMany = Some (Fails AreTooMany [])
told setup Torn = Some (Fails IsTorn [])
told setup Ignored = None

-- what a search reports of an answer of its reader: of what is read the items of the tag
abbrev pub listed : Tag → ReadMove → FindMove
listed tag WaitRead = Wait
listed tag (AskRead late) = Ask late
listed tag (Read readings) = Listing (carrying tag readings)
listed tag (RestartRead key floor) = Restart key floor
listed tag TornRead = Torn
listed tag IgnoredRead = Ignored

-- whether an answer ends the search
abbrev pub is_last : FindMove → Bool
is_last Wait = false
is_last (Begin keys) = false
is_last (Ask late) = false
is_last (Listing items) = true
is_last (Restart key floor) = true
is_last TooMany = true
is_last Torn = true
is_last Ignored = false

abbrev pub keys_told : List Message → List Key
keys_told taken = flat_map (λ message. keys_found message.reply) taken

abbrev pub has_told : List Message → ℕ → Bool
has_told taken partition = list_any (λ message. says_found partition message.partition message.reply) taken

abbrev pub asked_after : List Message → ℕ → AskedPartition
asked_after taken partition = record { partition = partition; has_told = has_told taken partition }

-- while some partition has not told what it found
pub record IsAsking (setup : Setup) (search : TagSearch) (taken : List Message) : Type 0 where
  pub unread : search.reads ≡ false
  pub no_reads : list_all is_no_read taken ≡ true
  pub total : search.total ≡ min (total_found taken) (max_found + 1)
  pub keys : total_found taken ≤ max_found → search.keys ≡ keys_told taken
  pub counted : total_found taken ≤ max_found → length (keys_told taken) ≡ total_found taken
  pub distinct : one_twice (keys_told taken) ≡ false
  pub homes : (key : Key) → contains_key (keys_told taken) key ≡ true → has_told taken (home setup key) ≡ true
  pub answered : (p : ℕ) (tag : Tag) → is_answered taken p (Found tag) ≡ has_told taken p

-- and once each has
pub record IsReadingFound (search : TagSearch) (reader : Reader) (taken : List Message) : Type 0 where
  pub reads : search.reads ≡ true
  pub few : nat_lt max_found (total_found taken) ≡ false
  pub stands : StandsForRead (all_keys_found taken) reader taken

-- a search that has not ended holds what the replies told, and its reader what they showed
pub record HoldsFound (setup : Setup) (search : TagSearch) (reader : Reader) (taken : List Message) : Type 0 where
  pub asked : search.asked ≡ map (asked_after taken) (below setup.partitions)
  pub at_home : any_stray setup taken ≡ false
  pub asking : all_found setup taken ≡ false → IsAsking setup search taken
  pub reading : all_found setup taken ≡ true → IsReadingFound search reader taken

-- a search of this tag's items which took these replies with this reader, in order, and no others
pub record StandsFor (setup : Setup) (tag : Tag) (search : TagSearch) (reader : Reader) (taken : List Message) : Type 0 where
  pub tagged : search.tag ≡ tag
  pub parts : search.parts ≡ setup.partitions
  pub ended : search.has_ended ≡ has_ended setup taken
  pub holds : has_ended setup taken ≡ false → HoldsFound setup search reader taken

-- it takes the message as the search does, or ignores it
pub record TakesFind (setup : Setup) (tag : Tag) (taken : List Message) (message : Message) (answer : FindMove)
    (after : TagSearch) (reader : Reader) : Type 0 where
  pub answered : told setup answer ≡ find_answer setup tag taken message
  pub stands : StandsFor setup tag after reader (taken_with setup taken message)
  pub last : has_ended setup (taken_with setup taken message) ≡ (has_ended setup taken || is_last answer)

-- ---- the calls to come

-- How many calls a search may still ask for: until each partition told what it found, two rounds of as many keys as a
-- search lists; and what its reader may ask for, once it reads. Once the search has ended, none.
abbrev pub calls_left : TagSearch → Reader → ℕ
calls_left search reader =
    cond search.has_ended 0
    (cond (list_all (λ asked. asked.has_told) search.asked) 0 (2 * max_found)
    + cond search.reads (read_left reader) 0)

-- how many an answer asks for
abbrev pub calls_asked : FindMove → ℕ
calls_asked Wait = 0
calls_asked (Begin keys) = length keys
calls_asked (Ask late) = length late
calls_asked (Listing items) = 0
calls_asked (Restart key floor) = 0
calls_asked TooMany = 0
calls_asked Torn = 0
calls_asked Ignored = 0

-- ---- what its calls promise

-- What a partition found was offered to a search, which takes it as the search does. Once the search has ended it
-- ignores it, and nothing changes. What it asks for, and may ask for after it, is no more than what it might before.
pub record TakesFound (partition : ℕ) (found : Findings) (old : TagSearch) (reader : Reader) (move : FindMove)
    (new : TagSearch) (after : Reader) : Type 0 where
  pub takes : (setup : Setup) (tag : Tag) (taken : List Message) (message : Message) → StandsFor setup tag old reader taken
      → IsTold partition found message → TakesFind setup tag taken message move new after
  pub ended : old.has_ended ≡ true → (move ≡ Ignored) × (new ≡ old) × (after ≡ reader)
  pub few : calls_asked move + calls_left new after ≤ calls_left old reader

-- So is the reply to the GET of a key in round 1 or 2; in any other round it is ignored.
pub record FindsInRound (key : Key) (round : ℕ) (reply : ReadReply) (old : TagSearch) (reader : Reader) (move : FindMove)
    (new : TagSearch) (after : Reader) : Type 0 where
  pub first : (setup : Setup) (tag : Tag) (taken : List Message) (message : Message) → round ≡ 1
      → StandsFor setup tag old reader taken → IsFirst key reply message → TakesFind setup tag taken message move new after
  pub second : (setup : Setup) (tag : Tag) (taken : List Message) (message : Message) → round ≡ 2
      → StandsFor setup tag old reader taken → IsSecond (all_keys_found taken) taken key reply message
      → TakesFind setup tag taken message move new after
  pub no_round : round ≢ 1 → round ≢ 2 → (move ≡ Ignored) × (new ≡ old) × (after ≡ reader)
  pub ended : old.has_ended ≡ true → (move ≡ Ignored) × (new ≡ old) × (after ≡ reader)
  pub few : calls_asked move + calls_left new after ≤ calls_left old reader
