-- How answers are packed, and what is read of them.
use Rattle.std.specs.Prelude.{◌<◌, ◌≤◌, ◌^◌, ◌==◌, ℕ, nat_lt, List, [], ◌∷◌, ◌++◌, length}
use Rattle.std.specs.Prelude.{Option, Some, None, if◌then◌else◌}
use Rattle.std.specs.List.{AllByRecursion}
use Rattle.std.specs.Int.{w64, to_le_bytes}
use Rattle.stamps.specs.Limits.{max_keys}
use Rattle.stamps.specs.Bounds.{IsCounter, IsKeep}
use Rattle.stamps.specs.Stamp.{IsStamp}
use Rattle.stamps.specs.Key.{IsKey}
use Rattle.plain_store.specs.Numbers.{number_of, refusal_of}
use Rattle.plain_store.specs.declared.reading.Reading.{Reading}
use Rattle.plain_store.specs.declared.refusal.Refusal.{Refusal}
use Rattle.plain_store.specs.declared.answer.Rows.{Rows}
use Rattle.plain_store.specs.declared.answer.Answer.{Answer}
use Rattle.plain_store.specs.declared.answer.Answer.TheVariants.{Refused, Ready, PutBegun, GetBegun, FindBegun}
use Rattle.plain_store.specs.declared.answer.Answer.TheVariants.{Replied, Ignored, Wait, Decided, Done, Ask}
use Rattle.plain_store.specs.declared.answer.Answer.TheVariants.{BeginsRead, Read, Listed, Restart, Ended, Lost}
use Rattle.plain_store.specs.declared.answer.Answer.TheVariants.{Stopped, Sent, Freed, Keeps}
use Rattle.packed.specs.Packing.{packed_number, packed_text}
use Rattle.packed_steps.specs.PackedCalls.{packed_reply, IsStoreReply}
use Rattle.packed.specs.Reading.{◌>>=◌, byte_at, number_at, count_at, stamp_at, key_at}
use Rattle.packed_steps.specs.PackedCalls.{reply_at}
use Rattle.packed_steps.specs.Lists.{packed_list, many_at}
use Rattle.packed_steps.specs.PackedActs.{packed_item, IsStoreItem, item_at, counter_at, keep_at}

-- ---- rows, refusals and readings

-- the first and the last
abbrev pub packed_rows : Rows → List ℕ
packed_rows rows = packed_number rows.first ++ packed_number rows.last

pub record AreStoreRows (rows : Rows) : Type 0 where
  pub first : rows.first < 2 ^ 64
  pub last : rows.last < 2 ^ 64

unfoldable pub rows_at : List ℕ → Option (Rows × List ℕ)
rows_at bytes = do
  first ← number_at bytes
  last ← number_at first.1
  Some (record { first = first.0; last = last.0 }, last.1)

unfoldable pub refusal_at : List ℕ → Option (Refusal × List ℕ)
refusal_at bytes = do
  n ← byte_at bytes
  refusal ← refusal_of n.0
  Some (refusal, n.1)

-- the item, and the stamp in 8 bytes
abbrev pub packed_reading : Reading → List ℕ
packed_reading r = packed_item r.item ++ to_le_bytes w64 r.stamp

pub record IsStoreReading (r : Reading) : Type 0 where
  pub item : IsStoreItem r.item
  pub stamp : IsStamp r.stamp

pub record AreStoreReadings (readings : List Reading) : Type 0 where
  pub few : length readings ≤ max_keys
  pub each : AllByRecursion IsStoreReading readings

unfoldable pub reading_at : List ℕ → Option (Reading × List ℕ)
reading_at bytes = do
  item ← item_at bytes
  stamp ← stamp_at item.1
  Some (record { item = item.0; stamp = stamp.0 }, stamp.1)

-- at most `max_keys`
unfoldable pub readings_at : List ℕ → Option (List Reading × List ℕ)
readings_at bytes = do
  count ← number_at bytes
  if nat_lt max_keys count.0 then None else many_at reading_at count.0 count.1

-- ---- answers

-- a byte for the form, and its parts
abbrev pub packed_answer : Answer → List ℕ
packed_answer (Refused refusal) = 0 ∷ number_of refusal ∷ []
packed_answer (Ready counter) = 1 ∷ packed_number counter
packed_answer (PutBegun stamp rows) = 2 ∷ to_le_bytes w64 stamp ++ packed_rows rows
packed_answer (GetBegun rows) = 3 ∷ packed_rows rows
packed_answer (FindBegun rows) = 4 ∷ packed_rows rows
packed_answer (Replied row reply) = 5 ∷ packed_number row ++ packed_reply reply
packed_answer Ignored = 6 ∷ []
packed_answer Wait = 7 ∷ []
packed_answer (Decided stamp rows) = 8 ∷ to_le_bytes w64 stamp ++ packed_rows rows
packed_answer (Done stamp) = 9 ∷ to_le_bytes w64 stamp
packed_answer (Ask rows) = 10 ∷ packed_rows rows
packed_answer (BeginsRead rows) = 11 ∷ packed_rows rows
packed_answer (Read readings) = 12 ∷ packed_list packed_reading readings
packed_answer (Listed readings) = 13 ∷ packed_list packed_reading readings
packed_answer (Restart key floor) = 14 ∷ packed_text key ++ to_le_bytes w64 floor
packed_answer (Ended refusal None) = 15 ∷ number_of refusal ∷ []
packed_answer (Ended refusal (Some rows)) = 16 ∷ number_of refusal ∷ packed_rows rows
packed_answer Lost = 17 ∷ []
packed_answer Stopped = 18 ∷ []
packed_answer (Sent None) = 19 ∷ []
packed_answer (Sent (Some rows)) = 20 ∷ packed_rows rows
packed_answer (Freed count) = 21 ∷ packed_number count
packed_answer (Keeps keep) = 22 ∷ keep ∷ []

-- what each answer of the store meets
abbrev pub IsStoreAnswer : Answer → Type 0
IsStoreAnswer (Refused refusal) = Unit {0}
IsStoreAnswer (Ready counter) = IsCounter counter
IsStoreAnswer (PutBegun stamp rows) = IsStamp stamp × AreStoreRows rows
IsStoreAnswer (GetBegun rows) = AreStoreRows rows
IsStoreAnswer (FindBegun rows) = AreStoreRows rows
IsStoreAnswer (Replied row reply) = (row < 2 ^ 64) × IsStoreReply reply
IsStoreAnswer Ignored = Unit {0}
IsStoreAnswer Wait = Unit {0}
IsStoreAnswer (Decided stamp rows) = IsStamp stamp × AreStoreRows rows
IsStoreAnswer (Done stamp) = IsStamp stamp
IsStoreAnswer (Ask rows) = AreStoreRows rows
IsStoreAnswer (BeginsRead rows) = AreStoreRows rows
IsStoreAnswer (Read readings) = AreStoreReadings readings
IsStoreAnswer (Listed readings) = AreStoreReadings readings
IsStoreAnswer (Restart key floor) = IsKey key × IsStamp floor
IsStoreAnswer (Ended refusal None) = Unit {0}
IsStoreAnswer (Ended refusal (Some rows)) = AreStoreRows rows
IsStoreAnswer Lost = Unit {0}
IsStoreAnswer Stopped = Unit {0}
IsStoreAnswer (Sent None) = Unit {0}
IsStoreAnswer (Sent (Some rows)) = AreStoreRows rows
IsStoreAnswer (Freed count) = count < 2 ^ 32
IsStoreAnswer (Keeps keep) = IsKeep keep

-- ---- what is read of answers

unfoldable pub refused_at : List ℕ → Option (Answer × List ℕ)
refused_at bytes = do
  refusal ← refusal_at bytes
  Some (Refused refusal.0, refusal.1)

unfoldable pub ready_at : List ℕ → Option (Answer × List ℕ)
ready_at bytes = do
  counter ← counter_at bytes
  Some (Ready counter.0, counter.1)

unfoldable pub put_begun_at : List ℕ → Option (Answer × List ℕ)
put_begun_at bytes = do
  stamp ← stamp_at bytes
  rows ← rows_at stamp.1
  Some (PutBegun stamp.0 rows.0, rows.1)

unfoldable pub decided_at : List ℕ → Option (Answer × List ℕ)
decided_at bytes = do
  stamp ← stamp_at bytes
  rows ← rows_at stamp.1
  Some (Decided stamp.0 rows.0, rows.1)

unfoldable pub replied_at : List ℕ → Option (Answer × List ℕ)
replied_at bytes = do
  row ← number_at bytes
  reply ← reply_at row.1
  Some (Replied row.0 reply.0, reply.1)

unfoldable pub done_at : List ℕ → Option (Answer × List ℕ)
done_at bytes = do
  stamp ← stamp_at bytes
  Some (Done stamp.0, stamp.1)

unfoldable pub read_at : List ℕ → Option (Answer × List ℕ)
read_at bytes = do
  readings ← readings_at bytes
  Some (Read readings.0, readings.1)

unfoldable pub listed_at : List ℕ → Option (Answer × List ℕ)
listed_at bytes = do
  readings ← readings_at bytes
  Some (Listed readings.0, readings.1)

unfoldable pub restart_at : List ℕ → Option (Answer × List ℕ)
restart_at bytes = do
  key ← key_at bytes
  floor ← stamp_at key.1
  Some (Restart key.0 floor.0, floor.1)

unfoldable pub ended_at : List ℕ → Option (Answer × List ℕ)
ended_at bytes = do
  refusal ← refusal_at bytes
  Some (Ended refusal.0 None, refusal.1)

unfoldable pub ended_with_at : List ℕ → Option (Answer × List ℕ)
ended_with_at bytes = do
  refusal ← refusal_at bytes
  rows ← rows_at refusal.1
  Some (Ended refusal.0 (Some rows.0), rows.1)

unfoldable pub freed_answer_at : List ℕ → Option (Answer × List ℕ)
freed_answer_at bytes = do
  count ← count_at bytes
  Some (Freed count.0, count.1)

unfoldable pub keeps_at : List ℕ → Option (Answer × List ℕ)
keeps_at bytes = do
  keep ← keep_at bytes
  Some (Keeps keep.0, keep.1)

unfoldable pub get_begun_at : List ℕ → Option (Answer × List ℕ)
get_begun_at bytes = do
  rows ← rows_at bytes
  Some (GetBegun rows.0, rows.1)

unfoldable pub find_begun_at : List ℕ → Option (Answer × List ℕ)
find_begun_at bytes = do
  rows ← rows_at bytes
  Some (FindBegun rows.0, rows.1)

unfoldable pub ask_at : List ℕ → Option (Answer × List ℕ)
ask_at bytes = do
  rows ← rows_at bytes
  Some (Ask rows.0, rows.1)

unfoldable pub begins_read_at : List ℕ → Option (Answer × List ℕ)
begins_read_at bytes = do
  rows ← rows_at bytes
  Some (BeginsRead rows.0, rows.1)

unfoldable pub sent_at : List ℕ → Option (Answer × List ℕ)
sent_at bytes = do
  rows ← rows_at bytes
  Some (Sent (Some rows.0), rows.1)

-- the form alone says what these are
abbrev pub plain_answer : ℕ → Option Answer
plain_answer form =
    if form == 6 then Some Ignored
    else (if form == 7 then Some Wait
    else (if form == 17 then Some Lost
    else (if form == 18 then Some Stopped
    else (if form == 19 then Some (Sent None)
    else None))))

unfoldable pub plain_answer_by : ℕ → List ℕ → Option (Answer × List ℕ)
plain_answer_by form bytes = do
  answer ← plain_answer form
  Some (answer, bytes)

-- the parts of a form whose parts are rows alone, or of one that has none
unfoldable pub rows_answer_by : ℕ → List ℕ → Option (Answer × List ℕ)
rows_answer_by form bytes =
    if form == 3 then get_begun_at bytes
    else (if form == 4 then find_begun_at bytes
    else (if form == 10 then ask_at bytes
    else (if form == 11 then begins_read_at bytes
    else (if form == 20 then sent_at bytes
    else plain_answer_by form bytes))))

-- the parts of a form that ends no operation
unfoldable pub other_answer_by : ℕ → List ℕ → Option (Answer × List ℕ)
other_answer_by form bytes =
    if form == 1 then ready_at bytes
    else (if form == 2 then put_begun_at bytes
    else (if form == 5 then replied_at bytes
    else (if form == 8 then decided_at bytes
    else (if form == 21 then freed_answer_at bytes
    else (if form == 22 then keeps_at bytes
    else rows_answer_by form bytes)))))

-- the parts of this form
unfoldable pub answer_by : ℕ → List ℕ → Option (Answer × List ℕ)
answer_by form bytes =
    if form == 0 then refused_at bytes
    else (if form == 9 then done_at bytes
    else (if form == 12 then read_at bytes
    else (if form == 13 then listed_at bytes
    else (if form == 14 then restart_at bytes
    else (if form == 15 then ended_at bytes
    else (if form == 16 then ended_with_at bytes
    else other_answer_by form bytes))))))

unfoldable pub answer_at : List ℕ → Option (Answer × List ℕ)
answer_at bytes = do
  form ← byte_at bytes
  answer_by form.0 form.1
