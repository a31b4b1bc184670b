-- How calls, replies and what stands under a tag are packed, and what is read of them.
use Rattle.std.specs.Prelude.{◌<◌, ◌^◌, ◌==◌, ℕ, nat_lt, min, List, [], ◌∷◌, ◌++◌, length, Option, Some, None, if◌then◌else◌}
use Rattle.std.specs.List.{AllByRecursion}
use Rattle.std.specs.Int.{w64, to_le_bytes}
use Rattle.stamps.specs.Limits.{max_found}
use Rattle.stamps.specs.Bounds.{IsKeep}
use Rattle.stamps.specs.Stamp.{IsStamp}
use Rattle.stamps.specs.Key.{IsKey}
use Rattle.stamps.specs.Tag.{IsTag}
use Rattle.plain_store.specs.FoundKeys.{Findings, IsFound}
use Rattle.plain_store.specs.declared.calls.Call.{Call}
use Rattle.plain_store.specs.declared.calls.Call.TheVariants.{Prepare, Commit, Get, Found, Collect, Discard}
use Rattle.plain_store.specs.declared.calls.Reply.{Reply}
use Rattle.plain_store.specs.declared.calls.Reply.TheVariants.{Prepare as ToPrepare, Committed as ToCommit}
use Rattle.plain_store.specs.declared.calls.Reply.TheVariants.{Get as ToGet}
use Rattle.plain_store.specs.declared.calls.Reply.TheVariants.{Found as ToFound, Freed as ToCollect}
use Rattle.plain_store.specs.declared.calls.Reply.TheVariants.{Discard as ToDiscard}
use Rattle.plain_store.specs.declared.calls.PrepareReply.TheVariants.{Prepared, FullSlots, FullItems, Clash, Discarded}
use Rattle.plain_store.specs.declared.calls.ReadReply.TheVariants.{Version, Initial, Collected, Unknown}
use Rattle.plain_store.specs.declared.calls.DiscardReply.TheVariants.{Dropped, FullMarks}
use Rattle.packed.specs.Packing.{packed_number, packed_text, packed_keys, packed_record, IsStoreRecord}
use Rattle.packed.specs.Reading.{◌>>=◌, byte_at, count_at, stamp_at, key_at, tag_at, writes_at, record_at}

-- ==== packed

-- ---- what stands under a tag

-- the count, and the keys where there are some
abbrev pub packed_found : Findings → List ℕ
packed_found found = packed_number found.count ++ (if nat_lt 0 found.count then packed_keys found.keys else [])

-- what the findings of each partition meet
pub record IsStoreFound (found : Findings) : Type 0 where
  pub counted : found.count < 2 ^ 32
  pub told : IsFound found
  pub keys : AllByRecursion IsKey found.keys

-- ---- calls

-- a byte for the form, and its parts
abbrev pub packed_call : Call → List ℕ
packed_call (Prepare version) = 0 ∷ packed_record version
packed_call (Commit stamp) = 1 ∷ to_le_bytes w64 stamp
packed_call (Get key None) = 2 ∷ packed_text key
packed_call (Get key (Some stamp)) = 3 ∷ packed_text key ++ to_le_bytes w64 stamp
packed_call (Found tag) = 4 ∷ packed_text tag
packed_call (Collect keep) = 5 ∷ keep ∷ []
packed_call (Discard stamp) = 6 ∷ to_le_bytes w64 stamp

-- what each call of the store meets
abbrev pub IsStoreCall : Call → Type 0
IsStoreCall (Prepare version) = IsStoreRecord version
IsStoreCall (Commit stamp) = IsStamp stamp
IsStoreCall (Get key None) = IsKey key
IsStoreCall (Get key (Some stamp)) = IsKey key × IsStamp stamp
IsStoreCall (Found tag) = IsTag tag
IsStoreCall (Collect keep) = IsKeep keep
IsStoreCall (Discard stamp) = IsStamp stamp

-- ---- replies

-- a byte for the form, and its parts
abbrev pub packed_reply : Reply → List ℕ
packed_reply (ToPrepare Prepared) = 0 ∷ []
packed_reply (ToPrepare FullSlots) = 1 ∷ []
packed_reply (ToPrepare FullItems) = 2 ∷ []
packed_reply (ToPrepare Clash) = 3 ∷ []
packed_reply (ToPrepare Discarded) = 4 ∷ []
packed_reply (ToCommit count) = 5 ∷ packed_number count
packed_reply (ToGet (Version version)) = 6 ∷ packed_record version
packed_reply (ToGet Initial) = 7 ∷ []
packed_reply (ToGet (Collected floor)) = 8 ∷ to_le_bytes w64 floor
packed_reply (ToGet Unknown) = 9 ∷ []
packed_reply (ToFound found) = 10 ∷ packed_found found
packed_reply (ToCollect count) = 11 ∷ packed_number count
packed_reply (ToDiscard (Dropped count)) = 12 ∷ packed_number count
packed_reply (ToDiscard FullMarks) = 13 ∷ []

-- what each reply of the store meets
abbrev pub IsStoreReply : Reply → Type 0
IsStoreReply (ToPrepare reply) = Unit {0}
IsStoreReply (ToCommit count) = count < 2 ^ 32
IsStoreReply (ToGet (Version version)) = IsStoreRecord version
IsStoreReply (ToGet (Collected floor)) = IsStamp floor
IsStoreReply (ToGet reply) = Unit {0}
IsStoreReply (ToFound found) = IsStoreFound found
IsStoreReply (ToCollect count) = count < 2 ^ 32
IsStoreReply (ToDiscard (Dropped count)) = count < 2 ^ 32
IsStoreReply (ToDiscard reply) = Unit {0}

-- ==== read

-- ---- what stands under a tag

-- so many items, and the first of their keys: all of them, or `max_found`
abbrev pub found_from : ℕ → List (List ℕ) → Option Findings
found_from count keys =
    if length keys == min count max_found then Some (record { count = count; keys = keys }) else None

unfoldable pub some_found_at : ℕ → List ℕ → Option (Findings × List ℕ)
some_found_at count bytes = do
  keys ← writes_at bytes
  found ← found_from count keys.0
  Some (found, keys.1)

unfoldable pub found_at : List ℕ → Option (Findings × List ℕ)
found_at bytes = do
  count ← count_at bytes
  if count.0 == 0 then Some (record { count = 0; keys = [] }, count.1) else some_found_at count.0 count.1

-- ---- calls

unfoldable pub prepare_at : List ℕ → Option (Call × List ℕ)
prepare_at bytes = do
  version ← record_at bytes
  Some (Prepare version.0, version.1)

unfoldable pub commit_at : List ℕ → Option (Call × List ℕ)
commit_at bytes = do
  stamp ← stamp_at bytes
  Some (Commit stamp.0, stamp.1)

unfoldable pub get_at : List ℕ → Option (Call × List ℕ)
get_at bytes = do
  key ← key_at bytes
  Some (Get key.0 None, key.1)

unfoldable pub get_version_at : List ℕ → Option (Call × List ℕ)
get_version_at bytes = do
  key ← key_at bytes
  stamp ← stamp_at key.1
  Some (Get key.0 (Some stamp.0), stamp.1)

unfoldable pub find_at : List ℕ → Option (Call × List ℕ)
find_at bytes = do
  tag ← tag_at bytes
  Some (Found tag.0, tag.1)

unfoldable pub collect_at : List ℕ → Option (Call × List ℕ)
collect_at bytes = do
  keep ← byte_at bytes
  if keep.0 == 0 then None else Some (Collect keep.0, keep.1)

unfoldable pub discard_at : List ℕ → Option (Call × List ℕ)
discard_at bytes = do
  stamp ← stamp_at bytes
  Some (Discard stamp.0, stamp.1)

-- the parts of this form
unfoldable pub call_by : ℕ → List ℕ → Option (Call × List ℕ)
call_by form bytes =
    if form == 0 then prepare_at bytes
    else (if form == 1 then commit_at bytes
    else (if form == 2 then get_at bytes
    else (if form == 3 then get_version_at bytes
    else (if form == 4 then find_at bytes
    else (if form == 5 then collect_at bytes
    else (if form == 6 then discard_at bytes
    else None))))))

unfoldable pub call_at : List ℕ → Option (Call × List ℕ)
call_at bytes = do
  form ← byte_at bytes
  call_by form.0 form.1

-- ---- replies

unfoldable pub committed_at : List ℕ → Option (Reply × List ℕ)
committed_at bytes = do
  count ← count_at bytes
  Some (ToCommit count.0, count.1)

unfoldable pub version_at : List ℕ → Option (Reply × List ℕ)
version_at bytes = do
  version ← record_at bytes
  Some (ToGet (Version version.0), version.1)

unfoldable pub collected_at : List ℕ → Option (Reply × List ℕ)
collected_at bytes = do
  floor ← stamp_at bytes
  Some (ToGet (Collected floor.0), floor.1)

unfoldable pub told_at : List ℕ → Option (Reply × List ℕ)
told_at bytes = do
  found ← found_at bytes
  Some (ToFound found.0, found.1)

unfoldable pub freed_at : List ℕ → Option (Reply × List ℕ)
freed_at bytes = do
  count ← count_at bytes
  Some (ToCollect count.0, count.1)

unfoldable pub dropped_at : List ℕ → Option (Reply × List ℕ)
dropped_at bytes = do
  count ← count_at bytes
  Some (ToDiscard (Dropped count.0), count.1)

-- the form alone says what these are
abbrev pub plain_reply : ℕ → Option Reply
plain_reply form =
    if form == 0 then Some (ToPrepare Prepared)
    else (if form == 1 then Some (ToPrepare FullSlots)
    else (if form == 2 then Some (ToPrepare FullItems)
    else (if form == 3 then Some (ToPrepare Clash)
    else (if form == 4 then Some (ToPrepare Discarded)
    else (if form == 7 then Some (ToGet Initial)
    else (if form == 9 then Some (ToGet Unknown)
    else (if form == 13 then Some (ToDiscard FullMarks)
    else None)))))))

unfoldable pub plain_reply_by : ℕ → List ℕ → Option (Reply × List ℕ)
plain_reply_by form bytes = do
  reply ← plain_reply form
  Some (reply, bytes)

-- the parts of this form
unfoldable pub reply_by : ℕ → List ℕ → Option (Reply × List ℕ)
reply_by form bytes =
    if form == 5 then committed_at bytes
    else (if form == 6 then version_at bytes
    else (if form == 8 then collected_at bytes
    else (if form == 10 then told_at bytes
    else (if form == 11 then freed_at bytes
    else (if form == 12 then dropped_at bytes
    else plain_reply_by form bytes)))))

unfoldable pub reply_at : List ℕ → Option (Reply × List ℕ)
reply_at bytes = do
  form ← byte_at bytes
  reply_by form.0 form.1
