-- The calls of a transaction's parts.
use Rattle.std.specs.Prelude.{◌≡◌, ℕ, ◌==◌, List, AllPairs, Bool, true, false, bytes_eq, map, Some, None, slice_get}
use Rattle.std.specs.Option.{option_map_or}
use Rattle.stamps.specs.Key.{home_of}
use Rattle.stamps.specs.Record.{Record}
use Rattle.stamps.specs.declared.record.Item.{Item}
use Rattle.plain_store.specs.declared.calls.Call.{Call}
use Rattle.plain_store.specs.declared.calls.Call.TheVariants.{Prepare, Commit, Get, Found}
use Rattle.plain_store.specs.declared.message.Message.{Message}
use Rattle.plain_store.specs.Finding.{below}
use Rattle.plain_store.specs.Moves.{same_place}
use Rattle.plain_store.specs.Words.{Key, Stamp, Tag}
use Rattle.plain_store.specs.Writing.{Outgoing}
use Rattle.get_all.specs.declared.late.Late.{Late}
use Rattle.tenant_sessions.specs.declared.call_batch.BatchKind.{BatchKind}
use Rattle.tenant_sessions.specs.declared.call_batch.BatchKind.TheVariants.{Preparing, Committing, ReadingFirst}
use Rattle.tenant_sessions.specs.declared.call_batch.BatchKind.TheVariants.{ReadingSecond, Searching}

-- The calls that a transaction sends at once: PREPAREs of these records, COMMITs of this stamp at these partitions, GETs of
-- the latest versions of these keys, GETs of these late versions, or searches by this tag.
pub data BatchView : Type 0 where
  Prepares : List Record → BatchView
  Commits : Stamp → List ℕ → BatchView
  First : List Key → BatchView
  Second : List Late → BatchView
  Founds : Tag → BatchView

-- the part of this kind, of what lies in the places
abbrev pub batch_of : BatchKind → List Record → Stamp → List ℕ → List Key → List Late → Tag → BatchView
batch_of Preparing versions stamp partitions keys late tag = Prepares versions
batch_of Committing versions stamp partitions keys late tag = Commits stamp partitions
batch_of ReadingFirst versions stamp partitions keys late tag = First keys
batch_of ReadingSecond versions stamp partitions keys late tag = Second late
batch_of Searching versions stamp partitions keys late tag = Founds tag

-- the record of an item that is written under this stamp, with this write set
abbrev pub record_of : Stamp → List Key → Item → Record
record_of stamp writes item =
    record { key = item.key; tag = item.tag; value = item.value; stamp = stamp; writes = writes }

-- in a store of so many partitions
abbrev pub batch_calls : ℕ → BatchView → List Outgoing
batch_calls parts (Prepares versions) =
    map (λ version. record { partition = home_of version.key parts; call = Prepare version }) versions
batch_calls parts (Commits stamp partitions) =
    map (λ partition. record { partition = partition; call = Commit stamp }) partitions
batch_calls parts (First keys) = map (λ key. record { partition = home_of key parts; call = Get key None }) keys
batch_calls parts (Second late) =
    map (λ key. record { partition = home_of key.key parts; call = Get key.key (Some key.stamp) }) late
batch_calls parts (Founds tag) = map (λ partition. record { partition = partition; call = Found tag }) (below parts)

-- where the message's call goes
abbrev pub outgoing_of : Message → Outgoing
outgoing_of message = record { partition = message.partition; call = message.call }

-- whether the call prepares a record of the key
abbrev pub prepares : Key → Call → Bool
prepares key (Prepare version) = bytes_eq key version.key
prepares key call = false

-- whether it is a GET of the key's latest version
abbrev pub reads_first : Key → Call → Bool
reads_first key (Get other None) = bytes_eq key other
reads_first key call = false

-- whether it is a GET of some version of the key by its stamp
abbrev pub reads_second : Key → Call → Bool
reads_second key (Get other (Some stamp)) = bytes_eq key other
reads_second key call = false

-- whether a call to a partition is a COMMIT at this one
abbrev pub is_commit_at : ℕ → ℕ → Call → Bool
is_commit_at partition at (Commit stamp) = partition == at
is_commit_at partition at call = false

-- whether the message's call is a COMMIT at the partition
abbrev pub is_commit_message : ℕ → Message → Bool
is_commit_message partition message = is_commit_at partition message.partition message.call

-- whether a call to a partition is a search at this one
abbrev pub is_search_at : ℕ → ℕ → Call → Bool
is_search_at partition at (Found tag) = partition == at
is_search_at partition at call = false

-- whether it is a search at the partition
abbrev pub searches : ℕ → Message → Bool
searches partition message = is_search_at partition message.partition message.call

-- whether a reply to the message's call takes the place of this call's
abbrev pub is_replaced_by : Message → Outgoing → Bool
is_replaced_by message out = same_place out.partition out.call message.partition message.call

-- the same of the call at a place of a list, if there is one
abbrev pub is_answered_at : List Outgoing → Message → ℕ → Bool
is_answered_at calls message place = option_map_or (is_replaced_by message) (slice_get calls place) false

-- whatever a message is, its reply takes the place of one call of a list at most
abbrev pub AreApart : List Outgoing → Type 0
AreApart calls =
    (message : Message) (i j : ℕ) → is_answered_at calls message i ≡ true → is_answered_at calls message j ≡ true → i ≡ j

-- the message's reply takes the place of the call at one of these places at most
abbrev pub AnswersOne : List Outgoing → Message → List ℕ → Type 0
AnswersOne calls message =
    AllPairs (λ i j. is_answered_at calls message i ≡ true → is_answered_at calls message j ≡ false)
