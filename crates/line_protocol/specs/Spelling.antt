-- The grammar of lines: how the store's values, a cell's calls and its replies are spelled. Keys, tags and
-- values are spelled as they are, and numbers by their decimal digits.
use Rattle.std.specs.Prelude.{ℕ, ◌<◌, List, [], ◌∷◌, ◌++◌, length, Some, None, decimal, codes}
use Rattle.std.specs.List.{flat_map, join_with_byte, AllByRecursion}
use Rattle.stamps.specs.Bounds.{IsKeep}
use Rattle.stamps.specs.Stamp.{counter_of, client_of, IsStamp}
use Rattle.stamps.specs.Key.{IsKey}
use Rattle.stamps.specs.Tag.{IsTag}
use Rattle.stamps.specs.Value.{IsValue}
use Rattle.stamps.specs.WriteSet.{IsWriteSet}
use Rattle.stamps.specs.Record.{Record, IsRecord}
use Rattle.plain_store.specs.declared.calls.Call.{Call}
use Rattle.plain_store.specs.declared.calls.Call.TheVariants.{Prepare, Commit, Get, Found, Collect, Discard}
use Rattle.plain_store.specs.declared.calls.PrepareReply.{PrepareReply}
use Rattle.plain_store.specs.declared.calls.PrepareReply.TheVariants.{Prepared, FullSlots, FullItems, Clash}
use Rattle.plain_store.specs.declared.calls.PrepareReply.TheVariants.{Discarded}
use Rattle.plain_store.specs.declared.calls.DiscardReply.{DiscardReply}
use Rattle.plain_store.specs.declared.calls.DiscardReply.TheVariants.{Dropped, FullMarks}
use Rattle.plain_store.specs.declared.calls.ReadReply.{ReadReply}
use Rattle.plain_store.specs.declared.calls.ReadReply.TheVariants.{Version, Initial, Collected, Unknown}
use Rattle.plain_store.specs.declared.calls.Reply.{Reply}
use Rattle.plain_store.specs.declared.calls.Reply.TheVariants.{Prepare as ToPrepare, Committed as ToCommit}
use Rattle.plain_store.specs.declared.calls.Reply.TheVariants.{Get as ToGet, Found as ToFound, Freed as ToCollect}
use Rattle.plain_store.specs.declared.calls.Reply.TheVariants.{Discard as ToDiscard}
use Rattle.plain_store.specs.declared.refusal.Refusal.TheVariants.{FullSlots as NoSlot, FullItems as NoItem}
use Rattle.plain_store.specs.declared.refusal.Refusal.TheVariants.{Clash as Clashed, Unknown as NoVersion}
use Rattle.plain_store.specs.declared.refusal.Refusal.TheVariants.{FullMarks as NoMark, Discarded as WasDiscarded}
use Rattle.plain_store.specs.Numbers.{number_of}
use Rattle.line_protocol.specs.Stream.{terminated}

-- ---- the bytes that part one thing from the next

abbrev pub space : ℕ
space = 32

-- `#`
abbrev pub hash : ℕ
hash = 35

-- `,`
abbrev pub comma : ℕ
comma = 44

-- `.`
abbrev pub dot : ℕ
dot = 46

-- `=`
abbrev pub equals : ℕ
equals = 61

-- `@`
abbrev pub at_sign : ℕ
at_sign = 64

-- ---- values

-- a key, a tag and a value are spelled as they are
abbrev pub same_text : List ℕ → List ℕ
same_text text = text

-- COUNTER.CLIENT, and `0.0` for the stamp of initial versions
abbrev pub stamp_text : ℕ → List ℕ
stamp_text stamp = decimal (counter_of stamp) ++ dot ∷ decimal (client_of stamp)

-- #TAG, and nothing for the empty tag
abbrev pub tag_text : List ℕ → List ℕ
tag_text [] = []
tag_text (byte ∷ bytes) = hash ∷ byte ∷ bytes

-- KEY@STAMP, or KEY@STAMP#TAG
abbrev pub version_text : Record → List ℕ
version_text r = r.key ++ at_sign ∷ (stamp_text r.stamp ++ tag_text r.tag)

-- RECORD: that, and =VALUE
abbrev pub record_text : Record → List ℕ
record_text r = version_text r ++ equals ∷ r.value

-- KEYS, separated by commas
abbrev pub keys_text : List (List ℕ) → List ℕ
keys_text = join_with_byte comma

-- ---- what a cell is asked

-- the line that asks for a call
abbrev pub line_of : Call → List ℕ
line_of (Prepare r) = codes "prepare " ++ (record_text r ++ space ∷ keys_text r.writes)
line_of (Commit stamp) = codes "commit " ++ stamp_text stamp
line_of (Get key None) = codes "get " ++ key
line_of (Get key (Some stamp)) = codes "get " ++ (key ++ space ∷ stamp_text stamp)
line_of (Found tag) = codes "found " ++ tag
line_of (Collect keep) = codes "collect " ++ decimal keep
line_of (Discard stamp) = codes "discard " ++ stamp_text stamp

-- a record whose parts are what their types say: its stamp is not `0.0`, and its key is one of its keys
pub record HasRecordText (r : Record) : Type 0 where
  pub key : IsKey r.key
  pub tag : IsTag r.tag
  pub value : IsValue r.value
  pub stamp : IsStamp r.stamp
  pub keys : AllByRecursion IsKey r.writes
  pub writes : IsWriteSet r.writes
  pub whole : IsRecord r

-- the calls that a line asks for; no line names the empty tag
abbrev pub HasLine : Call → Type 0
HasLine (Prepare r) = HasRecordText r
HasLine (Commit stamp) = IsStamp stamp × (0 < stamp)
HasLine (Get key None) = IsKey key
HasLine (Get key (Some stamp)) = IsKey key × IsStamp stamp
HasLine (Found tag) = IsTag tag × (0 < length tag)
HasLine (Collect keep) = IsKeep keep
HasLine (Discard stamp) = IsStamp stamp

-- ---- what a cell replies

abbrev pub refused_text : ℕ → List ℕ
refused_text number = codes "refused " ++ decimal number

abbrev pub prepare_text : PrepareReply → List ℕ
prepare_text Prepared = codes "prepared"
prepare_text FullSlots = refused_text (number_of NoSlot)
prepare_text FullItems = refused_text (number_of NoItem)
prepare_text Clash = refused_text (number_of Clashed)
prepare_text Discarded = refused_text (number_of WasDiscarded)

abbrev pub read_text : ReadReply → List ℕ
read_text (Version r) = codes "version " ++ record_text r ++ codes " writes " ++ keys_text r.writes
read_text Initial = codes "initial"
read_text (Collected floor) = codes "collected " ++ stamp_text floor
read_text Unknown = refused_text (number_of NoVersion)

abbrev pub discard_text : DiscardReply → List ℕ
discard_text (Dropped count) = codes "dropped " ++ decimal count
discard_text FullMarks = refused_text (number_of NoMark)

-- each key after a space
abbrev pub found_keys_text : List (List ℕ) → List ℕ
found_keys_text = flat_map (λ key. space ∷ key)

abbrev pub reply_text : Reply → List ℕ
reply_text (ToPrepare reply) = prepare_text reply
reply_text (ToCommit count) = codes "committed " ++ decimal count
reply_text (ToGet reply) = read_text reply
reply_text (ToFound found) = codes "found " ++ decimal found.count ++ found_keys_text found.keys
reply_text (ToCollect count) = codes "freed " ++ decimal count
reply_text (ToDiscard reply) = discard_text reply

-- a reply as it stands on the stream
abbrev pub reply_line : Reply → List ℕ
reply_line reply = terminated (reply_text reply)
