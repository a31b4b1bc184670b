-- What a transaction's machine does when a message is offered to it.
use Rattle.std.specs.Prelude.{◌≡◌, ◌+◌, ◌≤◌, List, false, length}
use Rattle.stamps.specs.declared.record.Item.{Item}
use Rattle.plain_store.specs.declared.message.Message.{Message}
use Rattle.plain_store.specs.Finding.{keys_found, count_found}
use Rattle.plain_store.specs.History.{Writes, Gets, Finds}
use Rattle.plain_store.specs.Words.{Key, Stamp, Tag, Setup}
use Rattle.put_all.specs.declared.writer.Writer.{Writer}
use Rattle.put_all.specs.declared.writer.WriteMove.{WriteMove}
use Rattle.put_all.specs.declared.writer.WriteMove.TheVariants.{Ignored as IgnoredWrite}
use Rattle.put_all.specs.Writer.{StandsFor as StandsForWrite, TakesWrite}
use Rattle.put_all.specs.Writer.{calls_left as write_left, calls_asked as write_asked}
use Rattle.get_all.specs.declared.reader.Reader.{Reader}
use Rattle.get_all.specs.declared.reader.ReadMoveKind.{ReadMoveKind}
use Rattle.get_all.specs.declared.reader.ReadMoveKind.TheVariants.{Ignored as IgnoredRead}
use Rattle.get_all.specs.Reader.{StandsFor as StandsForRead, TakesRead, told_by}
use Rattle.get_all.specs.Reader.{calls_left as read_left, calls_asked as read_asked}
use Rattle.get_all.specs.declared.tag_search.TagSearch.{TagSearch}
use Rattle.get_all.specs.declared.tag_search.FindMove.{FindMove}
use Rattle.get_all.specs.declared.tag_search.FindMove.TheVariants.{Ignored as IgnoredFind}
use Rattle.get_all.specs.TagSearch.{StandsFor as StandsForFind, TakesFind}
use Rattle.get_all.specs.TagSearch.{calls_left as find_left, calls_asked as find_asked}
use Rattle.tenant_sessions.specs.Running.{IsReplyTo, is_reply_of}
use Rattle.tenant_sessions.specs.Showing.{Offers, OffersWrite, Shows, found_move}

-- A writer ignores the message or takes its reply, whatever it is, and takes that to a call of the write as the write
-- does. A message whose reply is of another kind than its call is ignored, and nothing changes. What is asked for, and
-- may be asked for after it, is no more than what might be before.
pub record OffersToWriter (message : Message) (old : Writer) (answer : WriteMove) (new : Writer) : Type 0 where
  pub shown : (setup : Setup) (stamp : Stamp) (items : List Item) (taken : List Message)
      → StandsForWrite setup stamp items old taken → OffersWrite setup stamp items taken message answer new
  pub takes : (setup : Setup) (stamp : Stamp) (items : List Item) (taken : List Message)
      → StandsForWrite setup stamp items old taken → IsReplyTo setup (Writes stamp items) taken message
      → TakesWrite setup stamp items taken message answer new
  pub foreign : is_reply_of message.call message.reply ≡ false → (answer ≡ IgnoredWrite) × (new ≡ old)
  pub few : write_asked answer new + write_left new ≤ write_left old

-- so of a reader
pub record OffersToReader (message : Message) (old : Reader) (kind : ReadMoveKind) (new : Reader) : Type 0 where
  pub shown : (keys : List Key) (taken : List Message) → StandsForRead keys old taken
      → Offers keys taken message (told_by new kind) new
  pub takes : (setup : Setup) (keys : List Key) (taken : List Message) → StandsForRead keys old taken
      → IsReplyTo setup (Gets keys) taken message → TakesRead keys taken message (told_by new kind) new
  pub foreign : is_reply_of message.call message.reply ≡ false → (kind ≡ IgnoredRead) × (new ≡ old)
  pub few : read_asked (told_by new kind) + read_left new ≤ read_left old

-- and of a search with its reader, where a partition that reports what it found reports no more keys than it counts
pub record OffersToSearch (message : Message) (old : TagSearch) (reader : Reader) (answer : FindMove) (new : TagSearch)
    (after : Reader) : Type 0 where
  pub few : length (keys_found message.reply) ≤ count_found message.reply
  pub shown : (setup : Setup) (tag : Tag) (taken : List Message) → StandsForFind setup tag old reader taken
      → Shows setup (Finds tag) taken message (found_move answer) (StandsForFind setup tag new after)
  pub takes : (setup : Setup) (tag : Tag) (taken : List Message) → StandsForFind setup tag old reader taken
      → IsReplyTo setup (Finds tag) taken message → TakesFind setup tag taken message answer new after
  pub foreign : is_reply_of message.call message.reply ≡ false
      → (answer ≡ IgnoredFind) × (new ≡ old) × (after ≡ reader)
  pub calls : find_asked answer + find_left new after ≤ find_left old reader
