-- What a write answers to a reply, after the replies that it took.
use Rattle.std.specs.Prelude.{◌≡◌, ℕ, List, [], ◌∷◌, ◌++◌, Bool, true, false, ◌&&◌, ◌||◌, nat_eq, cond, not, Option}
use Rattle.std.specs.Prelude.{Some, None}
use Rattle.std.specs.List.{list_any}
use Rattle.stamps.specs.WriteSet.{contains_key}
use Rattle.stamps.specs.Record.{Record}
use Rattle.stamps.specs.declared.record.Item.{Item}
use Rattle.plain_store.specs.declared.calls.Call.{Call}
use Rattle.plain_store.specs.declared.calls.Call.TheVariants.{Prepare, Commit}
use Rattle.plain_store.specs.declared.calls.PrepareReply.{PrepareReply}
use Rattle.plain_store.specs.declared.calls.PrepareReply.TheVariants.{FullSlots, FullItems, Clash, Discarded}
use Rattle.plain_store.specs.declared.calls.Reply.{Reply}
use Rattle.plain_store.specs.declared.calls.Reply.TheVariants.{Prepare as ToPrepare, Committed as ToCommit}
use Rattle.plain_store.specs.declared.message.Message.{Message}
use Rattle.plain_store.specs.Words.{Key, Stamp, Setup}
use Rattle.plain_store.specs.Writing.{keys_written, partitions_written, all_prepared, all_committed}
use Rattle.plain_store.specs.Moves.{Move, write_move, is_answered}

-- whether the message says that a PREPARE was refused
abbrev pub says_refused : Call → Option Reply → Bool
says_refused (Prepare version) (Some (ToPrepare FullSlots)) = true
says_refused (Prepare version) (Some (ToPrepare FullItems)) = true
says_refused (Prepare version) (Some (ToPrepare Clash)) = true
says_refused (Prepare version) (Some (ToPrepare Discarded)) = true
says_refused call reply = false

abbrev pub any_refused : List Message → Bool
any_refused taken = list_any (λ message. says_refused message.call message.reply) taken

-- whether the write has ended: a PREPARE was refused, or all COMMITs were answered
abbrev pub has_ended : Setup → Stamp → List Item → List Message → Bool
has_ended setup stamp items taken = any_refused taken || all_committed setup stamp items taken

-- whether the call is one of the write's: of one of its items, or once it is decided of one of their partitions
abbrev pub is_of_write : Setup → Stamp → List Item → List Message → ℕ → Call → Bool
is_of_write setup stamp items taken partition (Prepare version) = contains_key (keys_written items) version.key
is_of_write setup stamp items taken partition (Commit s) =
    all_prepared stamp items taken && list_any (λ p. nat_eq p partition) (partitions_written setup items)
is_of_write setup stamp items taken partition call = false

-- the first reply to each call of a write that has not ended
abbrev pub is_wanted : Setup → Stamp → List Item → List Message → ℕ → Call → Bool
is_wanted setup stamp items taken partition call =
    not (has_ended setup stamp items taken)
    && (is_of_write setup stamp items taken partition call && not (is_answered taken partition call))

-- what the write does once the message is offered to it; None where it is ignored
abbrev pub write_answer : Setup → Stamp → List Item → List Message → Message → Option Move
write_answer setup stamp items taken message =
    cond (is_wanted setup stamp items taken message.partition message.call)
    (Some (write_move setup stamp items (taken ++ message ∷ []) message.call message.reply)) None

-- the replies that were then taken, in order
abbrev pub taken_with : Setup → Stamp → List Item → List Message → Message → List Message
taken_with setup stamp items taken message =
    cond (is_wanted setup stamp items taken message.partition message.call) (taken ++ message ∷ []) taken

-- the message is this reply to the PREPARE of the key
pub record IsPrepared (stamp : Stamp) (key : Key) (reply : PrepareReply) (message : Message) : Type 0 where
  pub version : Record
  pub call : message.call ≡ Prepare version
  pub of_key : version.key ≡ key
  pub of_stamp : version.stamp ≡ stamp
  pub replied : message.reply ≡ Some (ToPrepare reply)

-- the message is a reply to the COMMIT at the partition
pub record IsCommitted (stamp : Stamp) (partition : ℕ) (message : Message) : Type 0 where
  pub count : ℕ
  pub call : message.call ≡ Commit stamp
  pub at : message.partition ≡ partition
  pub replied : message.reply ≡ Some (ToCommit count)
