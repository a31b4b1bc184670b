-- What a partition answers rests on the calls that were delivered to it and on the collections made there.
use Rattle.std.specs.Prelude.{◌≡◌, ℕ, List, [], ◌∷◌, ◌++◌, ◌==◌, cond, length, Option, Some, None, All}
use Rattle.plain_store.specs.Words.{◌∈◌, Call, Prepare, Collect, FullSlots, FullItems, NoSlot, NoItem, Reply}
use Rattle.plain_store.specs.Words.{ToPrepare, ToCollect, Act, Deliver, CollectAt, Message, Answer, Replied, Ended}
use Rattle.plain_store.specs.Words.{Freed, Setup, IsAct}
use Rattle.plain_store.specs.Log.{Log, kept, items}
use Rattle.plain_store.specs.Replies.{reply_after, log_of, reply_to}
use Rattle.plain_store.specs.History.{History, message_at, keep_in, log_at}
use Rattle.plain_store.specs.Run.{run}
use Rattle.plain_store.specs.Told.{delivered}

-- the call of a message that goes to the partition
abbrev pub call_to : ℕ → Option Message → List Call
call_to partition None = []
call_to partition (Some message) = cond (message.partition == partition) (message.call ∷ []) []

-- the call that a step brought to a partition: one that was delivered there and answered, or a collection made there
abbrev pub call_brought : Setup → ℕ → History → Act → Answer → List Call
call_brought setup partition older (Deliver row) (Replied at reply) = call_to partition (message_at older row)
call_brought setup partition older (CollectAt p) (Freed count) =
    cond (p == partition) (Collect (keep_in setup older) ∷ []) []
call_brought setup partition older act answer = []

-- every call that came to a partition, newest first
abbrev pub calls_at : Setup → History → ℕ → List Call
calls_at setup [] partition = []
calls_at setup (m ∷ older) partition =
    call_brought setup partition older m.act m.answer ++ calls_at setup older partition

-- a run leaves each partition with the log that these calls make, so nothing else has a part in a log
abbrev pub LogsAreOfCalls : Setup → List Act → Type 0
LogsAreOfCalls setup steps =
    All IsAct steps → (partition : ℕ)
    → log_at setup (run setup [] steps) partition
    ≡ log_of setup.room (calls_at setup (run setup [] steps) partition)

-- the reply after the partition's own log, and so after the calls that came to it
abbrev pub IsReplyAt : Setup → History → ℕ → Call → Reply → Type 0
IsReplyAt setup history partition call reply =
    (reply ≡ reply_after setup.room (log_at setup history partition) call)
    × (reply ≡ reply_to setup.room (calls_at setup history partition) call)

-- a partition answers a call that is delivered to it, and a collection with what is in force, by its own log; nothing
-- is said of other answers
abbrev pub IsPartitionsAnswer : Setup → History → Act → Answer → Type 0
IsPartitionsAnswer setup history act (Replied row reply) =
    (message : Message) × (delivered history act ≡ Some message)
    × IsReplyAt setup history message.partition message.call reply
IsPartitionsAnswer setup history (CollectAt partition) (Freed count) =
    IsReplyAt setup history partition (Collect (keep_in setup history)) (ToCollect count)
IsPartitionsAnswer setup history act (Freed count) = ⊥
IsPartitionsAnswer setup history act answer = Unit {0}

-- a version is refused a slot only where the cell keeps as many versions as it has room for,
-- and an item only where it is new and the cell has as many as it has room for
abbrev pub IsRefusedByFull : Setup → Log → Call → Reply → Type 0
IsRefusedByFull setup log (Prepare version) (ToPrepare FullSlots) = length (kept log) ≡ setup.room.slots
IsRefusedByFull setup log (Prepare version) (ToPrepare FullItems) =
    (version.key ∈ items log → ⊥) × (length (items log) ≡ setup.room.items)
IsRefusedByFull setup log call (ToPrepare FullSlots) = ⊥
IsRefusedByFull setup log call (ToPrepare FullItems) = ⊥
IsRefusedByFull setup log call reply = Unit {0}

-- A write that ends so took that reply to one of its PREPAREs, which its partition gave when it was full.
pub record WasFull (setup : Setup) (history : History) (act : Act) (answer : Reply) : Type 0 where
  pub message : Message
  pub later : Log
  pub earlier : Log
  pub comes : delivered history act ≡ Some message
  -- the partition gave this reply, after the front of its log
  pub stands : log_at setup history message.partition
      ≡ later ++ record { call = message.call; reply = answer } ∷ earlier
  -- and was full then
  pub full : IsRefusedByFull setup earlier message.call answer

-- want of slots or of items is answered only for a cell that is full; nothing is said of other answers
abbrev pub IsFullAnswer : Setup → History → Act → Answer → Type 0
IsFullAnswer setup history act (Replied row reply) =
    (message : Message) × (delivered history act ≡ Some message)
    × IsRefusedByFull setup (log_at setup history message.partition) message.call reply
IsFullAnswer setup history act (Ended NoSlot rows) = WasFull setup history act (ToPrepare FullSlots)
IsFullAnswer setup history act (Ended NoItem rows) = WasFull setup history act (ToPrepare FullItems)
IsFullAnswer setup history act answer = Unit {0}
