-- What a reader gets rests on the replies that it took, and on nothing else of the run.
use Rattle.std.specs.Prelude.{◌≡◌, ℕ, List, [], ◌∷◌, ◌++◌, true, Option, Some, None}
use Rattle.plain_store.specs.Words.{◌∈◌, Key, Call, Reply, Act, Deliver, Message, Reading, Answer, Ignored, Read}
use Rattle.plain_store.specs.Words.{Listed, Restart, Setup}
use Rattle.plain_store.specs.Log.{Log}
use Rattle.plain_store.specs.Replies.{reply_after}
use Rattle.plain_store.specs.History.{History, message_at, log_at, Intent, Writes, Gets, Finds, Transaction}
use Rattle.plain_store.specs.History.{taken_in, running}
use Rattle.plain_store.specs.Rounds.{round_one_complete, round_two_complete, readings}
use Rattle.plain_store.specs.Moves.{Move, Reads, Lists, Restarts, move_of, is_answered}
use Rattle.plain_store.specs.Laws.{receiver, IsGettersCall, IsFindersCall}

-- the message that a step delivers
abbrev pub delivered : History → Act → Option Message
delivered history (Deliver row) = message_at history row
delivered history act = None

-- the replies that a transaction took, in the order of their delivery, and the one that it takes now
abbrev pub replies_with : History → Transaction → Message → List Message
replies_with history transaction message = taken_in history transaction ++ message ∷ []

-- a call of a reader, which is a get or a search
abbrev pub IsReadersCall : Setup → Intent → ℕ → Call → Type 0
IsReadersCall setup (Writes stamp items) partition call = ⊥
IsReadersCall setup (Gets keys) partition call = IsGettersCall setup keys partition call
IsReadersCall setup (Finds tag) partition call = IsFindersCall setup tag partition call

-- The message carries the reply that its partition gives after the front of its log before the call.
pub record IsPartitionsReply (setup : Setup) (history : History) (message : Message) : Type 0 where
  pub reply : Reply
  pub later : Log
  pub earlier : Log
  pub carries : message.reply ≡ Some reply
  pub stands : log_at setup history message.partition ≡ later ++ record { call = message.call; reply = reply } ∷ earlier
  pub answers : reply ≡ reply_after setup.room earlier message.call

-- A reader's move is the one that the definition of reading gives for the replies that it took, in the order of their
-- delivery. Each of these answers a call of its own, and is the reply of the partition that was asked.
pub record MovesBy (setup : Setup) (history : History) (act : Act) (move : Move) : Type 0 where
  -- who reads, and the reply that comes now
  pub reader : Transaction
  pub last : Message
  pub runs : receiver history act ≡ Some reader
  pub comes : delivered history act ≡ Some last
  -- its move over all that it took
  pub moves : move_of setup reader.request (replies_with history reader last) last ≡ move
  -- each of these is to a call of its own, and its partition's
  pub asked : (message : Message) → message ∈ replies_with history reader last
      → IsReadersCall setup reader.request message.partition message.call
  pub replied : (message : Message) → message ∈ replies_with history reader last
      → IsPartitionsReply setup history message

-- both rounds of the reading are complete, and what is read is what the replies show of each key
abbrev pub AreReadings : List Key → List Message → List Reading → Type 0
AreReadings keys replies told =
    (round_one_complete keys replies ≡ true) × (round_two_complete keys replies ≡ true)
    × (told ≡ readings keys replies)

-- what a Get reads, what a search lists and where a reader restarts rests on these replies alone;
-- nothing is said of other answers
abbrev pub IsToldAnswer : Setup → History → Act → Answer → Type 0
IsToldAnswer setup history act (Read told) =
    (by : MovesBy setup history act (Reads told)) × (keys : List Key) × (by.reader.request ≡ Gets keys)
    × AreReadings keys (replies_with history by.reader by.last) told
IsToldAnswer setup history act (Listed told) = MovesBy setup history act (Lists told)
IsToldAnswer setup history act (Restart key bound) = MovesBy setup history act (Restarts key bound)
IsToldAnswer setup history act answer = Unit {0}

-- a reply is ignored only where its transaction does not run, or took a reply in its place before;
-- nothing is said of other answers
abbrev pub IsIgnoredAnswer : History → Act → Answer → Type 0
IsIgnoredAnswer history act Ignored =
    (message : Message) × (delivered history act ≡ Some message)
    × ((transaction : Transaction) → running history message.client ≡ Some transaction
    → message.ticket ≡ transaction.ticket
    → is_answered (taken_in history transaction) message.partition message.call ≡ true)
IsIgnoredAnswer history act answer = Unit {0}
