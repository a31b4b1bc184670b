-- Worked counts and logs, computed: the bounds of the laws are met, and a Retry passes them.
use Rattle.std.proofs.Common.{◌≡◌, ℕ, [], ◌∷◌, None, refl}
use Rattle.stamps.specs.Key.{sorted_keys}
use Rattle.stamps.specs.Record.{record_eq}
use Rattle.stamps.specs.Stamp.{stamp}
use Rattle.plain_store.specs.Words.{Key, Item, Get, Collect, Hello, Put, GetAll, Deliver, Retry, Stop, CollectAt, Setup, home}
use Rattle.plain_store.specs.Tags.{under}
use Rattle.plain_store.specs.Replies.{prepare_reply, get_reply, reply_after}
use Rattle.plain_store.specs.History.{History, Writes, Gets, Transaction, transactions, message_at, taken_in}
use Rattle.plain_store.specs.Rounds.{seen_first, seen_second, first_stamp, needed}
use Rattle.plain_store.specs.Run.{effect, moment_of, run}
use Rattle.plain_store.specs.Counts.{prepares_sent, prepares_sent_for, commits_sent_to, gets_sent_for}
use Rattle.plain_store.specs.Partitions.{calls_at}

abbrev opened : Setup
opened = record { partitions = 2; room = record { slots = 1024; items = 256; clients = 16 }; keep = 2 }

abbrev x : Key
x = 120 ∷ []

abbrev y : Key
y = 121 ∷ []

abbrev item : Key → ℕ → Item
item key value = record { key = key; tag = []; value = value ∷ [] }

-- a writer that stops between two commits, and a reader that asks for the second version
abbrev race : History
race = run opened [] (
    Hello 1 0 ∷ Hello 2 0 ∷ Put 1 (item x 1 ∷ item y 1 ∷ []) ∷ Deliver 1 ∷ Deliver 2 ∷ Deliver 3 ∷ Deliver 4 ∷ Deliver 5 ∷ Stop 1
    ∷ GetAll 2 (x ∷ y ∷ []) ∷ Deliver 8 ∷ Deliver 9 ∷ Deliver 10 ∷ Deliver 11 ∷ Deliver 12 ∷ Deliver 13 ∷ [])

abbrev writer : Transaction
writer = record { client = 1; ticket = 1; begun = 2; request = Writes (stamp 1 1) (item x 1 ∷ item y 1 ∷ []) }

abbrev reader : Transaction
reader = record { client = 2; ticket = 1; begun = 9; request = Gets (x ∷ y ∷ []) }

race_is : transactions race ≡ reader ∷ writer ∷ []
unfolding home under prepare_reply get_reply reply_after record_eq sorted_keys message_at taken_in seen_first seen_second first_stamp needed effect moment_of
race_is = refl

-- the reader asks twice for y, once for x
race_gets : gets_sent_for race reader x ∷ gets_sent_for race reader y ∷ [] ≡ 1 ∷ 2 ∷ []
unfolding home under prepare_reply get_reply reply_after record_eq sorted_keys message_at taken_in seen_first seen_second first_stamp needed effect moment_of
race_gets = refl

-- the writer asks once for each item, and once at each partition
race_writes : prepares_sent race writer ∷ prepares_sent_for race writer x ∷ prepares_sent_for race writer y ∷ commits_sent_to race writer 0 ∷ commits_sent_to race writer 1 ∷ [] ≡ 2 ∷ 1 ∷ 1 ∷ 1 ∷ 1 ∷ []
unfolding home under prepare_reply get_reply reply_after record_eq sorted_keys message_at taken_in seen_first seen_second first_stamp needed effect moment_of
race_writes = refl

-- with a Retry each call may be sent again
abbrev retried : History
retried = run opened [] (Hello 1 0 ∷ GetAll 1 (x ∷ []) ∷ Retry 1 ∷ Retry 1 ∷ [])

retried_gets : gets_sent_for retried (record { client = 1; ticket = 1; begun = 1; request = Gets (x ∷ []) }) x ≡ 3
unfolding home under prepare_reply get_reply reply_after record_eq sorted_keys message_at taken_in seen_first seen_second first_stamp needed effect moment_of
retried_gets = refl

-- the calls of a partition, newest first: those that were delivered there, and its collections
collected_calls : calls_at opened (run opened [] (Hello 1 0 ∷ GetAll 1 (x ∷ y ∷ []) ∷ Deliver 2 ∷ CollectAt 1 ∷ CollectAt 0 ∷ Deliver 1 ∷ Deliver 1 ∷ Deliver 3 ∷ [])) (home opened y) ≡ Collect 2 ∷ Get y None ∷ []
unfolding home under prepare_reply get_reply reply_after record_eq sorted_keys message_at taken_in seen_first seen_second first_stamp needed effect moment_of
collected_calls = refl
