-- How many calls a transaction sends.
use Rattle.std.specs.Prelude.{◌≡◌, ℕ, ◌≤◌, List, [], ◌∷◌, ◌⊎◌, Bool, true, false, ◌&&◌, ◌==◌, filter, length, count_by}
use Rattle.std.specs.Prelude.{Some, is_none, bytes_eq, All}
use Rattle.plain_store.specs.Words.{◌∈◌, Key, Item, Call, Prepare, Commit, Get, Found, Act, Retry, Message}
use Rattle.plain_store.specs.Words.{Setup, IsAct, Discard}
use Rattle.plain_store.specs.History.{History, messages, Intent, Writes, Gets, Finds, Transaction, transactions, is_of}
use Rattle.plain_store.specs.History.{running}
use Rattle.plain_store.specs.Run.{run}

-- the calls that a transaction sent: the messages of its client and ticket that are no replies
abbrev pub calls_sent : History → Transaction → List Message
calls_sent history transaction =
    filter (λ (message : Message). is_none message.reply && is_of transaction message) (messages history)

-- a PREPARE
abbrev pub is_prepare : Call → Bool
is_prepare (Prepare version) = true
is_prepare call = false

-- a PREPARE of this key
abbrev pub is_prepare_of : Key → Call → Bool
is_prepare_of key (Prepare version) = bytes_eq version.key key
is_prepare_of key call = false

-- a COMMIT
abbrev pub is_commit : Call → Bool
is_commit (Commit stamp) = true
is_commit call = false

-- a DISCARD
abbrev pub is_discard : Call → Bool
is_discard (Discard stamp) = true
is_discard call = false

-- a GET of this key, in either round
abbrev pub is_get_of : Key → Call → Bool
is_get_of key (Get k stamp) = bytes_eq k key
is_get_of key call = false

-- a FOUND
abbrev pub is_found : Call → Bool
is_found (Found tag) = true
is_found call = false

-- how many PREPAREs it sent
abbrev pub prepares_sent : History → Transaction → ℕ
prepares_sent history transaction =
    count_by (λ (message : Message). is_prepare message.call) (calls_sent history transaction)

-- how many PREPAREs of this key it sent
abbrev pub prepares_sent_for : History → Transaction → Key → ℕ
prepares_sent_for history transaction key =
    count_by (λ (message : Message). is_prepare_of key message.call) (calls_sent history transaction)

-- how many COMMITs it sent to this partition
abbrev pub commits_sent_to : History → Transaction → ℕ → ℕ
commits_sent_to history transaction partition =
    count_by (λ (message : Message). is_commit message.call && (message.partition == partition))
    (calls_sent history transaction)

-- how many DISCARDs it sent to this partition
abbrev pub discards_sent_to : History → Transaction → ℕ → ℕ
discards_sent_to history transaction partition =
    count_by (λ (message : Message). is_discard message.call && (message.partition == partition))
    (calls_sent history transaction)

-- how many GETs of this key it sent
abbrev pub gets_sent_for : History → Transaction → Key → ℕ
gets_sent_for history transaction key =
    count_by (λ (message : Message). is_get_of key message.call) (calls_sent history transaction)

-- how many FOUNDs it sent to this partition
abbrev pub founds_sent_to : History → Transaction → ℕ → ℕ
founds_sent_to history transaction partition =
    count_by (λ (message : Message). is_found message.call && (message.partition == partition))
    (calls_sent history transaction)

-- a Retry came while the transaction ran
abbrev pub WasRetried : History → Transaction → Type 0
WasRetried [] transaction = ⊥
WasRetried (m ∷ older) transaction =
    ((m.act ≡ Retry transaction.client) × (running older transaction.client ≡ Some transaction))
    ⊎ WasRetried older transaction

-- A put sends one PREPARE for each of its items, and no more than one COMMIT and one DISCARD to each partition. A get
-- sends no more than two GETs of each key, and so does a search, which sends no more than one FOUND to each partition.
abbrev pub SendsOnce : History → Transaction → Intent → Type 0
SendsOnce history transaction (Writes stamp items) =
    (prepares_sent history transaction ≡ length items)
    × ((item : Item) → item ∈ items → prepares_sent_for history transaction item.key ≡ 1)
    × ((partition : ℕ) → commits_sent_to history transaction partition ≤ 1)
    × ((partition : ℕ) → discards_sent_to history transaction partition ≤ 1)
SendsOnce history transaction (Gets keys) = (key : Key) → gets_sent_for history transaction key ≤ 2
SendsOnce history transaction (Finds tag) =
    ((key : Key) → gets_sent_for history transaction key ≤ 2)
    × ((partition : ℕ) → founds_sent_to history transaction partition ≤ 1)

-- so each transaction of a run that was never retried
abbrev pub SendsFew : Setup → List Act → Type 0
SendsFew setup steps =
    All IsAct steps → (transaction : Transaction) → transaction ∈ transactions (run setup [] steps)
    → (WasRetried (run setup [] steps) transaction → ⊥)
    → SendsOnce (run setup [] steps) transaction transaction.request
