-- Who has read keys writes above all that was done at them before the read began.
use Rattle.std.specs.Prelude.{◌≡◌, ◌⊎◌, ◌<◌, ℕ, List, [], ◌∷◌, true, Some}
use Rattle.plain_store.specs.Words.{◌∈◌, Key, Stamp, Item, Act, Put, Answer, PutBegun, Read, Restart}
use Rattle.plain_store.specs.History.{History, Gets, Transaction, transactions, taken_in}
use Rattle.plain_store.specs.Writing.{keys_written}
use Rattle.plain_store.specs.Rounds.{round_one_complete}
use Rattle.plain_store.specs.Laws.{Wrote, DoneBefore, receiver}

-- what was read, or that it is to be read anew; no other answer ends a get so
abbrev pub EndsRead : Answer → Type 0
EndsRead (Read readings) = Unit {0}
EndsRead (Restart key floor) = Unit {0}
EndsRead answer = ⊥

-- one of these steps told the transaction's client so
abbrev pub WasRead : History → Transaction → Type 0
WasRead [] reader = ⊥
WasRead (m ∷ older) reader = ((receiver older m.act ≡ Some reader) × EndsRead m.answer) ⊎ WasRead older reader

-- the client read these keys by this transaction: it was answered what they hold or to read anew, or it took a reply of
-- the first round for each of them
abbrev pub HasRead : History → Transaction → List Key → Type 0
HasRead history reader keys =
    (reader ∈ transactions history) × (reader.request ≡ Gets keys)
    × (WasRead history reader ⊎ (round_one_complete keys (taken_in history reader) ≡ true))

-- the stamp is above each that was done, before the client began to read, for a write of a key that it read
abbrev pub IsNewest : History → ℕ → Stamp → Type 0
IsNewest history client stamp =
    (reader : Transaction) (keys : List Key) (key : Key) (done : Stamp) (items : List Item)
    → HasRead history reader keys → reader.client ≡ client → key ∈ keys
    → DoneBefore history reader.begun done → Wrote history done items → key ∈ keys_written items → done < stamp

-- so is each put's stamp; nothing is said of other answers
abbrev pub IsNewestAnswer : History → Act → Answer → Type 0
IsNewestAnswer history (Put client items) (PutBegun stamp rows) = IsNewest history client stamp
IsNewestAnswer history act answer = Unit {0}
