-- What a client has of the history.
use Rattle.std.specs.Prelude.{ℕ, ◌≡◌, ◌≢◌, ◌⊎◌, ◌↔◌, ◌<◌, ◌≤◌, ◌+◌, ◌*◌, Bool, true, false, List, [], ◌∷◌, ◌++◌, Option, Some, IsSome, nat_eq}
use mathlib.Core.List.{IsPrefix}
use Rattle.stamps.specs.Limits.{max_parts}
use Rattle.stamps.specs.Stamp.{client_of}
use Rattle.indexmap.specs.IndexMap.{IndexMap, get}
use Rattle.plain_store.specs.declared.refusal.Refusal.{Refusal}
use Rattle.plain_store.specs.declared.refusal.Refusal.TheVariants.{Busy, RowsUsed, OutOfMemory}
use Rattle.plain_store.specs.Words.{◌∈◌, Item}
use Rattle.history.specs.declared.entry.HistoryEntry.{HistoryEntry}
use Rattle.history.specs.declared.entry.HistoryEntry.TheVariants.{Joined, Began, Decided, GivenUp, ReadBegan}
use Rattle.history.specs.declared.entry.Decision.{Decision}
use Rattle.history.specs.declared.entry.JoinedClient.{JoinedClient}
use Rattle.history.specs.declared.entry.Mark.{Mark}
use Rattle.history.specs.declared.entry.Write.{Write}
use Rattle.history.specs.Entries.{HasMark, own, count}
use Rattle.history.specs.Legal.{MayEnd}
use Rattle.history.specs.Rules.{TakesNoEntry}

-- the client's word, whose it is, the stamp of its last write, and what was seen of the history
pub record ClientTrace : Type 0 where
  pub word : ℕ
  pub tenant : ℕ
  pub client : ℕ
  pub last : ℕ
  pub seen : List HistoryEntry

-- a client that has just come
abbrev pub new_trace : ℕ → ℕ → ℕ → List HistoryEntry → ClientTrace
new_trace word tenant client seen = record { word = word; tenant = tenant; client = client; last = 0; seen = seen }

-- the client's put of this stamp and of these items
abbrev pub write_of : ClientTrace → ℕ → List Item → Write
write_of its stamp items = record { word = its.word; tenant = its.tenant; stamp = stamp; items = items }

-- that the client's put of this stamp ends
abbrev pub ending_of : ClientTrace → ℕ → Decision
ending_of its stamp = record { word = its.word; tenant = its.tenant; stamp = stamp }

-- The client joined under the word, and what was seen has each of its writes, none above this stamp. The last one is open if and only if it
-- may end.
pub record IsTracedClient (word tenant client last : ℕ) (is_open : Bool) (seen : List HistoryEntry) : Type 0 where
  pub high : max_parts < word
  pub some : 0 < count word seen
  pub joined : Joined (record { word = word; tenant = tenant; client = client }) ∈ seen
  pub above : (write : Write) → Began write ∈ own word seen → write.stamp ≤ last
  pub ended : (decision : Decision) → (Decided decision ∈ own word seen) ⊎ (GivenUp decision ∈ own word seen) → decision.stamp ≤ last
  pub unended : (is_open ≡ true) ↔ MayEnd (own word seen) (record { word = word; tenant = tenant; stamp = last })

-- the same client, under the same word, which has seen what it had seen
pub record IsSameClient (old new : ClientTrace) : Type 0 where
  pub word : new.word ≡ old.word
  pub tenant : new.tenant ≡ old.tenant
  pub client : new.client ≡ old.client
  pub later : IsPrefix old.seen new.seen

-- the client joined under this word, by what it has seen
abbrev pub HasJoined : ℕ → ClientTrace → Type 0
HasJoined word its = Joined (record { word = word; tenant = its.tenant; client = its.client }) ∈ its.seen

-- no write of the client begins under the stamp: it is another client's, or not above that of the last write, or no entry is taken, by what
-- was found of the history
abbrev pub CannotBegin : ℕ → ClientTrace → List HistoryEntry → Type 0
CannotBegin stamp its found = (client_of stamp ≢ its.client) ⊎ ((stamp ≤ its.last) ⊎ TakesNoEntry its.word its.seen found)

-- the write of the stamp does not end: it is not the client's last one, or has ended, or no entry is taken, by what was found of the history
abbrev pub CannotEnd : ℕ → ClientTrace → List HistoryEntry → Type 0
CannotEnd stamp its found =
    (stamp ≢ its.last) ⊎ ((MayEnd (own its.word its.seen) (ending_of its stamp) → ⊥) ⊎ TakesNoEntry its.word its.seen found)

-- It was refused for this reason, by what was found of the history, and nothing has changed.
pub record IsRefusedFor (Reason : List HistoryEntry → Type 0) (old new : ClientTrace) (found : List HistoryEntry) : Type 0 where
  pub refused : Reason found
  pub unchanged : new ≡ old

-- what has the mark has all of this, if it and what was seen are beginnings of one history
abbrev pub HasWith : Mark → (seen evidence : List HistoryEntry) → Type 0
HasWith mark seen evidence =
    (log all : List HistoryEntry) → IsPrefix seen all → IsPrefix log all → HasMark log mark → IsPrefix evidence log

-- A read or a search has an entry of its client's word, behind all that the evidence has, and what has the mark has all that stands before
-- that entry.
pub record HasReadEntry (mark : Mark) (seen evidence : List HistoryEntry) : Type 0 where
  pub before : List HistoryEntry
  pub after : List HistoryEntry
  pub stands : seen ≡ before ++ ReadBegan mark.word ∷ after
  pub behind : IsPrefix evidence before
  pub marked : HasWith mark seen before

-- The entry is the client's own, behind those that it had, and the one of its word since then. The client's last write has this stamp.
pub record EntersOwn (entry : HistoryEntry) (stamp : ℕ) (old new : ClientTrace) : Type 0 where
  pub entered : own old.word new.seen ≡ own old.word old.seen ++ entry ∷ []
  pub last : new.last ≡ stamp

-- ---- the words of all clients

-- the row of a client of a tenant
abbrev pub row_of : ℕ → ℕ → ℕ
row_of tenant client = tenant * 65536 + client

-- each client that joined, by what was seen, has a row
abbrev pub HaveRows : {X S : Type 0} → List HistoryEntry → IndexMap ℕ X S → Type 0
HaveRows seen rows = (member : JoinedClient) → Joined member ∈ seen → IsSome (get nat_eq rows (row_of member.tenant member.client))

-- the word lies there: this is the client of its row, and nobody has taken it
abbrev pub LiesThere : {S : Type 0} → IndexMap ℕ (Option ClientTrace) S → ClientTrace → Type 0
LiesThere rows its = get nat_eq rows (row_of its.tenant its.client) ≡ Some (Some its)

-- the client has a row
abbrev pub HasRow : {X S : Type 0} → IndexMap ℕ X S → ℕ → ℕ → Type 0
HasRow rows tenant client = IsSome (get nat_eq rows (row_of tenant client))

-- the refusals of a word: it is another's, there is none, and 30 where an allocation failed
abbrev pub is_of_word : Refusal → Bool
is_of_word Busy = true
is_of_word RowsUsed = true
is_of_word OutOfMemory = true
is_of_word refusal = false
