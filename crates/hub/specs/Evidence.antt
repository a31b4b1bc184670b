-- What shows that the calls of a seat's operation may be served.
use Rattle.std.specs.Prelude.{◌≡◌, ℕ, All, List, Option, Some, None}
use mathlib.Core.List.{IsPrefix}
use Rattle.plain_store.specs.declared.answer.Answer.{Answer}
use Rattle.plain_store.specs.History.{Intent as Asked, Writes, Gets, Finds}
use Rattle.plain_store.specs.Words.{◌∈◌, Setup, Stamp}
use Rattle.plain_store.specs.Writing.{Outgoing}
use Rattle.entry_list.specs.declared.kinds.Entry.{Entry}
use Rattle.history.specs.declared.entry.HistoryEntry.{HistoryEntry}
use Rattle.history.specs.declared.entry.HistoryEntry.TheVariants.{Began, Joined}
use Rattle.history.specs.Entries.{clock_of, count}
use Rattle.history.specs.Legal.{IsOfPut, MayDecide}
use Rattle.tenant_sessions.specs.Running.{MayBegin}
use Rattle.tenant_sessions.specs.declared.running.Running.{Running}
use Rattle.history.specs.declared.entry.Mark.{Mark}
use Rattle.traced_client.specs.Clients.{ClientTrace, HasReadEntry}
use Rattle.shard.specs.declared.seat_name.SeatName.{SeatName}
use Rattle.hub.specs.declared.seat_request.SeatRequest.{SeatRequest}
use Rattle.hub.specs.declared.seat_request.SeatRequest.TheVariants.{Put, Get, Find}
use Rattle.hub.specs.Replies.{IsStampOf, Reads}
use Rattle.hub.specs.Sights.{OperationSight}

-- the put of a write is an entry
abbrev pub HasBegunIn : List HistoryEntry → ℕ → Asked → Type 0
HasBegunIn seen tenant (Writes own items) = (word : ℕ) × (Began (record { word = word; tenant = tenant; stamp = own; items = items }) ∈ seen)
HasBegunIn seen tenant (Gets keys) = Unit {0}
HasBegunIn seen tenant (Finds tag) = Unit {0}

-- Something was asked, the put of which is an entry if it is a write, and what runs took replies that were entered since then.
pub record IsUnderWay (sight : OperationSight) (own : Stamp) (entries : List Entry) (running : Option Running) (told : Option Answer)
    : Type 0 where
  pub setup : Setup
  pub asked : Asked
  pub start : List Entry
  pub stamped : IsStampOf own asked
  pub well : MayBegin asked
  pub began : HasBegunIn sight.seen sight.tenant asked
  pub reads : Reads sight setup asked start entries running told

-- that of no entries
abbrev pub no_mark : Mark
no_mark = record { word = 0; entries = 0 }

-- a read or a search has its entry, behind all that was seen before, under the word of the session's client
pub record HasOwnReadEntry (name : SeatName) (mark : Mark) (seen before : List HistoryEntry) : Type 0 where
  pub entry : HasReadEntry mark seen before
  pub joined : Joined (record { word = mark.word; tenant = name.tenant; client = name.client }) ∈ seen

-- nothing is said of a put
abbrev pub IsMarkedSince : SeatName → SeatRequest → Mark → (seen before : List HistoryEntry) → Type 0
IsMarkedSince name (Put items) mark seen before = Unit {0}
IsMarkedSince name (Get keys) mark seen before = HasOwnReadEntry name mark seen before
IsMarkedSince name (Find tag) mark seen before = HasOwnReadEntry name mark seen before

-- a read or a search found that its tenant's clock has so many entries; nothing is said of a put
abbrev pub IsLookedAt : SeatRequest → (number tenant : ℕ) → List HistoryEntry → Type 0
IsLookedAt (Put items) number tenant found = Unit {0}
IsLookedAt (Get keys) number tenant found = number ≡ count (clock_of tenant) found
IsLookedAt (Find tag) number tenant found = number ≡ count (clock_of tenant) found

-- it has its entry behind what it found, and found all that was seen before
pub record HasEntryAt (number : ℕ) (name : SeatName) (mark : Mark) (seen before : List HistoryEntry) : Type 0 where
  pub found : List HistoryEntry
  pub behind : IsPrefix before found
  pub number_is : number ≡ count (clock_of name.tenant) found
  pub entry : HasOwnReadEntry name mark seen found

abbrev pub tenant_or : ℕ → Option ClientTrace → ℕ
tenant_or tenant None = tenant
tenant_or tenant (Some its) = its.tenant

abbrev pub client_or : ℕ → Option ClientTrace → ℕ
client_or client None = client
client_or client (Some its) = its.client

-- a client's word, where it is here, is that of the session's client
abbrev pub IsOfClient : SeatName → Option ClientTrace → Type 0
IsOfClient name client = (tenant_or name.tenant client ≡ name.tenant) × (client_or name.client client ≡ name.client)

-- the put of this stamp may be decided, whichever word enters that
abbrev pub MayBeDecided : List HistoryEntry → ℕ → Stamp → Type 0
MayBeDecided seen tenant stamp = (word : ℕ) → MayDecide seen (record { word = word; tenant = tenant; stamp = stamp })

-- each of these calls is of a put that began, and a COMMIT of one that was decided
abbrev pub AreOfPuts : List HistoryEntry → ℕ → List Outgoing → Type 0
AreOfPuts seen tenant calls = All (λ (out : Outgoing). IsOfPut seen tenant out.call) calls
