-- Which histories are legal: each entry may follow those before it.
use Rattle.std.specs.Prelude.{◌≡◌, ◌⊎◌, ℕ, ◌+◌, ◌<◌, List, [], ◌∷◌, ◌++◌, length, Option, None}
use Rattle.stamps.specs.Key.{home_of}
use Rattle.stamps.specs.Limits.{max_parts, max_tenants}
use Rattle.stamps.specs.Stamp.{client_of}
use Rattle.plain_store.specs.Words.{◌∈◌, Key, Item, Record, Stamp}
use Rattle.plain_store.specs.declared.calls.Call.{Call}
use Rattle.plain_store.specs.declared.calls.Call.TheVariants.{Prepare, Commit, Get, Found, Collect, Discard}
use Rattle.plain_store.specs.declared.calls.Reply.TheVariants.{Prepare as ToPrepare, Get as ToGet}
use Rattle.plain_store.specs.declared.calls.PrepareReply.TheVariants.{Prepared}
use Rattle.plain_store.specs.declared.calls.ReadReply.TheVariants.{Version}
use Rattle.plain_store.specs.Writing.{record_for}
use Rattle.history.specs.declared.entry.HistoryEntry.{HistoryEntry}
use Rattle.history.specs.declared.entry.HistoryEntry.TheVariants.{Opened, Joined, Arrived, Began, Decided, GivenUp, ReadBegan, Drew, Passed, Served}
use Rattle.history.specs.declared.entry.Decision.{Decision}
use Rattle.history.specs.declared.entry.Draw.{Draw}
use Rattle.history.specs.declared.entry.JoinedClient.{JoinedClient}
use Rattle.history.specs.declared.entry.ServedCall.{ServedCall}
use Rattle.history.specs.declared.entry.StoreOpening.{StoreOpening}
use Rattle.history.specs.declared.entry.Write.{Write}
use Rattle.history.specs.Entries.{own, clock_of, parts_of, StandsInHistory}

-- the words 0 to `max_parts` are the register's and the partitions', then come the clocks of the tenants, and each client that joins has the next word
abbrev pub first_client : ℕ
first_client = max_parts + max_tenants + 1

-- a client joins once, and has a word of its own; `joined` are the clients so far
pub record MayJoin (joined : List HistoryEntry) (member : JoinedClient) : Type 0 where
  pub word : member.word ≡ first_client + length joined
  pub new : (other : JoinedClient) → Joined other ∈ joined → other.tenant ≡ member.tenant → other.client ≡ member.client → ⊥

-- a put begins under the word of its client, with a stamp above those of the client's puts so far
pub record MayBegin (own before : List HistoryEntry) (write : Write) : Type 0 where
  pub joined : Joined (record { word = write.word; tenant = write.tenant; client = client_of write.stamp }) ∈ before
  pub above : (other : Write) → Began other ∈ own → other.stamp < write.stamp

-- a put ends once, under the word of its client: it is decided, or refused
pub record MayEnd (own : List HistoryEntry) (decision : Decision) : Type 0 where
  pub write : Write
  pub began : Began write ∈ own
  pub its : (write.tenant ≡ decision.tenant) × (write.stamp ≡ decision.stamp)
  pub unended : (other : Decision) → (Decided other ∈ own) ⊎ (GivenUp other ∈ own) → other.stamp ≡ decision.stamp → ⊥

-- the version is what a put of this tenant that began writes to one of its items
pub record IsOfWrite (before : List HistoryEntry) (tenant : ℕ) (version : Record) : Type 0 where
  pub write : Write
  pub began : Began write ∈ before
  pub its : write.tenant ≡ tenant
  pub item : Item
  pub among : item ∈ write.items
  pub is : version ≡ record_for write.stamp write.items item

-- the partition accepted the tenant's version
pub record IsAccepted (before : List HistoryEntry) (tenant partition : ℕ) (version : Record) : Type 0 where
  pub served : ServedCall
  pub place : ℕ
  pub its : (served.tenant ≡ tenant) × (served.partition ≡ partition) × (served.call ≡ Prepare version)
  pub accepts : StandsInHistory before served place (ToPrepare Prepared)

-- a put is decided once its version of each item was accepted at the home of the item's key
pub record MayDecide (before : List HistoryEntry) (decision : Decision) : Type 0 where
  pub write : Write
  pub began : Began write ∈ before
  pub its : (write.tenant ≡ decision.tenant) × (write.stamp ≡ decision.stamp)
  pub accepted : (item : Item) → item ∈ write.items
      → ∥ IsAccepted before write.tenant (home_of item.key (parts_of before)) (record_for write.stamp write.items item) ∥₁

-- the put of this stamp was decided
pub record IsDecided (before : List HistoryEntry) (tenant : ℕ) (stamp : Stamp) : Type 0 where
  pub decision : Decision
  pub stands : Decided decision ∈ before
  pub its : (decision.tenant ≡ tenant) × (decision.stamp ≡ stamp)

-- the put of this stamp was refused
pub record IsGivenUp (before : List HistoryEntry) (tenant : ℕ) (stamp : Stamp) : Type 0 where
  pub decision : Decision
  pub stands : GivenUp decision ∈ before
  pub its : (decision.tenant ≡ tenant) × (decision.stamp ≡ stamp)

-- a PREPARE is one of a put that began, a COMMIT is one of a put that was decided, and a DISCARD is one of a put that was refused
abbrev pub IsOfPut : List HistoryEntry → ℕ → Call → Type 0
IsOfPut before tenant (Prepare version) = IsOfWrite before tenant version
IsOfPut before tenant (Commit stamp) = IsDecided before tenant stamp
IsOfPut before tenant (Get key stamp) = Unit {0}
IsOfPut before tenant (Found tag) = Unit {0}
IsOfPut before tenant (Collect keep) = Unit {0}
IsOfPut before tenant (Discard stamp) = IsGivenUp before tenant stamp

-- the store has so many partitions, as its opening says
abbrev pub HasParts : List HistoryEntry → ℕ → Type 0
HasParts [] parts = ⊥
HasParts (Opened setting ∷ log) parts = setting.parts ≡ parts
-- a history begins with its opening
HasParts (e ∷ log) parts = ⊥

-- the partition is the home of the key, among as many as the store has
pub record IsKeyHome (before : List HistoryEntry) (key : Key) (partition : ℕ) : Type 0 where
  pub parts : ℕ
  pub there : HasParts before parts
  pub home : home_of key parts ≡ partition

-- the key of a PREPARE or GET has this partition as its home
abbrev pub IsAtHome : List HistoryEntry → ℕ → Call → Type 0
IsAtHome before partition (Prepare version) = IsKeyHome before version.key partition
IsAtHome before partition (Get key stamp) = IsKeyHome before key partition
IsAtHome before partition (Commit stamp) = Unit {0}
IsAtHome before partition (Found tag) = Unit {0}
IsAtHome before partition (Collect keep) = Unit {0}
IsAtHome before partition (Discard stamp) = Unit {0}

-- the partition may serve the tenant's call
pub record MayServe (before : List HistoryEntry) (partition tenant : ℕ) (call : Call) : Type 0 where
  pub put : IsOfPut before tenant call
  pub home : IsAtHome before partition call

-- a counter that is drawn is the ordinal of the draw among the entries of the clock
abbrev pub MayDraw : List HistoryEntry → Draw → Type 0
MayDraw own drawn = drawn.counter ≡ length own + 1

-- the entry may follow: `mine` has all entries so far of the entry's own word, and the rest is known from what stands in `before`
abbrev pub MayFollow : List HistoryEntry → List HistoryEntry → HistoryEntry → Type 0
MayFollow mine before (Opened setting) = before ≡ []
MayFollow mine before (Joined member) = MayJoin (own 0 mine) member
MayFollow mine before (Arrived word) = Unit {0}
MayFollow mine before (Began write) = MayBegin (own write.word mine) before write
MayFollow mine before (Decided decision) = MayEnd (own decision.word mine) decision × MayDecide before decision
MayFollow mine before (GivenUp decision) = MayEnd (own decision.word mine) decision
MayFollow mine before (ReadBegan word) = Unit {0}
MayFollow mine before (Drew drawn) = MayDraw (own (clock_of drawn.tenant) mine) drawn
MayFollow mine before (Passed tenant) = Unit {0}
MayFollow mine before (Served served) = MayServe before served.partition served.tenant served.call

-- A history begins with its opening, and each of its entries may follow those before it.
pub record IsLegal (log : List HistoryEntry) : Type 0 where
  pub setting : StoreOpening
  pub rest : List HistoryEntry
  pub opens : log ≡ Opened setting ∷ rest
  pub each : (before : List HistoryEntry) (e : HistoryEntry) (after : List HistoryEntry) → log ≡ before ++ e ∷ after → ∥ MayFollow before before e ∥₁

-- ---- what follows of each legal history

-- a stamp of a tenant has one put, and so one write set
abbrev pub HasOneWrite : List HistoryEntry → Type 0
HasOneWrite log = (one other : Write) → Began one ∈ log → Began other ∈ log → one.tenant ≡ other.tenant → one.stamp ≡ other.stamp → one ≡ other

-- a version of a write is one of the put that has its stamp: its write set is that put's
abbrev pub AreOfTheirWrites : List HistoryEntry → Type 0
AreOfTheirWrites log = (tenant : ℕ) (version : Record) (write : Write) → ∥ IsOfWrite log tenant version ∥₁ → Began write ∈ log
    → write.tenant ≡ tenant → write.stamp ≡ version.stamp
    → ∥ ((item : Item) × (item ∈ write.items) × (version ≡ record_for write.stamp write.items item)) ∥₁

-- each version that a GET is reported is what a put that began writes to the key that was asked
abbrev pub ShowsWrites : List HistoryEntry → Type 0
ShowsWrites log = (served : ServedCall) (place : ℕ) (key : Key) (stamp : Option Stamp) (version : Record)
    → served.call ≡ Get key stamp → StandsInHistory log served place (ToGet (Version version))
    → ∥ IsOfWrite log served.tenant version ∥₁ × (version.key ≡ key)

-- and one that is reported without a stamp is that of a put that was decided
abbrev pub ShowsDecided : List HistoryEntry → Type 0
ShowsDecided log = (served : ServedCall) (place : ℕ) (key : Key) (version : Record)
    → served.call ≡ Get key None → StandsInHistory log served place (ToGet (Version version)) → ∥ IsDecided log served.tenant version.stamp ∥₁

-- no DISCARD of a put that was decided is served
abbrev pub KeepsDecided : List HistoryEntry → Type 0
KeepsDecided log = (served : ServedCall) (stamp : Stamp) → Served served ∈ log → served.call ≡ Discard stamp → ∥ IsDecided log served.tenant stamp ∥₁ → ⊥

-- each call on a key was served at the key's home
abbrev pub AreAtHome : List HistoryEntry → Type 0
AreAtHome log = (served : ServedCall) → Served served ∈ log → ∥ IsAtHome log served.partition served.call ∥₁
