-- What is looked up of a tenant's transcripts: the first of each seat, and the client's session right before each.
use Rattle.std.specs.Prelude.{◌≡◌, ◌⊎◌, ◌<◌, ℕ, List, Option, Some, MatchOption, nat_eq, length, slice_get}
use Rattle.indexmap.specs.IndexMap.{IndexMap, get}
use Rattle.closed_store.specs.declared.closed.Closed.{Closed}
use Rattle.closed_store.specs.declared.transcript.Transcript.{Transcript}
use Rattle.settle.specs.declared.progress.Progress.{Progress}
use Rattle.settle.specs.declared.progress.TranscriptState.{TranscriptState}
use Rattle.settle.specs.declared.progress.TranscriptState.TheVariants.{Over}
use Rattle.settle.specs.declared.session_order.SessionOrder.{SessionOrder}
use Rattle.settle.specs.Fronts.{ComesBefore}
use Rattle.settle.specs.Standing.{NoneOfSeat, IsSized, IsSlot}

-- a transcript of the tenant, at its place
abbrev pub IsOfTenant : List Transcript → ℕ → ℕ → Transcript → Type 0
IsOfTenant transcripts tenant place transcript =
    (slice_get transcripts place ≡ Some transcript) × (transcript.tenant ≡ tenant)

-- the first of each seat, of the first so many transcripts
abbrev pub AreSlots : {S : Type 0} → List Transcript → ℕ → ℕ → IndexMap ℕ ℕ S → Type 0
AreSlots transcripts tenant count slots =
    (seat : ℕ)
    → MatchOption (get nat_eq slots seat) (NoneOfSeat transcripts tenant seat count) (IsSlot transcripts tenant seat)

-- ---- the last of a client

-- of the first so many transcripts none is the client's
abbrev pub NoneOfClient : List Transcript → ℕ → ℕ → ℕ → Type 0
NoneOfClient transcripts tenant count client =
    (i : ℕ) (other : Transcript) → i < count → IsOfTenant transcripts tenant i other → other.client ≡ client → ⊥

-- of them the one at a place is the client's, and comes after all others of the client
pub record IsLast (transcripts : List Transcript) (tenant count client place : ℕ) : Type 0 where
  pub session : Transcript
  pub its : IsOfTenant transcripts tenant place session
  pub own : session.client ≡ client
  pub last : (i : ℕ) (other : Transcript) → i < count → IsOfTenant transcripts tenant i other
      → other.client ≡ client → (i ≡ place) ⊎ ComesBefore i other place session

abbrev pub AreLast : {S : Type 0} → List Transcript → ℕ → ℕ → IndexMap ℕ ℕ S → Type 0
AreLast transcripts tenant count lasts =
    (client : ℕ)
    → MatchOption (get nat_eq lasts client) (NoneOfClient transcripts tenant count client)
    (IsLast transcripts tenant count client)

-- the session at a place comes after the one that was found, if there is one
abbrev pub IsLater : List Transcript → Option ℕ → ℕ → Type 0
IsLater transcripts found place =
    MatchOption found (Unit {0})
    (λ p. (earlier : Transcript) × (later : Transcript) × (slice_get transcripts p ≡ Some earlier)
    × (slice_get transcripts place ≡ Some later) × ComesBefore p earlier place later)

-- ---- the session right before

-- of the first so many transcripts none is a session that comes before this one
abbrev pub NoSessionBefore : List Transcript → ℕ → ℕ → ℕ → Transcript → Type 0
NoSessionBefore transcripts tenant count place transcript =
    (i : ℕ) (other : Transcript) → i < count → IsOfTenant transcripts tenant i other
    → ComesBefore i other place transcript → ⊥

-- of them the one at a place comes before this one, and after all others that do
pub record IsRightBefore (transcripts : List Transcript) (tenant count place : ℕ) (transcript : Transcript) (p : ℕ)
    : Type 0 where
  pub session : Transcript
  pub its : IsOfTenant transcripts tenant p session
  pub before : ComesBefore p session place transcript
  pub last : (i : ℕ) (other : Transcript) → i < count → IsOfTenant transcripts tenant i other
      → ComesBefore i other place transcript → (i ≡ p) ⊎ ComesBefore i other p session

abbrev pub IsLastBefore : List Transcript → ℕ → ℕ → ℕ → Transcript → Option ℕ → Type 0
IsLastBefore transcripts tenant count place transcript found =
    MatchOption found (NoSessionBefore transcripts tenant count place transcript)
    (IsRightBefore transcripts tenant count place transcript)

-- for each of the tenant's, at its place in a list
abbrev pub EachBefore : List Transcript → ℕ → ℕ → List (Option ℕ) → Type 0
EachBefore transcripts tenant count befores =
    (place : ℕ) (transcript : Transcript) (found : Option ℕ) → IsOfTenant transcripts tenant place transcript
    → slice_get befores place ≡ Some found → IsLastBefore transcripts tenant count place transcript found

-- for each of the first so many transcripts
pub record AreBefore (transcripts : List Transcript) (tenant count : ℕ) (befores : List (Option ℕ)) : Type 0 where
  pub sized : length befores ≡ count
  pub each : EachBefore transcripts tenant count befores

-- ---- places

pub record IsSessionOrder (transcripts : List Transcript) (tenant : ℕ) (places : SessionOrder) : Type 0 where
  pub slots : AreSlots transcripts tenant (length transcripts) places.slots
  pub befores : AreBefore transcripts tenant (length transcripts) places.before.items

-- the progress is one through what was left of a closed store, and the order is that of the tenant's sessions in it
pub record BelongTo (closed : Closed) (tenant : ℕ) (progress : Progress) (order : SessionOrder) : Type 0 where
  pub sized : IsSized closed progress
  pub places : IsSessionOrder closed.transcripts.items tenant order

-- the session at the place, if there is one, is over
abbrev pub IsSessionOver : List TranscriptState → Option ℕ → Type 0
IsSessionOver stages found = MatchOption found (Unit {0}) (λ p. slice_get stages p ≡ Some Over)
