-- That sessions gave their clients' numbers back, and that their ends were counted.
use Rattle.std.specs.Prelude.{◌≡◌, Option, Some, None, IfSome, IsSomeAnd}
use Rattle.closed_store.specs.declared.transcript.Transcript.{Transcript}
use Rattle.hub.specs.declared.clients.Departure.{Departure}
use Rattle.server_sessions.specs.Telling.{SessionLeft}
use Rattle.server_sessions.specs.TenantCounting.{receipt_of}
use Rattle.server_sessions.specs.declared.tenant_counts.TenantCount.TheVariants.{Closed}
use Rattle.server_sessions.specs.declared.tenant_counts.TenantCounted.{TenantCounted}

-- the session of this transcript, and no other one, ended in the register of the hub
pub record IsEndOf (transcript : Transcript) (departure : Departure) : Type 0 where
  pub tenant : departure.tenant ≡ transcript.tenant
  pub client : departure.client ≡ transcript.client
  pub turn : departure.turn ≡ transcript.turn

-- so did the one that left this, if a seat was opened
abbrev pub GivesBack : Option SessionLeft → Option Departure → Type 0
GivesBack left departure = IfSome left (λ its. IsSomeAnd departure (IsEndOf its.0))

-- the end of the one that left this was counted of its tenant, where there are counts
abbrev pub IsEndCounted : {X : Type 0} → Option X → Option SessionLeft → Option TenantCounted → Type 0
IsEndCounted None left closed = Unit {0}
IsEndCounted (Some counts) left closed =
    IfSome left (λ its. IsSomeAnd closed (λ counted. counted ≡ receipt_of Closed its.0.tenant))
