-- What a tenant's sessions hold, as contracts see it.
use Rattle.std.specs.Prelude.{◌≡◌, ℕ, ◌+◌, List, length, cond, Option, Some, nat_eq}
use Rattle.std.specs.Map.{lookup}
use Rattle.tenant_sessions.specs.declared.session.ClientSession.{ClientSession}

-- how many partitions and clients the tenant's store has,
-- and what is held of each client that said hello, by its number
pub record SessionsContent : Type 0 where
  pub parts : ℕ
  pub limit : ℕ
  pub clients : List (ℕ × ClientSession)

-- what is held of a client, None where it never said hello
abbrev pub client_in : SessionsContent → ℕ → Option ClientSession
client_in sessions client = lookup (nat_eq client) sessions.clients

-- the sessions with this held of the client, and of every other what was
pub record HoldsSession (old new : SessionsContent) (client : ℕ) (held : ClientSession) : Type 0 where
  pub parts : new.parts ≡ old.parts
  pub limit : new.limit ≡ old.limit
  pub each : (other : ℕ) → client_in new other ≡ cond (nat_eq client other) (Some held) (client_in old other)

-- a client that is new is one more
pub record IsAdded (old new : SessionsContent) (client : ℕ) (held : ClientSession) : Type 0 where
  pub holds : HoldsSession old new client held
  pub count : length new.clients ≡ length old.clients + 1
