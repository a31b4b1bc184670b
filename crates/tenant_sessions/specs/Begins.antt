-- How a transaction begins.
use Rattle.std.specs.Prelude.{◌≡◌, ℕ, ◌+◌, ◌≤◌, max, []}
use Rattle.plain_store.specs.History.{Intent}
use Rattle.plain_store.specs.Words.{Setup}
use Rattle.tenant_sessions.specs.declared.session.ClientSession.{ClientSession}
use Rattle.tenant_sessions.specs.CallsLeft.{calls_left, calls_waiting, most_calls}
use Rattle.tenant_sessions.specs.Held.{BeginsIn, drawn_counter}
use Rattle.tenant_sessions.specs.Showing.{IsShown}

-- The request's transaction began, in a store of so many partitions, and took nothing. What it sends first and may still ask
-- for is no more than such a transaction sends.
pub record HasBegun (partitions : ℕ) (request : Intent) (old new : ClientSession) : Type 0 where
  pub begins : (setup : Setup) → setup.partitions ≡ partitions → BeginsIn setup request old new
  pub shown : (setup : Setup) → setup.partitions ≡ partitions → IsShown setup request [] new.running
  pub counter : new.counter ≡ max (drawn_counter request) old.counter
  pub calls : calls_waiting new.running + calls_left new.running ≤ most_calls partitions request
