-- How a write or a read begins.
use Rattle.std.specs.Prelude.{◌≡◌, ℕ, Bool, true, false, not, List, Option, None, IsSome, IfSome}
use Rattle.stamps.specs.declared.record.Item.{Item}
use Rattle.plain_store.specs.History.{Writes, Gets}
use Rattle.plain_store.specs.Run.{are_bad}
use Rattle.plain_store.specs.Words.{Key, Setup}
use Rattle.plain_store.specs.Writing.{keys_written}
use Rattle.tenant_sessions.specs.Running.{Starts}
use Rattle.tenant_sessions.specs.declared.running.Running.{Running}

-- A write of these items under this stamp runs, in a store of so many partitions, where its keys may be those of a transaction.
-- Else none runs.
pub record RunsWrite (parts stamp : ℕ) (items : List Item) (began : Bool) (running : Option Running) : Type 0 where
  pub refused : began ≡ not (are_bad (keys_written items))
  pub none : began ≡ false → running ≡ None
  pub starts : (setup : Setup) → setup.partitions ≡ parts → began ≡ true
      → IsSome running × IfSome running (λ running. Starts setup (Writes stamp items) running)

-- A read of these keys runs, in a store of so many partitions, where they may be those of a transaction. Else none runs.
pub record RunsRead (parts : ℕ) (keys : List Key) (began : Bool) (running : Option Running) : Type 0 where
  pub refused : began ≡ not (are_bad keys)
  pub none : began ≡ false → running ≡ None
  pub starts : (setup : Setup) → setup.partitions ≡ parts → began ≡ true
      → IsSome running × IfSome running (λ running. Starts setup (Gets keys) running)
