-- Requests that a transaction can have.
use Rattle.std.specs.Prelude.{ℕ, ◌<◌, Option, Some, None}
use Rattle.stamps.specs.Key.{IsTransactionKeys}
use Rattle.plain_store.specs.History.{Intent, Writes, Gets, Finds}
use Rattle.plain_store.specs.Writing.{keys_written}

-- a write has a stamp that is not the initial version's, and 1 to `max_keys` keys, none of them twice
abbrev pub IsWhole : Intent → Type 0
IsWhole (Writes stamp items) = (0 < stamp) × IsTransactionKeys (keys_written items)
IsWhole (Gets keys) = Unit {0}
IsWhole (Finds tag) = Unit {0}

abbrev pub BeginsWhole : Option (ℕ × Intent) → Type 0
BeginsWhole None = Unit {0}
BeginsWhole (Some begun) = IsWhole begun.1
