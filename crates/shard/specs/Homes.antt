-- Where a call may go.
use Rattle.std.specs.Prelude.{◌≡◌, ℕ}
use Rattle.stamps.specs.Key.{home_of}
use Rattle.plain_store.specs.declared.calls.Call.{Call}
use Rattle.plain_store.specs.declared.calls.Call.TheVariants.{Prepare, Get}

-- the home of the key of a PREPARE or GET; another call may go to this partition
abbrev pub place_of : Call → ℕ → ℕ → ℕ
place_of (Prepare version) parts partition = home_of version.key parts
place_of (Get key stamp) parts partition = home_of key parts
place_of call parts partition = partition

-- the key of a PREPARE or GET has this partition as its home
abbrev pub HasHome : Call → ℕ → ℕ → Type 0
HasHome call parts partition = place_of call parts partition ≡ partition
