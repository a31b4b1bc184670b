-- How long journals grow.
use Rattle.std.specs.Prelude.{◌≡◌, ℕ, zero, suc, ◌<◌, ◌≤◌, ◌+◌, ◌*◌, Bool, List, cond, length, nat_le}
use Rattle.plain_store.specs.declared.calls.Call.TheVariants.{Collect}
use Rattle.plain_store.specs.declared.calls.Reply.{Reply}
use Rattle.partition.specs.Accounts.{Account, events_at}
use Rattle.partition.specs.Events.{event}
use Rattle.traced_book.specs.Forgetting.{IsTaken}

-- where journals are cut at so many events, none has more than twice as many
abbrev pub AreShort : ℕ → List Account → Type 0
AreShort epoch accounts = 0 < epoch → (tenant : ℕ) → length (events_at accounts tenant) ≤ 2 * epoch

-- a collection of this tenant that keeps so many was served, of seat 0, and nothing else
pub record IsCollected (journals : Bool) (old new : List Account) (tenant keep : ℕ) : Type 0 where
  pub number : ℕ
  pub reply : Reply
  pub taken : IsTaken journals old new tenant (event 0 number (Collect keep) reply)

-- the journals of the tenants from the first one to before the second have fewer events than that
abbrev pub AreFewer : ℕ → List Account → ℕ → ℕ → Type 0
AreFewer least accounts from end =
    (tenant : ℕ) → from ≤ tenant → tenant < end → length (events_at accounts tenant) < least

-- how many of the n journals from this tenant's on have at least so many events
abbrev pub long_among : ℕ → List Account → ℕ → ℕ → ℕ
long_among least accounts from zero = 0
long_among least accounts from (suc n) =
    long_among least accounts from n + cond (nat_le least (length (events_at accounts (from + n)))) 1 0

-- the tenant's journal has just as many events as an epoch, so it is to be cut
abbrev pub IsLongAt : ℕ → List Account → ℕ → Type 0
IsLongAt epoch accounts tenant =
    (0 < epoch) × (tenant < length accounts) × (length (events_at accounts tenant) ≡ epoch)
