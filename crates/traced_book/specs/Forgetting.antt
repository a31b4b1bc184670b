-- What comes of a call where its event is kept, and where no event is.
use Rattle.std.specs.Prelude.{◌≡◌, ◌+◌, ℕ, Bool, true, false, List, [], length, Option, Some, slice_get, Result, IfOk, OnErr, IsSomeAnd}
use Rattle.plain_store.specs.declared.calls.Call.{Call}
use Rattle.plain_store.specs.declared.calls.Reply.{Reply}
use Rattle.partition.specs.Accounts.{Account, IsEntered, IsReplyInEpoch, before_at, events_at, places}
use Rattle.partition.specs.Events.{Event, event}
use Rattle.partition.specs.Journals.{IsEnd}

-- The account goes on without its events: in the same epoch, it begins anew behind them, at the content to which they led.
pub record BeginsAnew (old new : Account) : Type 0 where
  pub limits : new.limits ≡ old.limits
  pub number : new.start.number ≡ old.start.number
  pub places : new.start.before ≡ places old
  pub content : IsEnd old.start.base old.events new.start.base
  pub none : new.events ≡ []

-- so does the account of each tenant
pub record AreBegunAnew (old new : List Account) : Type 0 where
  pub each : (tenant : ℕ) (account : Account) → slice_get old tenant ≡ Some account
      → (now : Account) × BeginsAnew account now × (slice_get new tenant ≡ Some now)
  pub tenants : length new ≡ length old

-- The event is one more of this tenant's journal, where journals are kept. Where not, no account keeps an event behind it.
abbrev pub IsTaken : Bool → List Account → List Account → ℕ → Event → Type 0
IsTaken true old new tenant e = IsEntered old new tenant e
IsTaken false old new tenant e = (with_it : List Account) × IsEntered old with_it tenant e × AreBegunAnew with_it new

-- Where the call was served it is the tenant's next one, at the place and with the reply of the result, a reply that the calls before it
-- give; and its event is kept, where journals are. Where it was not, the accounts are as they were.
pub record TakesCall {A E : Type 0} (journals : Bool) (old new : List Account) (tenant seat number : ℕ) (call : Call)
    (place_in : A → ℕ) (reply_in : A → Option Reply) (result : Result A E) : Type 0 where
  pub taken : IfOk result (λ told. IsSomeAnd (reply_in told) (λ r. IsTaken journals old new tenant (event seat number call r)))
  pub reply : IfOk result (λ told. IsSomeAnd (reply_in told) (λ r. IsReplyInEpoch old tenant call r))
  pub place : IfOk result (λ told. place_in told ≡ before_at old tenant + length (events_at old tenant) + 1)
  pub unchanged : OnErr result (new ≡ old)
