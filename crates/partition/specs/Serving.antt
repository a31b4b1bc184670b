-- What comes of a seat's call for a tenant at a partition.
use Rattle.std.specs.Prelude.{◌≡◌, ◌+◌, ℕ, Option, Result, IfOk, OnErr, IsSomeAnd, List, length}
use Rattle.plain_store.specs.declared.calls.Call.{Call}
use Rattle.plain_store.specs.declared.calls.Reply.{Reply}
use Rattle.partition.specs.Accounts.{Account, IsEntered, IsReplyInEpoch, before_at, events_at}
use Rattle.partition.specs.Events.{event}

-- Where the call was served it is the next event of the tenant's journal, at the place and with the reply of the result, a reply
-- that the events before it give. Where it was not, the journals are as they were.
pub record EntersCall {A E : Type 0} (old new : List Account) (tenant seat number : ℕ) (call : Call)
    (place_in : A → ℕ) (reply_in : A → Option Reply) (result : Result A E) : Type 0 where
  pub entered : IfOk result (λ told. IsSomeAnd (reply_in told) (λ r. IsEntered old new tenant (event seat number call r)))
  pub reply : IfOk result (λ told. IsSomeAnd (reply_in told) (λ r. IsReplyInEpoch old tenant call r))
  pub place : IfOk result (λ told. place_in told ≡ before_at old tenant + length (events_at old tenant) + 1)
  pub unchanged : OnErr result (new ≡ old)
