-- What contracts see of an event.
use Rattle.std.specs.Prelude.{ℕ, Bool, true, false}
use Rattle.plain_store.specs.declared.calls.Call.{Call}
use Rattle.plain_store.specs.declared.calls.Call.TheVariants.{Prepare, Commit, Get, Found, Collect, Discard}
use Rattle.plain_store.specs.declared.calls.Reply.{Reply}
use Rattle.plain_store.specs.declared.calls.Reply.TheVariants.{Prepare as ToPrepare, Committed as ToCommit}
use Rattle.plain_store.specs.declared.calls.Reply.TheVariants.{Get as ToGet, Found as ToFound, Freed as ToCollect}
use Rattle.plain_store.specs.declared.calls.Reply.TheVariants.{Discard as ToDiscard}

-- a call that a tenant's cell served, and its reply; the seat that sent it, and which of the seat's calls it was
pub record Event : Type 0 where
  pub seat : ℕ
  pub number : ℕ
  pub call : Call
  pub reply : Reply

abbrev pub event : ℕ → ℕ → Call → Reply → Event
event seat number call reply = record { seat = seat; number = number; call = call; reply = reply }

-- whether the reply is one to such a call
abbrev pub is_reply_to : Call → Reply → Bool
is_reply_to (Prepare version) (ToPrepare reply) = true
is_reply_to (Commit stamp) (ToCommit count) = true
is_reply_to (Get key stamp) (ToGet reply) = true
is_reply_to (Found tag) (ToFound found) = true
is_reply_to (Collect keep) (ToCollect count) = true
is_reply_to (Discard stamp) (ToDiscard reply) = true
is_reply_to call reply = false
