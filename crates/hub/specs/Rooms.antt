-- What an operation makes room for.
use Rattle.std.specs.Prelude.{◌≡◌, ℕ, ◌+◌, ◌-◌, ◌^◌, ◌<◌, ◌≤◌, Bool, IsTrue, true, false, map, vec_len}
use Rattle.std.specs.VecDeque.{deque_capacity, deque_len}
use Rattle.history.specs.declared.rule.Naming.{Ghosts}
use Rattle.shard.specs.Asked.{asked_by}
use Rattle.hub.specs.Limits.{max_calls}
use Rattle.hub.specs.declared.dispatcher.Dispatcher.{Dispatcher}
use Rattle.tenant_sessions.specs.declared.moves.MoveKind.{MoveKind}
use Rattle.tenant_sessions.specs.declared.moves.MoveKind.TheVariants.{Wait, Decided, Done, Ask, Begins, Read, Listed}
use Rattle.tenant_sessions.specs.declared.moves.MoveKind.TheVariants.{Restart, Ended, Ignored}

-- For so many calls more, which lie in boxes, there are numbers, places among those that are staged, and ends of the way
-- back, besides those of the calls that are staged by then.
pub record HasPlaces {G : Type 0} {naming : Ghosts G} (calls : ℕ) (queues : Dispatcher G naming) : Type 0 where
  pub numbers : queues.sent + calls ≤ max_calls
  pub places : deque_len queues.calls + calls ≤ deque_capacity queues.calls
  pub ends : (deque_len queues.calls - queues.served) + calls ≤ vec_len queues.spare

-- and boxes as well
pub record HasRoom {G : Type 0} {naming : Ghosts G} (calls : ℕ) (queues : Dispatcher G naming) : Type 0 where
  pub boxes : calls ≤ deque_len queues.pool.boxes
  pub there : HasPlaces calls queues

-- no place, box or end is used, and none is made
pub record SameRoom {G : Type 0} {naming : Ghosts G} (old new : Dispatcher G naming) : Type 0 where
  pub places : deque_capacity new.calls ≡ deque_capacity old.calls
  pub pool : new.pool ≡ old.pool
  pub ends : new.spare ≡ old.spare

-- Calls are served where they wait: each is still there and asks what it asked, and none was sent or handed over.
pub record ServesHere {G : Type 0} {naming : Ghosts G} (old new : Dispatcher G naming) : Type 0 where
  pub sent : new.sent ≡ old.sent
  pub room : SameRoom old new
  pub served : new.served ≡ old.served
  pub calls : (deque_len new.calls ≡ deque_len old.calls) × (new.queued ≡ old.queued)
  pub asked : map asked_by new.calls.items ≡ map asked_by old.calls.items

-- All that is staged goes out, or not all. There is as much room as before, none was sent anew, and where all went out, none was lost or
-- doubled: what is no longer here is with workers.
pub record HandsOut {G : Type 0} {naming : Ghosts G} (all : Bool) (old new : Dispatcher G naming) : Type 0 where
  pub room : (calls : ℕ) → HasRoom calls old → HasRoom calls new
  pub none : deque_len old.calls ≤ old.served → IsTrue all
  pub sent : new.sent ≡ old.sent
  pub kept : IsTrue all → deque_len old.calls + old.queued < 2 ^ 64 → deque_len new.calls + new.queued ≡ deque_len old.calls + old.queued
  pub served : new.served ≡ deque_len new.calls

-- A reply is taken, or none can come. One call of those that are here, or of those with workers, is answered at most.
pub record TakesOne {G : Type 0} {naming : Ghosts G} (old new : Dispatcher G naming) : Type 0 where
  pub queued : (new.queued ≤ old.queued) × (old.queued + old.served ≤ new.queued + new.served + 1)
  pub here : 0 < old.served → 0 < deque_len old.calls → new.queued ≡ old.queued
  pub room : (calls : ℕ) → HasRoom calls old → HasRoom calls new
  pub sent : new.sent ≡ old.sent

-- how many replies are still to come: to calls that are no longer staged, and to those with workers
abbrev pub awaited : {G : Type 0} {naming : Ghosts G} → Dispatcher G naming → ℕ
awaited queues = queues.served + queues.queued

-- whether COMMITs are sent with the move
abbrev pub has_commits : MoveKind → Bool
has_commits Wait = false
has_commits (Decided stamp) = true
has_commits (Done stamp) = false
has_commits Ask = false
has_commits Begins = false
has_commits Read = false
has_commits Listed = false
has_commits (Restart key floor) = false
has_commits (Ended refusal calls) = false
has_commits Ignored = false
