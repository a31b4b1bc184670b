-- The calls that a seat has staged.
use Rattle.std.specs.Prelude.{◌≡◌, ℕ, ◌+◌, Bool, true, false, cond, set, slice_get, IsSomeAnd, List, [], ◌∷◌, ◌++◌, Option, Some, None}
use Rattle.std.specs.Prelude.{drop}
use Rattle.std.specs.List.{count_by}
use Rattle.plain_store.specs.declared.message.Message.{Message}
use Rattle.history.specs.declared.rule.Naming.{Ghosts}
use Rattle.shard.specs.Asked.{without_reply}
use Rattle.shard.specs.Homes.{place_of}
use Rattle.shard.specs.Journals.{came_to}
use Rattle.shard.specs.Queues.{QueueEnd}
use Rattle.shard.specs.declared.jobs.SeatReply.{SeatReply}
use Rattle.shard.specs.declared.seat_name.SeatName.{SeatName}
use Rattle.shard.specs.declared.shard.CallState.{CallState}
use Rattle.shard.specs.declared.shard.CallState.TheVariants.{Pending, Deferred, Served}
use Rattle.shard.specs.declared.shard.Staged.{Staged}
use Rattle.shard.specs.declared.seat_call.SeatCall.{SeatCall}

-- whether a call that has come so far was not served
abbrev pub is_to_serve : CallState → Bool
is_to_serve Pending = true
is_to_serve Deferred = true
is_to_serve (Served outcome) = false

-- nor left to a worker
abbrev pub is_with_seat : CallState → Bool
is_with_seat Pending = true
is_with_seat Deferred = false
is_with_seat (Served outcome) = false

abbrev pub is_unserved : {G : Type 0} {naming : Ghosts G} → Staged G naming → Bool
is_unserved staged = is_to_serve staged.stage

-- how many of the calls behind the first so many were not served
abbrev pub unserved : {G : Type 0} {naming : Ghosts G} → ℕ → List (Staged G naming) → ℕ
unserved from calls = count_by is_unserved (drop from calls)

-- behind the first so many calls, this is the first one that was not served, and the others are left
pub record IsFirstOf {G : Type 0} {naming : Ghosts G} (from : ℕ) (old : List (Staged G naming)) (call : SeatCall G naming) (new : List (Staged G naming)) : Type 0 where
  pub before : List (Staged G naming)
  pub staged : Staged G naming
  pub after : List (Staged G naming)
  pub was : drop from old ≡ before ++ staged ∷ after
  pub is : drop from new ≡ before ++ after
  pub others : count_by is_unserved before ≡ 0
  pub waits : is_unserved staged ≡ true
  pub taken : staged.call ≡ call

-- ---- calls that are staged

-- A call of this session with this number, in a store of so many partitions, which nobody has served: it goes to the home of
-- its key, if it has one, and else to the partition that its message names.
pub record IsStagedFor {G : Type 0} {naming : Ghosts G} (name : SeatName) (partitions nth : ℕ) (staged : Staged G naming) : Type 0 where
  pub tenant : staged.call.tenant ≡ name.tenant
  pub seat : staged.call.seat ≡ name.seat
  pub number : staged.call.number ≡ nth
  pub parts : staged.call.parts ≡ partitions
  pub partition : staged.call.partition
      ≡ place_of staged.call.message.value.call partitions staged.call.message.value.partition
  pub stage : staged.stage ≡ Pending

-- a call of this session was staged behind those that were, in this message, if there is one; the box has the reply to its last
-- call until this one is served
pub record IsStagedNext {G : Type 0} {naming : Ghosts G} (name : SeatName) (partitions nth : ℕ) (message : Option Message) (old new : List (Staged G naming))
    : Type 0 where
  pub staged : Staged G naming
  pub is : new ≡ old ++ staged ∷ []
  pub its : IsStagedFor name partitions nth staged
  pub in_message : message ≡ Some (without_reply staged.call.message.value)

-- calls of this session, numbered on from this number, in these messages, which have no reply
abbrev pub AreStagedFor : {G : Type 0} {naming : Ghosts G} → SeatName → ℕ → ℕ → List Message → List (Staged G naming) → Type 0
AreStagedFor name partitions nth [] [] = Unit {0}
AreStagedFor name partitions nth [] (staged ∷ calls) = ⊥
AreStagedFor name partitions nth (message ∷ messages) [] = ⊥
AreStagedFor name partitions nth (message ∷ messages) (staged ∷ calls) =
    (without_reply staged.call.message.value ≡ message) × IsStagedFor name partitions nth staged
    × AreStagedFor name partitions (nth + 1) messages calls

-- these messages were staged behind the calls that were
pub record AreStagedBehind {G : Type 0} {naming : Ghosts G} (name : SeatName) (partitions nth : ℕ) (messages : List Message) (old new : List (Staged G naming))
    : Type 0 where
  pub more : List (Staged G naming)
  pub is : new ≡ old ++ more
  pub staged : AreStagedFor name partitions nth messages more

-- ---- calls on their way

-- of these ends of queues, the one at this place has sent one task more, and the others none
abbrev pub HasSentAt : ℕ → List QueueEnd → List QueueEnd → Type 0
HasSentAt at old new = IsSomeAnd (slice_get old at) (λ queue. new ≡ set old at (record queue { count = queue.count + 1 }))

-- ---- a call that is staged

-- where it goes, if nobody has served it and it is not left to a worker
abbrev pub place_if_open : {G : Type 0} {naming : Ghosts G} → Staged G naming → Option ℕ
place_if_open staged = cond (is_with_seat staged.stage) (Some staged.call.partition) None

-- the reply to it, as far as it has come
pub record IsReplyOf {G : Type 0} {naming : Ghosts G} (staged : Staged G naming) (reply : SeatReply G naming) : Type 0 where
  pub tenant : reply.tenant ≡ staged.call.tenant
  pub seat : reply.seat ≡ staged.call.seat
  pub number : reply.number ≡ staged.call.number
  pub mark : reply.mark ≡ staged.call.mark
  pub partition : reply.partition ≡ staged.call.partition
  pub outcome : reply.outcome ≡ came_to staged.stage
  pub message : reply.message ≡ staged.call.message

-- what is said of the first of them, if there is one
abbrev pub IfFirst : {G : Type 0} {naming : Ghosts G} → List (Staged G naming) → (Staged G naming → Type 0) → Type 0
IfFirst [] P = Unit {0}
IfFirst (staged ∷ calls) P = P staged
