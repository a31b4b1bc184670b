-- What a seat's call asks, on its way and as it is served.
use Rattle.std.specs.Prelude.{◌≡◌, ℕ, None}
use Rattle.plain_store.specs.declared.message.Message.{Message}
use Rattle.history.specs.declared.rule.Naming.{Ghosts}
use Rattle.shard.specs.declared.shard.CallState.TheVariants.{Pending}
use Rattle.shard.specs.declared.shard.Staged.{Staged}
use Rattle.shard.specs.declared.seat_call.SeatCall.{SeatCall}
use Rattle.shard.specs.declared.jobs.SeatReply.{SeatReply}

-- a message, but for its reply
abbrev pub without_reply : Message → Message
without_reply message = record message { reply = None }

-- whose call it is, which one, where it goes, and its message but for the reply
pub record AskedCall : Type 0 where
  pub partition : ℕ
  pub parts : ℕ
  pub tenant : ℕ
  pub seat : ℕ
  pub number : ℕ
  pub message : Message

abbrev pub asked_of : {J : Type 0} {naming : Ghosts J} → SeatCall J naming → AskedCall
asked_of call =
    record {
      partition = call.partition;
      parts = call.parts;
      tenant = call.tenant;
      seat = call.seat;
      number = call.number;
      message = without_reply call.message.value;
    }

abbrev pub asked_by : {J : Type 0} {naming : Ghosts J} → Staged J naming → AskedCall
asked_by staged = asked_of staged.call

-- the reply is to this call: to its seat, under its number, and in its message
pub record IsReplyToCall {J : Type 0} {naming : Ghosts J} (call : SeatCall J naming) (reply : SeatReply J naming) : Type 0 where
  pub partition : reply.partition ≡ call.partition
  pub tenant : reply.tenant ≡ call.tenant
  pub seat : reply.seat ≡ call.seat
  pub number : reply.number ≡ call.number
  pub message : without_reply reply.message.value ≡ without_reply call.message.value

-- it is for this partition, one of so many, and is as it was staged
abbrev pub IsOpenAt : {J : Type 0} {naming : Ghosts J} → (partition parts : ℕ) → Staged J naming → Type 0
IsOpenAt partition parts staged =
    (staged.call.partition ≡ partition) × (staged.call.parts ≡ parts) × (staged.stage ≡ Pending)
