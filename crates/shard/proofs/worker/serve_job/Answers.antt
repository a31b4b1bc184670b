use Rattle.std.proofs.Common.{◌≡◌, ◌∙◌, ap}
use Rattle.std.specs.Global.{Box}
use Rattle.plain_store.specs.declared.message.Message.{Message}
use Rattle.history.specs.declared.rule.Naming.{Ghosts}
use Rattle.shard.specs.Asked.{AskedCall, IsReplyToCall, asked_of, without_reply}
use Rattle.shard.specs.declared.jobs.SeatReply.{SeatReply}
use Rattle.shard.specs.declared.seat_call.SeatCall.{SeatCall}
use Rattle.shard.proofs.worker.serve_job.Goals as goal

-- the reply that was made of the call as it was served is to the call that came
to_call : {J : Type 0} {naming : Ghosts J} (call served : SeatCall J naming) (reply : SeatReply J naming) → (reply.number ≡ served.number) × (reply.partition ≡ served.partition)
    → (reply.tenant ≡ served.tenant) × (reply.seat ≡ served.seat) → reply.message ≡ served.message
    → asked_of served ≡ asked_of call → IsReplyToCall call reply
to_call call served reply numbered owned message asked = record {
  partition = numbered.1 ∙ ap (λ (a : AskedCall). a.partition) asked;
  tenant = owned.0 ∙ ap (λ (a : AskedCall). a.tenant) asked;
  seat = owned.1 ∙ ap (λ (a : AskedCall). a.seat) asked;
  number = numbered.0 ∙ ap (λ (a : AskedCall). a.number) asked;
  message = ap (λ (b : Box Message). without_reply b.value) message ∙ ap (λ (a : AskedCall). a.message) asked;
}

pub returns-then-follow_up : goal.returns-then-follow_up
returns-then-follow_up g c =
    (c.replied.result, to_call c.args.call c.serve_sent-outcome.new.call c.replied.result c.replied.ensures.call c.replied.ensures.seat c.replied.ensures.outcome.1 c.serve_sent-outcome.ensures.asked, c.send_reply.ensures)

pub returns-else-follow_up : goal.returns-else-follow_up
returns-else-follow_up g c =
    (c.replied.result, to_call c.args.call c.serve_sent-outcome.new.call c.replied.result c.replied.ensures.call c.replied.ensures.seat c.replied.ensures.outcome.1 c.serve_sent-outcome.ensures.asked, c.send_reply.ensures)
