use Rattle.std.proofs.Common.{ap, ◌∙◌, Option, Some, None, ◌≡◌, refl}
use Rattle.std.specs.Prelude.{IsSome}
use Rattle.plain_store.specs.declared.calls.Reply.{Reply}
use Rattle.tenant_sessions.specs.Moves.{moved, Move}
use Rattle.tenant_sessions.specs.declared.moves.MoveKind.{MoveKind}
use Rattle.tenant_sessions.proofs.Delivered.{taken_held, taken_unknown}
use Rattle.tenant_sessions.proofs.Written.{content_of, found_held, found_none, written_holds}
use Rattle.tenant_sessions.proofs.sessions.Sessions.take_into.Goals as goal

-- a reply that is there
the_reply : (o : Option Reply) → IsSome o → (reply : Reply) × (o ≡ Some reply)
the_reply (Some reply) some = (reply, refl)
the_reply None some = cc

pub returns-in_default : goal.returns-in_default
returns-in_default c setup history row ran stands at some =
    let none = found_none c.self.inside.parts c.self.inside.limit c.self.inside.clients c.args.self.now c.self.view_is c.args.message.now.client c.get.result c.get_mut.result c.get.ensures.value c.get_mut.ensures.value c.in_default.is in
    let same = ap (content_of c.self.inside.parts c.self.inside.limit) c.get_mut.follows.holds-at-none ∙ c.self.view_is in
    let reply = the_reply c.args.message.now.reply some in
    taken_unknown setup history row c.args.message.now reply.0 c.args.self.now _ stands at reply.1 none same

pub returns : goal.returns
returns c setup history row ran stands at some =
    let found = found_held c.self.inside.parts c.self.inside.limit c.self.inside.clients c.args.self.now c.self.view_is c.args.message.now.client c.get.result c.get_mut.result c.in-Some.session c.get.ensures.value c.get_mut.ensures.value c.in-Some.is in
    let holds = written_holds c.self.inside.parts c.self.inside.limit c.self.inside.clients c.args.self.now c.self.view_is c.args.message.now.client c.get.result (c.get_mut.follows.lender c.take_into.new.self) c.take_into.new.self c.in-Some.session.now
    c.get.ensures.value found (c.get_mut.follows.holds c.take_into.new.self) in
    let reply = the_reply c.args.message.now.reply some in
    let told_so : MoveKind → Move = λ t. moved t c.take_into.new.readings in
    taken_held setup history row c.args.message.now reply.0 c.args.self.now _ c.in-Some.session.now c.take_into.new.self (told_so c.take_into.result) ran stands at reply.1 found holds.0 holds.1
    (λ idle. let left = c.take_into.ensures.idle idle in (ap told_so left.0, left.1)) (λ late. let left = c.take_into.ensures.late late in (ap told_so left.0, left.1)) c.take_into.ensures.taken
