use Rattle.std.proofs.Common.{ap, ◌∙◌}
use Rattle.tenant_sessions.proofs.Standing.{hello_held, hello_added, hello_unplaced}
use Rattle.tenant_sessions.proofs.Written.{content_of, found_held, found_none, written_holds}
use Rattle.tenant_sessions.proofs.sessions.Sessions.hello.Goals as goal

pub returns-in-Some-clause-told : goal.returns-in-Some-clause-told
returns-in-Some-clause-told c setup history ran stands memory =
    let at = found_held c.self.inside.parts c.self.inside.limit c.self.inside.clients c.args.self.now c.self.view_is c.args.client c.get.result c.get_mut.result c.in-Some.session c.get.ensures.value c.get_mut.ensures.value c.in-Some.is in
    let holds = written_holds c.self.inside.parts c.self.inside.limit c.self.inside.clients c.args.self.now c.self.view_is c.args.client c.get.result (c.get_mut.follows.lender c.reopen.new.self) c.reopen.new.self c.in-Some.session.now
    c.get.ensures.value at (c.get_mut.follows.holds c.reopen.new.self) in
    hello_held setup history c.args.client c.args.base c.args.self.now _ c.in-Some.session.now c.reopen.new.self c.reopen.result stands at holds.0 holds.1 c.reopen.ensures.answer c.reopen.ensures.after

pub returns-in-None-clause-told : goal.returns-in-None-clause-told
returns-in-None-clause-told c setup history ran stands memory =
    let at = found_none c.self.inside.parts c.self.inside.limit c.self.inside.clients c.args.self.now c.self.view_is c.args.client c.get.result c.get_mut.result c.get.ensures.value c.get_mut.ensures.value c.in-None.is in
    hello_added setup history c.args.client c.args.base c.args.self.now _ c.add.new.self c.add.result stands at
    (ap (content_of c.self.inside.parts c.self.inside.limit) c.get_mut.follows.holds-at-none ∙ c.self.view_is) c.add.ensures.full c.add.ensures.added memory

pub returns-in-None-clause-tested : goal.returns-in-None-clause-tested
returns-in-None-clause-tested c setup history ran stands memory =
    let at = found_none c.self.inside.parts c.self.inside.limit c.self.inside.clients c.args.self.now c.self.view_is c.args.client c.get.result c.get_mut.result c.get.ensures.value c.get_mut.ensures.value c.in-None.is in
    hello_unplaced setup history c.args.client c.args.base c.args.self.now _ c.add.new.self c.add.result stands at
    (ap (content_of c.self.inside.parts c.self.inside.limit) c.get_mut.follows.holds-at-none ∙ c.self.view_is) c.add.ensures.full memory
