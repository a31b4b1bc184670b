use Rattle.std.proofs.Common.{inl, refl}
use Rattle.plain_store.specs.declared.refusal.Refusal.TheVariants.{NoTenant}
use Rattle.server_sessions.proofs.ToldOf.{Tells-refused}
use Rattle.server_sessions.proofs.Greeting.{greeted, greeting_seated, greeting_told}
use Rattle.server_sessions.proofs.line_session.Connection.hello.Goals as goal

pub returns-in_default-clause-told : goal.returns-in_default-clause-told
returns-in_default-clause-told g c = rw (c.requires, c.refuse.ensures) (Tells-refused c.args.self.now.terms.options.newest c.args.hub.now.epoch NoTenant)

pub returns-in_default-clause-greeted : goal.returns-in_default-clause-greeted
returns-in_default-clause-greeted g c = rw c.requires (NoTenant, c.refuse.ensures, inl (c.in_default.ensures.none, refl))

pub returns-clause-tenant : goal.returns-clause-tenant
returns-clause-tenant g c =
    rw c.greet.ensures.0 (greeting_seated _ _ c.in-Some.tenant _ _ _ c.args.name.now c.open_seat-opened.result.0 c.open_seat-opened.result.1 _ _ _ c.in-Some.ensures.some c.requires c.open_seat-opened.ensures c.greet.ensures.1)

pub returns-clause-told : goal.returns-clause-told
returns-clause-told g c = greeting_told c.args.self.now.terms.options.newest c.args.hub.now.epoch _ _ _ _ c.open_seat-opened.result.0 c.open_seat-opened.result.1 _ _ _ c.requires c.open_seat-opened.ensures c.greet.ensures.1

pub returns-clause-greeted : goal.returns-clause-greeted
returns-clause-greeted g c = greeted _ _ c.in-Some.tenant _ _ _ c.args.name.now c.open_seat-opened.result.0 c.open_seat-opened.result.1 _ _ _ c.in-Some.ensures.some c.requires c.open_seat-opened.ensures c.greet.ensures.1

pub returns-clause-named : goal.returns-clause-named
returns-clause-named g c = rw c.greet.ensures.2 c.in-Some.ensures.some
