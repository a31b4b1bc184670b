use Rattle.std.proofs.Common.{◌≡◌, ◌∙◌, ℕ, refl, length}
use Rattle.plain_store.specs.declared.step.Act.TheVariants.{Retry}
use Rattle.plain_store.specs.History.{moment}
use Rattle.plain_store.specs.Run.{next_rows, moment_of}
use Rattle.tenant_sessions.specs.Held.{test_open}
use Rattle.tenant_sessions.specs.Sessions.{waiting, resent}
use Rattle.tenant_sessions.proofs.Refusing.{is_passed, refuses_so, refused_unknown}
use Rattle.tenant_sessions.proofs.Begun.{ok_told}
use Rattle.tenant_sessions.proofs.Resending.{retry_tested, retry_told, count_told}
use Rattle.tenant_sessions.proofs.Written.{read_held, read_none}
use Rattle.tenant_sessions.proofs.sessions.Sessions.retry.Goals as goal

pub returns-in-None-clause-refused : goal.returns-in-None-clause-refused
returns-in-None-clause-refused c setup history ran stands rows =
    refused_unknown setup history c.args.self.now (Retry c.args.client) c.args.client _ _ stands
    (read_none c.self.inside.parts c.self.inside.limit c.self.inside.clients c.args.self.now c.self.view_is c.args.client c.get.result c.get-2.result c.get.ensures.value c.get-2.ensures.value c.in-None.is) refl rows

pub returns-in-Some-clause-refused : goal.returns-in-Some-clause-refused
returns-in-Some-clause-refused c setup history ran stands rows =
    let at = read_held c.self.inside.parts c.self.inside.limit c.self.inside.clients c.args.self.now c.self.view_is c.args.client c.get.result c.get-2.result c.in-Some.session c.get.ensures.value c.get-2.ensures.value c.in-Some.is in
    refuses_so setup history (Retry c.args.client) (test_open c.in-Some.session.now) (retry_tested setup history c.args.self.now c.args.client c.in-Some.session.now stands rows at) c.pending_calls.result c.pending_calls.ensures.refused

pub returns-in-Some-clause-count : goal.returns-in-Some-clause-count
returns-in-Some-clause-count c setup history ran stands =
    count_told setup history c.args.self.now c.args.client c.in-Some.session.now c.pending_calls.result ran stands
    (read_held c.self.inside.parts c.self.inside.limit c.self.inside.clients c.args.self.now c.self.view_is c.args.client c.get.result c.get-2.result c.in-Some.session c.get.ensures.value c.get-2.ensures.value c.in-Some.is) c.pending_calls.ensures.idle c.pending_calls.ensures.count

pub returns-in-Some-clause-told : goal.returns-in-Some-clause-told
returns-in-Some-clause-told c setup history ran stands rows =
    let at = read_held c.self.inside.parts c.self.inside.limit c.self.inside.clients c.args.self.now c.self.view_is c.args.client c.get.result c.get-2.result c.in-Some.session c.get.ensures.value c.get-2.ensures.value c.in-Some.is in
    ok_told (λ (count : ℕ). test_open c.in-Some.session.now ≡ is_passed) (λ (count : ℕ). count ≡ length (waiting setup history c.args.client))
    (λ (count : ℕ). moment_of setup history (Retry c.args.client) ≡ moment (Retry c.args.client) (resent count (next_rows history count)) (waiting setup history c.args.client))
    (λ count passed counted. retry_told setup history c.args.client count (retry_tested setup history c.args.self.now c.args.client c.in-Some.session.now stands rows at ∙ passed) counted)
    c.pending_calls.result c.pending_calls.ensures.passed (returns-in-Some-clause-count c setup history ran stands)
