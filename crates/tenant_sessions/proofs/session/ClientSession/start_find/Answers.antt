use Rattle.std.proofs.Common.{ap, rules}
use Rattle.plain_store.specs.History.{Finds}
use Rattle.tenant_sessions.specs.declared.session.ClientSession.{ClientSession}
use Rattle.tenant_sessions.proofs.HasBegun.{has_begun}
use Rattle.tenant_sessions.proofs.session.ClientSession.start_find.Goals as goal

pub returns : goal.returns
returns c =
    let drawn = c.draw.ensures in
    let opened = ap (λ (s : ClientSession). s.is_open) drawn in
    record {
      refused = tt;
      unchanged = tt;
      passed = search rules;
      begun =
          has_begun c.args.parts (Finds c.args.tag) c.args.self.now _ c.requires tt opened
          (ap (λ (s : ClientSession). s.counter) drawn) (ap (λ (s : ClientSession). s.ticket) drawn) c.begin_find.ensures;
      still_open = opened;
    }
