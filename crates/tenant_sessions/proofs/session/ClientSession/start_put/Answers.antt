use Rattle.std.proofs.Common.{◌≡◌, ◌∙◌, Bool, true, false, not, refl, sym, ap, subst, max, Option}
use Rattle.std.specs.Prelude.{Err, IsSome, IfSome}
use Rattle.std.proofs.lemmas.Bool.{not-true}
use Rattle.plain_store.specs.History.{Writes}
use Rattle.plain_store.specs.Run.{are_bad}
use Rattle.plain_store.specs.Words.{Stamp}
use Rattle.plain_store.specs.Writing.{keys_written}
use Rattle.tenant_sessions.specs.declared.running.Running.{Running}
use Rattle.tenant_sessions.specs.declared.session.ClientSession.{ClientSession}
use Rattle.tenant_sessions.specs.Begins.{HasBegun}
use Rattle.tenant_sessions.specs.Running.{Starts}
use Rattle.tenant_sessions.proofs.Begun.{bad_put, none_held, passes_put, spent_put}
use Rattle.tenant_sessions.proofs.HasBegun.{has_begun}
use Rattle.tenant_sessions.proofs.session.ClientSession.start_put.Goals as goal

not-false : (b : Bool) → not b ≡ false → b ≡ true
not-false false e = sym e
not-false true e = refl

pub returns-in_default-next_stamp : goal.returns-in_default-next_stamp
returns-in_default-next_stamp c =
    let refused = spent_put c.args.self.now (sym c.test_idle.ensures ∙ c.in_default.is) c.args.items.now (sym c.in_default-next_stamp.ensures.used) in
    record { refused = refused ∙ ap Err (sym c.unstamped.ensures); unchanged = refl; passed = tt; begun = tt; still_open = refl }

pub returns-then-not-begin_put : goal.returns-then-not-begin_put
returns-then-not-begin_put c =
    let held = c.args.self.now in
    let idle = sym c.test_idle.ensures ∙ c.in_default.is in
    let bad = not-false (are_bad (keys_written c.args.items.now)) (sym c.begin_put.ensures.refused ∙ c.if-not-begin_put.true) in
    record {
      refused = bad_put held idle c.args.items.now bad;
      unchanged = ap (λ (o : Option Running). record held { running = o }) (c.begin_put.ensures.none c.if-not-begin_put.true ∙ sym (none_held held idle));
      passed = tt;
      begun = tt;
      still_open = refl;
    }

pub returns : goal.returns
returns c =
    let held = c.args.self.now in
    let items = c.args.items.now in
    let idle = sym c.test_idle.ensures ∙ c.in_default.is in
    let stamp = c.in-Some.stamp in
    let after = c.draw.new.self in
    let good = not-true (are_bad (keys_written items)) (sym c.begin_put.ensures.refused ∙ c.if-not-begin_put.false) in
    let drawn = c.draw.ensures in
    let opened = ap (λ (s : ClientSession). s.is_open) drawn in
    let runs : after.running ≡ c.begin_put.new.self = ap (λ (s : ClientSession). s.running) drawn in
    record {
      refused = tt;
      unchanged = tt;
      passed = passes_put held idle items good (sym c.in-Some.ensures.used);
      begun =
          subst (λ (own : Stamp). HasBegun c.args.parts (Writes own items) held after) c.in-Some.ensures.drawn
          (has_begun c.args.parts (Writes stamp items) held after c.requires good opened (ap (λ (s : ClientSession). s.counter) drawn ∙ ap (λ n. max n held.counter) c.counter.ensures.value)
          (ap (λ (s : ClientSession). s.ticket) drawn)
          (λ setup same. subst (λ (o : Option Running). IsSome o × IfSome o (λ running. Starts setup (Writes stamp items) running)) (sym runs) (c.begin_put.ensures.starts setup same c.if-not-begin_put.false)));
      still_open = opened;
    }
