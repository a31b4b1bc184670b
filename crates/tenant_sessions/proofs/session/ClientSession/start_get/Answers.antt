use Rattle.std.proofs.Common.{◌≡◌, ◌∙◌, Bool, true, false, not, cond, refl, sym, ap, subst, rules, List, Option, Some, None, is_some}
use Rattle.std.specs.Prelude.{Ok, Err, IsSome, IfSome}
use Rattle.std.proofs.lemmas.Bool.{not-true}
use Rattle.plain_store.specs.History.{Gets}
use Rattle.plain_store.specs.Run.{are_bad}
use Rattle.plain_store.specs.Words.{Key}
use Rattle.plain_store.specs.declared.refusal.Refusal.TheVariants.{Busy, BadItems, Stopped}
use Rattle.tenant_sessions.specs.declared.running.Running.{Running}
use Rattle.tenant_sessions.specs.declared.session.ClientSession.{ClientSession}
use Rattle.tenant_sessions.specs.Held.{test_idle, test_get}
use Rattle.tenant_sessions.specs.Running.{Starts}
use Rattle.tenant_sessions.proofs.HasBegun.{has_begun}
use Rattle.tenant_sessions.proofs.Refusing.{is_opened, passes}
use Rattle.tenant_sessions.proofs.session.ClientSession.start_get.Goals as goal

none_runs : {X : Type 0} (o : Option X) → is_some o ≡ false → o ≡ None
none_runs None e = refl
none_runs (Some x) e = cc

not-false : (b : Bool) → not b ≡ false → b ≡ true
not-false false e = sym e
not-false true e = refl

-- an idle session refuses a read of such keys, and has nothing that runs
module _ (held : ClientSession) (idle : test_idle held ≡ Ok tt) where
  is_idle : (held.is_open ≡ true) × (is_some held.running ≡ false)
  is_idle = let o = is_opened held.is_open _ idle in (o.0, (passes (is_some held.running) Busy (Ok tt) o.1).0)

  bad_get : (keys : List Key) → are_bad keys ≡ true → test_get held keys ≡ Err BadItems
  bad_get keys bad = (λ i. cond (is_idle.0 i) (cond (is_idle.1 i) (Err Busy) (cond (bad i) (Err BadItems) (Ok tt))) (Err Stopped))

  none_held : held.running ≡ None
  none_held = none_runs held.running is_idle.1

pub returns-then-not-begin_get : goal.returns-then-not-begin_get
returns-then-not-begin_get c =
    let held = c.args.self.now in
    let idle : test_idle held ≡ Ok tt = sym c.test_idle.ensures ∙ c.in_default.is in
    let bad = not-false (are_bad c.args.keys.now) (sym c.begin_get.ensures.refused ∙ c.if-not-begin_get.true) in
    record {
      refused = bad_get held idle c.args.keys.now bad;
      unchanged = ap (λ (o : Option Running). record held { running = o }) (c.begin_get.ensures.none c.if-not-begin_get.true ∙ sym (none_held held idle));
      passed = tt;
      begun = tt;
      still_open = refl;
    }

pub returns : goal.returns
returns c =
    let good = not-true (are_bad c.args.keys.now) (sym c.begin_get.ensures.refused ∙ c.if-not-begin_get.false) in
    let drawn = c.draw.ensures in
    let opened = ap (λ (s : ClientSession). s.is_open) drawn in
    let runs : c.draw.new.self.running ≡ c.begin_get.new.self = ap (λ (s : ClientSession). s.running) drawn in
    record {
      refused = tt;
      unchanged = tt;
      passed = search rules;
      begun =
          has_begun c.args.parts (Gets c.args.keys.now) c.args.self.now c.draw.new.self c.requires good opened
          (ap (λ (s : ClientSession). s.counter) drawn) (ap (λ (s : ClientSession). s.ticket) drawn) (λ setup same.
          subst (λ (o : Option Running). IsSome o × IfSome o (λ running. Starts setup (Gets c.args.keys.now) running)) (sym runs) (c.begin_get.ensures.starts setup same c.if-not-begin_get.false));
      still_open = opened;
    }
