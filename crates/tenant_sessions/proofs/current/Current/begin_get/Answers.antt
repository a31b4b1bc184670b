use Rattle.std.proofs.Common.{◌≡◌, false, refl, sym, ◌∙◌}
use Rattle.std.proofs.lemmas.Bool.{not-true}
use Rattle.plain_store.specs.Run.{are_bad}
use Rattle.tenant_sessions.proofs.current.Current.begin_get.Goals as goal

pub returns-then-not-begin_get : goal.returns-then-not-begin_get
returns-then-not-begin_get c = record {
  refused = sym c.if-not-begin_get.true ∙ c.begin_get.ensures.0;
  none = λ _. refl;
  starts = λ setup same ran. cc;
}

pub returns : goal.returns
returns c =
    let good : are_bad c.args.keys.now ≡ false = not-true (are_bad c.args.keys.now) (sym c.begin_get.ensures.0 ∙ c.if-not-begin_get.false) in
    record {
      refused = sym c.if-not-begin_get.false ∙ c.begin_get.ensures.0;
      none = λ ran. cc;
      starts = λ setup same ran. (refl, c.begin_get.ensures.1 setup same good);
    }
