use Rattle.std.proofs.Common.{◌≡◌, false, refl, sym, ◌∙◌}
use Rattle.std.proofs.lemmas.Bool.{not-true}
use Rattle.plain_store.specs.Run.{are_bad}
use Rattle.plain_store.specs.Writing.{keys_written}
use Rattle.tenant_sessions.proofs.current.Current.begin_put.Goals as goal

pub returns-then-not-begin_put : goal.returns-then-not-begin_put
returns-then-not-begin_put c = record {
  refused = sym c.if-not-begin_put.true ∙ c.begin_put.ensures.0;
  none = λ _. refl;
  starts = λ setup same ran. cc;
}

pub returns : goal.returns
returns c =
    let good : are_bad (keys_written c.args.items.now) ≡ false = not-true (are_bad (keys_written c.args.items.now)) (sym c.begin_put.ensures.0 ∙ c.if-not-begin_put.false) in
    record {
      refused = sym c.if-not-begin_put.false ∙ c.begin_put.ensures.0;
      none = λ ran. cc;
      starts = λ setup same ran. (refl, c.begin_put.ensures.1 setup same good);
    }
