use Rattle.std.proofs.Common.{◌≡◌, Bool, true, false, not, refl, ap, sym, ◌∙◌}
use Rattle.plain_store.specs.Run.{are_bad}
use Rattle.plain_store.proofs.BadKeys.{transaction_keys}
use Rattle.tenant_sessions.proofs.Starting.{read_starts}
use Rattle.tenant_sessions.proofs.running.Running.begin_get.Goals as goal

-- what is refused only where this holds says whether it does not
says_not : (b r : Bool) → r ≡ true → (b ≡ true → r ≡ false) → r ≡ not b
says_not false r is f = is
says_not true r is f = f refl

pub returns-then-not-reset : goal.returns-then-not-reset
returns-then-not-reset c =
    let bad : are_bad c.args.keys.now ≡ true = c.reset.ensures.refused.0 c.if-not-reset.true in
    (sym (ap not bad), λ setup parts fits. let no : true ≡ false = sym bad ∙ fits in cc)

was_false : (b : Bool) → not b ≡ true → b ≡ false
was_false true is = cc
was_false false is = refl

pub read-requires-clause-apart : goal.read-requires-clause-apart
read-requires-clause-apart c = λ _.
    let good : not (are_bad c.args.keys.now) ≡ true =
    sym (says_not (are_bad c.args.keys.now) c.reset.result c.if-not-reset.false c.reset.ensures.refused.1) ∙ c.if-not-reset.false in
    (transaction_keys c.args.keys.now (was_false (are_bad c.args.keys.now) good)).distinct

pub returns : goal.returns
returns c = (
  sym c.if-not-reset.false ∙ says_not (are_bad c.args.keys.now) c.reset.result c.if-not-reset.false c.reset.ensures.refused.1,
  λ setup parts fits.
      let starts = read_starts setup c.args.parts parts c.args.keys.now c.reset.new.self c.read.new.self (transaction_keys c.args.keys.now fits)
      (c.reset.ensures.stands c.if-not-reset.false) c.read.ensures.awaits.calls in
      record { stands = record { parts = sym parts; runs = starts.0 }; calls = starts.1 },
)
