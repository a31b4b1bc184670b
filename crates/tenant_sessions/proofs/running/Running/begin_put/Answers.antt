use Rattle.std.proofs.Common.{◌≡◌, ◌∙◌, true, false, not, ap, refl, sym}
use Rattle.plain_store.specs.Writing.{keys_written}
use Rattle.tenant_sessions.proofs.Starting.{passes_good, write_starts}
use Rattle.tenant_sessions.proofs.running.Running.begin_put.Goals as goal

pub returns-then-not-prepare : goal.returns-then-not-prepare
returns-then-not-prepare c =
    let said = sym c.if-not-prepare.true ∙ passes_good (keys_written c.args.items.now) c.prepare.result c.prepare.ensures.exact.0 c.prepare.ensures.exact.1 in
    (said, λ setup parts fits. let no : false ≡ true = said ∙ ap not fits in cc)

pub returns : goal.returns
returns c = (
  sym c.if-not-prepare.false ∙ passes_good (keys_written c.args.items.now) c.prepare.result c.prepare.ensures.exact.0 c.prepare.ensures.exact.1,
  λ setup parts fits.
      let good = c.prepare.ensures.exact.0 c.if-not-prepare.false in
      let starts = write_starts setup c.args.parts parts c.args.stamp c.args.items.now c.reset.new.self c.prepare.new.self good (c.reset.ensures setup parts) (c.prepare.ensures.made c.if-not-prepare.false) in
      record { stands = record { parts = sym parts; runs = (refl, starts.0) }; calls = starts.1 },
)
