use Rattle.std.proofs.Common.{◌∙◌, ap, sym}
use Rattle.std.specs.Prelude.{◌==◌}
use Rattle.std.proofs.lemmas.Bool.{ne_eqb, eq-eqb}
use Rattle.plain_store.specs.Numbers.{number_of, all_refusals}
use Rattle.plain_store.specs.declared.refusal.Refusal.TheVariants.{NoTenant}
use Rattle.plain_store.proofs.Numbered.{none_more, is_found}
use Rattle.plain_store.proofs.refusal.Refusal.of_number.Goals as goal

pub loop-refusal-preserved : goal.loop-refusal-preserved
loop-refusal-preserved c =
    let number = c.args.number in
    none_more (λ refusal. number_of refusal == number) all_refusals c.loop-refusal.refusal-index NoTenant c.loop-refusal-test.true c.loop-refusal.invariant
    (ap (λ n. n == number) (sym c.number.ensures) ∙ ne_eqb c.number.result number c.if-number.false)

pub returns-then-number : goal.returns-then-number
returns-then-number c =
    let number = c.args.number in
    sym (is_found (λ refusal. number_of refusal == number) all_refusals c.loop-refusal.refusal-index NoTenant c.loop-refusal-test.true c.loop-refusal.invariant
    (ap (λ n. n == number) (sym c.number.ensures) ∙ eq-eqb c.number.result number c.if-number.true))
