use Rattle.std.proofs.Common.{◌≡◌, ◌∙◌, sym, true, arith}
use Rattle.line_protocol.specs.Reading.{is_numeral}
use Rattle.line_protocol.proofs.Numbers.{number_at-plain, number_at-over, number_at-within, text_refused, text_parses, parsed, not_parsed}
use Rattle.line_protocol.proofs.token.read_number.Goals as goal

pub returns-then-not-is_numeral-clause-value : goal.returns-then-not-is_numeral-clause-value
returns-then-not-is_numeral-clause-value c = sym (number_at-plain c.args.most c.args.text.now (sym c.is_numeral.ensures ∙ c.if-not-is_numeral.true))

pub returns-in_err-digits-clause-value : goal.returns-in_err-digits-clause-value
returns-in_err-digits-clause-value c =
    absurd (text_refused _ _ c.args.text.now c.from_utf8.result (sym c.is_numeral.ensures ∙ c.if-not-is_numeral.false) c.from_utf8.ensures.cases (sym c.ok.ensures.value ∙ c.in_err-digits.was))

pub returns-in_err-number-clause-value : goal.returns-in_err-number-clause-value
returns-in_err-number-clause-value c =
    let numeral : is_numeral c.args.text.now ≡ true = sym c.is_numeral.ensures ∙ c.if-not-is_numeral.false in
    let parses = text_parses _ c.args.text.now c.from_utf8.result c.in_ok-digits.digits c.parse.result c.from_utf8.ensures.cases (sym c.ok.ensures.value ∙ c.in_ok-digits.was) c.parse.ensures.value.0 in
    let large = not_parsed c.args.text.now c.parse.result numeral parses (sym c.ok-2.ensures.value ∙ c.in_err-number.was) in
    c.from_residual-in_err-number.ensures ∙ sym (number_at-over c.args.most c.args.text.now (omega arith))

pub returns-then-number-most-clause-value : goal.returns-then-number-most-clause-value
returns-then-number-most-clause-value c =
    let numeral : is_numeral c.args.text.now ≡ true = sym c.is_numeral.ensures ∙ c.if-not-is_numeral.false in
    let parses = text_parses _ c.args.text.now c.from_utf8.result c.in_ok-digits.digits c.parse.result c.from_utf8.ensures.cases (sym c.ok.ensures.value ∙ c.in_ok-digits.was) c.parse.ensures.value.0 in
    let value = parsed c.args.text.now c.in_ok-number.number c.parse.result numeral parses (sym c.ok-2.ensures.value ∙ c.in_ok-number.was) in
    rw (← value) (sym (number_at-within c.args.most c.args.text.now numeral (let le = c.if-number-most.true in omega arith)))

pub returns-else-number-most-clause-value : goal.returns-else-number-most-clause-value
returns-else-number-most-clause-value c =
    let numeral : is_numeral c.args.text.now ≡ true = sym c.is_numeral.ensures ∙ c.if-not-is_numeral.false in
    let parses = text_parses _ c.args.text.now c.from_utf8.result c.in_ok-digits.digits c.parse.result c.from_utf8.ensures.cases (sym c.ok.ensures.value ∙ c.in_ok-digits.was) c.parse.ensures.value.0 in
    let value = parsed c.args.text.now c.in_ok-number.number c.parse.result numeral parses (sym c.ok-2.ensures.value ∙ c.in_ok-number.was) in
    sym (number_at-over c.args.most c.args.text.now (let lt = c.if-number-most.false in omega arith))
