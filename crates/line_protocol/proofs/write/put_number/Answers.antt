use Rattle.std.proofs.Common.{◌≡◌, List, ℕ, ◌+◌, ◌<◌, ◌≤◌, ◌∷◌, [], ◌++◌, ap, sym, ◌∙◌, arith}
use Rattle.std.specs.Prelude.{◌/◌, ◌%◌, decimal}
use Rattle.std.proofs.lemmas.Fmt.{decimal_digit, decimal_step}
use Rattle.line_protocol.specs.Room.{number_room}
use Rattle.line_protocol.proofs.Appending.{Appends-at_most}
use Rattle.line_protocol.proofs.write.put_number.Goals as goal

two_digits : (n : ℕ) → 10 ≤ n → n < 100 → (48 + n / 10) ∷ (48 + n % 10) ∷ [] ≡ decimal n
two_digits n low high = sym (decimal_step n low (omega arith) ∙ ap (λ (ds : List ℕ). ds ++ (48 + n % 10) ∷ []) (decimal_digit (n / 10) (omega arith)))

three_digits : (n : ℕ) → 100 ≤ n → n < 1000 → (48 + n / 10 / 10) ∷ (48 + n / 10 % 10) ∷ (48 + n % 10) ∷ [] ≡ decimal n
three_digits n low high = sym (decimal_step n (omega arith) (omega arith) ∙ ap (λ (ds : List ℕ). ds ++ (48 + n % 10) ∷ []) (sym (two_digits (n / 10) (omega arith) (omega arith))))

pub returns-then-number-lt10 : goal.returns-then-number-lt10
returns-then-number-lt10 c =
    Appends-at_most 1 number_room c.args.out.now c.put.new.out _ _ (omega arith) (sym (decimal_digit c.args.number c.if-number-lt10.true)) c.put.ensures

pub returns-then-number-lt100 : goal.returns-then-number-lt100
returns-then-number-lt100 c =
    Appends-at_most 2 number_room c.args.out.now c.put-then-number-lt100.new.out _ _ (omega arith) (two_digits c.args.number c.if-number-lt10.false c.if-number-lt100.true) c.put-then-number-lt100.ensures

pub returns-then-number-lt1000 : goal.returns-then-number-lt1000
returns-then-number-lt1000 c =
    Appends-at_most 3 number_room c.args.out.now c.put-then-number-lt1000.new.out _ _ (omega arith) (three_digits c.args.number c.if-number-lt100.false c.if-number-lt1000.true) c.put-then-number-lt1000.ensures
