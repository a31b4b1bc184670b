use Rattle.std.proofs.Common.{◌≡◌, ℕ, ◌+◌, ◌%◌, ◌^◌, ◌<◌, bit_and, List, length, take, drop, replicate, ap, sym, ◌∙◌, arith, rules}
use Rattle.std.specs.List.{sum}
use Rattle.std.proofs.lemmas.List.Sums.{sum_by-take-drop}
use Rattle.std.proofs.lemmas.List.Folds.{sum_by-replicate}
use Rattle.std.proofs.Math.Nat.{mod-eq_of_lt}
use Rattle.stamps.specs.Key.{home_of}
use Rattle.stamps.proofs.key.home.Goals as goal
use Rattle.stamps.proofs.key.home.Goals.{After-sum}

-- zeros behind the bytes of a list add nothing
sum-padded : (xs all : List ℕ) (n : ℕ) → take (length xs) all ≡ xs → drop (length xs) all ≡ replicate n 0 → sum all ≡ sum xs
sum-padded xs all n front rest =
    sym (sum_by-take-drop (λ x. x) all (length xs)) ∙ ap (λ l. sum l + sum (drop (length xs) all)) front ∙ ap (λ l. sum xs + sum l) rest
    ∙ ap (λ m. sum xs + m) (sum_by-replicate (λ x. x) n 0) ∙ omega arith

-- the sum, with its lowest bits alone, leaves the same rest
rest_is : (c : After-sum) → bit_and c.rest_mask.result c.sum.result % c.args.parts ≡ home_of c.args.key.now c.args.parts
rest_is c =
    let whole : c.sum.result ≡ sum c.padded.result.now = search rules in
    let small : c.sum.result < 2 ^ 32 = search rules in
    c.rest_mask.ensures c.sum.result small
    ∙ ap (λ n. n % c.args.parts) (whole ∙ sum-padded c.args.key.now c.padded.result.now _ c.padded.ensures.bytes c.padded.ensures.zeros)

pub returns-then-rest-parts-clause-partition : goal.returns-then-rest-parts-clause-partition
returns-then-rest-parts-clause-partition c =
    sym (mod-eq_of_lt c.if-rest-parts.true) ∙ rest_is ((goal.at.returns-then-rest-parts-clause-partition c).After-sum)

pub returns-else-rest-parts-clause-partition : goal.returns-else-rest-parts-clause-partition
returns-else-rest-parts-clause-partition c = rest_is ((goal.at.returns-else-rest-parts-clause-partition c).After-sum)
