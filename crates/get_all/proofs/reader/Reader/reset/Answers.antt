use Rattle.std.proofs.Common.{◌≡◌, true, false, refl}
use Rattle.std.proofs.lemmas.Bool.{both_ways}
use Rattle.plain_store.proofs.BadKeys.{good_keys, bad_keys}
use Rattle.plain_store.specs.Run.{are_bad}
use Rattle.get_all.proofs.New.{new_stands}
use Rattle.get_all.proofs.reader.Reader.reset.Goals as goal

pub returns-then-not-are_keys-clause-refused : goal.returns-then-not-are_keys-clause-refused
returns-then-not-are_keys-clause-refused c =
    let refused : are_bad c.args.keys.now ≡ true = bad_keys c.args.keys.now (λ good. both_ways c.are_keys.result c.if-not-are_keys.true (c.are_keys.ensures.1 good)) in
    (λ none. refused, λ bad. refl)

pub returns-clause-refused : goal.returns-clause-refused
returns-clause-refused c =
    let good : are_bad c.args.keys.now ≡ false = good_keys c.args.keys.now (c.are_keys.ensures.0 c.if-not-are_keys.false) in
    (λ none. cc, λ bad. cc)

pub returns-clause-stands : goal.returns-clause-stands
returns-clause-stands c = λ done taken none.
    new_stands taken none c.args.keys.now (c.are_keys.ensures.0 c.if-not-are_keys.false).not_empty _ c.reset.ensures refl
