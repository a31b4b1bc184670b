use Rattle.std.proofs.Common.{◌≡◌, ℕ, Option, Some, refl, sym, subst, ◌∙◌}
use Rattle.std.specs.Prelude.{IsSome}
use Rattle.partition.proofs.Unpacking.{seat_again}
use Rattle.partition.proofs.event_list.seat_in.Goals as goal

some_is : {x y : ℕ} → Some x ≡ Some y → x ≡ y
some_is e = cc

pub unwrap-requires : goal.unwrap-requires
unwrap-requires c = subst (λ (o : Option ℕ). IsSome o) (sym (c.first_number.ensures ∙ seat_again c.args.bytes.now c.requires)) refl

pub returns : goal.returns
returns c = some_is (sym c.unwrap.ensures ∙ c.first_number.ensures ∙ seat_again c.args.bytes.now c.requires)
