use Rattle.std.proofs.Common.{◌≡◌, Option, Some, refl, sym, subst, ◌∙◌}
use Rattle.std.specs.Prelude.{IsSome}
use Rattle.partition.specs.Events.{Event}
use Rattle.partition.proofs.Unpacking.{found_again}
use Rattle.partition.proofs.event_list.unpacked.Goals as goal

some_is : {x y : Event} → Some x ≡ Some y → x ≡ y
some_is e = cc

pub unwrap-requires : goal.unwrap-requires
unwrap-requires c = subst (λ (o : Option Event). IsSome o) (sym (c.event_at.ensures ∙ found_again c.args.bytes.now c.requires)) refl

pub returns : goal.returns
returns c = some_is (sym c.unwrap.ensures ∙ c.event_at.ensures ∙ found_again c.args.bytes.now c.requires)
