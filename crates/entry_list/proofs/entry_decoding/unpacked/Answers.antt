use Rattle.std.proofs.Common.{◌≡◌, Option, Some, refl, sym, subst, ◌∙◌}
use Rattle.std.specs.Prelude.{IsSome}
use Rattle.entry_list.specs.declared.kinds.Entry.{Entry}
use Rattle.entry_list.proofs.Unpacked.{found_again}
use Rattle.entry_list.proofs.entry_decoding.unpacked.Goals as goal

some_is : {x y : Entry} → Some x ≡ Some y → x ≡ y
some_is e = cc

pub unwrap-requires : goal.unwrap-requires
unwrap-requires c = subst (λ (o : Option Entry). IsSome o) (sym (c.in_ok-found.ensures ∙ found_again c.args.bytes.now c.requires)) refl

pub returns : goal.returns
returns c = some_is (sym c.unwrap.ensures ∙ c.in_ok-found.ensures ∙ found_again c.args.bytes.now c.requires)
