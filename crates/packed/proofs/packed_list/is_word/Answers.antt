use Rattle.std.proofs.Common.{ap, sym, ◌∙◌, eq-eqb, eqb-true, rules}
use Rattle.std.specs.Int.{w64, from_le_bytes}
use Rattle.packed.proofs.Words.{same_word}
use Rattle.packed.proofs.packed_list.is_word.Goals as goal

pub returns : goal.returns
returns c = (
  λ yes. same_word c.args.one.now c.args.other.now (search rules) (search rules) (search rules) (search rules) (sym c.from_le_bytes.ensures ∙ eqb-true _ _ yes ∙ c.from_le_bytes-2.ensures),
  λ same. eq-eqb _ _ (c.from_le_bytes.ensures ∙ ap (from_le_bytes w64) same ∙ sym c.from_le_bytes-2.ensures),
)
