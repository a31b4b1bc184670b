use Rattle.std.proofs.Common.{sym, subst, ◌∙◌}
use Rattle.stamps.specs.Value.{IsValue}
use Rattle.stamps.proofs.value.Value.of_front.Goals as goal

pub invariant_of-result : goal.invariant_of-result
invariant_of-result c = subst IsValue (sym (c.of_padded.ensures ∙ c.kept_front.ensures.bytes)) c.requires.valid

pub returns : goal.returns
returns c = c.of_padded.ensures ∙ c.kept_front.ensures.bytes
