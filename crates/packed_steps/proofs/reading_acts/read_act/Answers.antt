use Rattle.std.proofs.Common.{Result, Ok, Err, ap, ◌∙◌}
use Rattle.std.specs.Prelude.{IfOk}
use Rattle.packed_steps.specs.PackedActs.{act_at}
use Rattle.packed_steps.proofs.Acts.{act_again}
use Rattle.packed_steps.proofs.reading_acts.read_act.Goals as goal

if_ok : {X E : Type 0} → {P Q : X → Type 0} → ((x : X) → P x → Q x) → (r : Result X E) → IfOk r P → IfOk r Q
if_ok so (Ok x) p = so x p
if_ok so (Err e) p = tt

pub returns-clause-again : goal.returns-clause-again
returns-clause-again c = if_ok (λ found exact act rest h e. exact ∙ ap act_at e ∙ act_again act rest h) c.act_at.result c.act_at.ensures
