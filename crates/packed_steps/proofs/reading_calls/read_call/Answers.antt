use Rattle.std.proofs.Common.{ap, ◌∙◌}
use Rattle.packed_steps.specs.PackedCalls.{call_at}
use Rattle.packed_steps.proofs.Calls.{call_again}
use Rattle.packed_steps.proofs.reading_calls.read_call.Goals as goal

pub returns-clause-again : goal.returns-clause-again
returns-clause-again c = λ call rest h e. c.call_at.ensures ∙ ap call_at e ∙ call_again call rest h
