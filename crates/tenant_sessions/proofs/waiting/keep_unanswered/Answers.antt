use Rattle.std.proofs.Common.{sym, ◌∙◌}
use Rattle.tenant_sessions.specs.Parts.{batch_calls, is_answered_at}
use Rattle.tenant_sessions.proofs.Placed.{has_first, first_left_out}
use Rattle.tenant_sessions.proofs.waiting.keep_unanswered.Goals as goal

pub drop_first-requires : goal.drop_first-requires
drop_first-requires c =
    has_first (is_answered_at (batch_calls c.args.parts c.args.part.now) c.args.message.now) c.args.places.now (sym c.is_first_answered.ensures ∙ c.if-is_first_answered.true)

pub returns-then-is_first_answered : goal.returns-then-is_first_answered
returns-then-is_first_answered c =
    c.drop_first.ensures
    ∙ first_left_out (batch_calls c.args.parts c.args.part.now) c.args.message.now c.args.places.now (c.requires.apart c.if-are_apart.true) (sym c.is_first_answered.ensures ∙ c.if-is_first_answered.true)
