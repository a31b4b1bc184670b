use Rattle.std.proofs.Common.{false, List, Bool, get_or, inl, inr, ap, sym, ◌∙◌}
use Rattle.prepare_commit.proofs.Remembering.{gathered, in_neither, neither}
use Rattle.prepare_commit.proofs.collect.remember.Goals as goal
use Rattle.prepare_commit.proofs.collect.remember.Goals.{then-kept_fewer, else-kept_fewer}

pub returns-clause-least : goal.returns-clause-least
returns-clause-least c = elim c.if-kept_fewer.branch [
  | then-kept_fewer w ↦
      inr (
        c.kept_fewer.ensures.0 w.if-kept_fewer.true,
        w.least-is,
        λ chain free.
            (let its = neither c.if-kept_fewer.left c.clear-2.new.self chain free in
            gathered c.args.left.now c.args.changed.now w.note_those.new.self w.note_those.ensures.noted chain (sym (ap (λ (l : List Bool). get_or l chain false) w.left-is) ∙ its.0)),
      )
  | else-kept_fewer w ↦
      inl (
        w.least-is,
        λ chain. in_neither c.if-kept_fewer.left c.clear-2.new.self chain (ap (λ (l : List Bool). get_or l chain false) w.left-is ∙ w.clear.ensures.none chain) (c.clear-2.ensures.none chain),
      )
]
