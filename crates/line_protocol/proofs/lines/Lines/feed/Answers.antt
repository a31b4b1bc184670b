use Rattle.std.proofs.Common.{◌≡◌, ◌∙◌, ◌++◌, ap, sym, take, length, List, ℕ}
use Rattle.std.proofs.lemmas.Bool.{false≢true}
use Rattle.line_protocol.specs.Stream.{HasNoLineFeed}
use Rattle.line_protocol.specs.Held.{at_stage, bytes_fed}
use Rattle.line_protocol.specs.declared.lines.Lines.TheInside.{Inside}
use Rattle.line_protocol.proofs.LineFeeds.{partial-is, spent-is, takes, overflows, stays_too_long, taken-front, taken-some, waits, any-none, waits_not_too_long, takes_not_too_long}
use Rattle.line_protocol.proofs.lines.Lines.feed.Goals as goal
use Rattle.line_protocol.proofs.lines.Lines.feed.Goals.{in-Spent, in-Partial}

pub returns-in-TooLong-clause-too_long : goal.returns-in-TooLong-clause-too_long
returns-in-TooLong-clause-too_long c =
    (stays_too_long c.self.inside.stage c.self.inside.bytes.items c.args.self.now c.args.piece.now c.in-TooLong.is c.self.view_is c.self.invariant.content).0

pub returns-in-TooLong-clause-err : goal.returns-in-TooLong-clause-err
returns-in-TooLong-clause-err c =
    (stays_too_long c.self.inside.stage c.self.inside.bytes.items c.args.self.now c.args.piece.now c.in-TooLong.is c.self.view_is c.self.invariant.content).1

-- the bytes that the piece goes on with are those held
begun : (c : goal.In_default) → (c.match-self.self-inside.bytes.items ≡ c.args.self.now) × HasNoLineFeed c.args.self.now
begun c =
    elim c.match-self.branch [
      | in-Spent w ↦
          let s = spent-is c.self.inside.stage c.self.inside.bytes.items c.args.self.now w.clear.new.self.items w.in-Spent.is c.self.view_is w.clear.ensures.items in
          (ap (λ (i : Inside). i.bytes.items) w.self-inside-is ∙ s.0, s.1)
      | in-Partial w ↦
          let s = partial-is c.self.inside.stage c.self.inside.bytes.items c.args.self.now w.in-Partial.is c.self.view_is c.self.invariant.content in
          (ap (λ (i : Inside). i.bytes.items) w.self-inside-is ∙ s.0, s.1)
    ]

begun_before_overflow : (c : goal.In-TooLong-stage) → (c.match-self.self-inside.bytes.items ≡ c.args.self.now) × HasNoLineFeed c.args.self.now
begun_before_overflow c =
    elim c.match-self.branch [
      | in-Spent w ↦
          let s = spent-is c.self.inside.stage c.self.inside.bytes.items c.args.self.now w.clear.new.self.items w.in-Spent.is c.self.view_is w.clear.ensures.items in
          (ap (λ (i : Inside). i.bytes.items) w.self-inside-is ∙ s.0, s.1)
      | in-Partial w ↦
          let s = partial-is c.self.inside.stage c.self.inside.bytes.items c.args.self.now w.in-Partial.is c.self.view_is c.self.invariant.content in
          (ap (λ (i : Inside). i.bytes.items) w.self-inside-is ∙ s.0, s.1)
    ]

pub returns-in-TooLong-stage-clause-too_long : goal.returns-in-TooLong-stage-clause-too_long
returns-in-TooLong-stage-clause-too_long c =
    (overflows c.extend_line-stage.result.0 c.match-self.self-inside.bytes.items c.args.self.now c.args.piece.now c.extend_line-stage.new.bytes.items c.extend_line-stage.result.1
    (begun_before_overflow c) c.in-TooLong-stage.is c.extend_line-stage.ensures.grows c.extend_line-stage.ensures.content).0

pub returns-in-TooLong-stage-clause-err : goal.returns-in-TooLong-stage-clause-err
returns-in-TooLong-stage-clause-err c =
    (overflows c.extend_line-stage.result.0 c.match-self.self-inside.bytes.items c.args.self.now c.args.piece.now c.extend_line-stage.new.bytes.items c.extend_line-stage.result.1
    (begun_before_overflow c) c.in-TooLong-stage.is c.extend_line-stage.ensures.grows c.extend_line-stage.ensures.content).1

taken : (c : goal.In_default) → (c.extend_line-stage.result.1 ≡ length (bytes_fed c.args.self.now c.args.piece.now))
    × (at_stage c.extend_line-stage.result.0 c.extend_line-stage.new.bytes.items ≡ c.args.self.now ++ bytes_fed c.args.self.now c.args.piece.now)
taken c =
    takes c.extend_line-stage.result.0 c.match-self.self-inside.bytes.items c.args.self.now c.args.piece.now c.extend_line-stage.new.bytes.items c.extend_line-stage.result.1
    (begun c) c.in_default.not-TooLong c.extend_line-stage.ensures.grows

pub returns-clause-taken : goal.returns-clause-taken
returns-clause-taken c = (taken c).0

pub returns-clause-within : goal.returns-clause-within
returns-clause-within c = rw (taken c).0 (taken-front c.args.self.now c.args.piece.now).within

pub returns-clause-moves : goal.returns-clause-moves
returns-clause-moves c = λ none some. rw (taken c).0 (taken-some c.args.self.now c.args.piece.now none some)

pub returns-clause-ok : goal.returns-clause-ok
returns-clause-ok c =
    let t = taken c in
    t.1 ∙ ap (λ (x : List ℕ). c.args.self.now ++ x) (sym (taken-front c.args.self.now c.args.piece.now).is) ∙ ap (λ (n : ℕ). c.args.self.now ++ take n c.args.piece.now) (sym t.0)

-- while a line waits nothing is taken
waiting : (c : goal.In-Whole) → HasNoLineFeed c.args.self.now → ⊥
waiting c none = false≢true (sym (any-none c.args.self.now none) ∙ waits c.self.inside.stage c.self.inside.bytes.items c.args.self.now c.in-Whole.is c.self.view_is)

pub returns-in-Whole-clause-moves : goal.returns-in-Whole-clause-moves
returns-in-Whole-clause-moves c = λ none some. absurd (waiting c none)

pub returns-in-Whole-clause-fails : goal.returns-in-Whole-clause-fails
returns-in-Whole-clause-fails c = λ long.
    absurd (waits_not_too_long c.self.inside.stage c.self.inside.bytes.items c.args.self.now c.args.piece.now c.in-Whole.is c.self.view_is c.self.invariant.content long)

pub returns-clause-fails : goal.returns-clause-fails
returns-clause-fails c = λ long.
    absurd (takes_not_too_long c.extend_line-stage.result.0 c.match-self.self-inside.bytes.items c.args.self.now c.args.piece.now c.extend_line-stage.new.bytes.items c.extend_line-stage.result.1
    (begun c) c.in_default.not-TooLong c.extend_line-stage.ensures.grows c.extend_line-stage.ensures.content long)
