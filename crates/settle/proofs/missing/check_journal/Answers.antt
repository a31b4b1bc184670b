use Rattle.std.proofs.Common.{inl, inr, sym}
use Rattle.std.proofs.lemmas.Bool.{both_ways}
use Rattle.settle.proofs.missing.check_journal.Goals as goal

pub returns-then-not-is_first : goal.returns-then-not-is_first
returns-then-not-is_first c =
    inr (inr (inr (inr (c.args.partition, c.in-Some.journal.now, sym c.in-Some.ensures, λ first. both_ways c.is_first.result c.if-not-is_first.true (c.is_first.ensures.first.1 first)))))

pub returns-then-are_other : goal.returns-then-are_other
returns-then-are_other c = inl (c.args.partition, c.in-Some.journal.now, sym c.in-Some.ensures, c.are_other.ensures.differ c.if-are_other.true)

pub returns : goal.returns
returns c = record {
  journal = c.in-Some.journal.now;
  there = sym c.in-Some.ensures;
  first = c.is_first.ensures.first.0 c.if-not-is_first.false;
  same = c.are_other.ensures.same c.if-are_other.false;
}
