use Rattle.std.proofs.Common.{◌<◌, refl, ◌∙◌}
use Rattle.std.proofs.Math.Logic.{∥∥₁_map}
use Rattle.shard.proofs.Short.{answered-short}
use Rattle.shard.proofs.Journals.{answered-of}
use Rattle.shard.proofs.round.Round.collect_next.Goals as goal

-- the journal was not full
pub returns-after-self-clause-short : goal.returns-after-self-clause-short
returns-after-self-clause-short g c = answered-short _ _ _ _ _ c.answer.result _ c.answer.ensures.refuses.no_tenant c.answer.ensures.takes.taken c.answer.ensures.takes.unchanged
    (λ (some : 0 < c.args.config.now.epoch). c.is_full.ensures.short c.if-is_full.false some)

-- the call of a collection has its home everywhere
pub invariant_of-state : goal.invariant_of-state
invariant_of-state g c =
    let state = c.args.state.now in
    record {
      journals = ∥∥₁_map state.journals (λ of. answered-of state.book.journals state.parts state.partition _ _ _ state.book.accounts c.answer.new.book.accounts _ c.answer.result
          c.answer.ensures.refuses.no_tenant c.answer.ensures.refuses.late c.answer.ensures.takes.taken c.answer.ensures.takes.reply c.answer.ensures.takes.unchanged refl of);
      its = c.answer.ensures.partition.0 ∙ state.its;
    }

-- a collection may always be served
pub answer-requires : goal.answer-requires
answer-requires g c = ∣ record { put = tt; home = tt } ∣₁
