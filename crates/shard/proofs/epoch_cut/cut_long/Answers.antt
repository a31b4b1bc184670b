use Rattle.std.proofs.Common.{ℕ, List, ap, length, arith, refl, subst, sym, ◌∙◌}
use Rattle.history.specs.declared.entry.HistoryEntry.{HistoryEntry}
use Rattle.traced_book.specs.Traced.{IsLatestEpoch, Tracing}
use Rattle.shard.proofs.Cuts.{cut_events}
use Rattle.shard.proofs.Journals.{cut-or-not, epoch-of, stays_as}
use Rattle.shard.proofs.epoch_cut.cut_long.Goals as goal

-- what is cut is the journal whose length was read
pub returns-in-Ok-clause-cut : goal.returns-in-Ok-clause-cut
returns-in-Ok-clause-cut g c =
    let events = cut_events _ _ _ _ c.requires.tenant c.in-Ok.ensures.cut in
    record {
      cut = c.in-Ok.ensures.cut;
      partition = refl;
      tenant = refl;
      long = omega (arith, ap length events, c.events.ensures);
    }

pub invariant_of-state : goal.invariant_of-state
invariant_of-state g c =
    let state = c.args.state.now in
    record { journals = cut-or-not state.parts state.partition state.book.accounts c.cut.new.self.accounts c.args.tenant c.cut.result c.requires.tenant c.cut.ensures.cut (stays_as (λ (b : Tracing). b.accounts) _ _ c.cut.result c.cut.ensures.unchanged) state.journals; its = c.cut.ensures.seen.0 ∙ state.its }

-- the epoch is that of this tenant's journal here
pub invariant_of-result : goal.invariant_of-result
invariant_of-result g c =
    let state = c.args.state.now in
    let epoch = c.in-Ok.epoch in
    let P : List HistoryEntry → Type 0 = λ seen. IsLatestEpoch seen state.partition c.args.tenant epoch in
    let events = cut_events _ _ _ _ c.requires.tenant c.in-Ok.ensures.cut in
    let Q : ℕ → Type 0 = λ at. IsLatestEpoch state.book.seen at c.args.tenant epoch in
    record {
      was_cut = epoch-of state.parts state.partition state.book.accounts c.cut.new.self.accounts c.args.tenant epoch c.requires.tenant c.in-Ok.ensures.cut state.journals;
      some = omega (arith, ap length events, c.events.ensures, c.requires.some);
      latest = ∣ subst P (sym (c.seen.ensures ∙ c.cut.ensures.seen.1)) (subst Q state.its c.in-Ok.ensures.latest) ∣₁;
    }
