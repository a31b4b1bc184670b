use Rattle.std.proofs.Common.{◌+◌, ◌<◌, ◌∙◌, ap, arith, get_or, length, ℕ}
use Rattle.std.proofs.lemmas.List.{get_or_default}
use Rattle.plain_store.specs.declared.answer.Answer.TheVariants.{Ignored}
use Rattle.entry_list.specs.declared.kinds.Entry.{Entry}
use Rattle.entry_list.specs.declared.kinds.Entry.TheVariants.{Answered}
use Rattle.server_verdicts.specs.Begun.{counts_of_entry, told_count}
use Rattle.load.proofs.Counting.{counts_more}
use Rattle.workload.specs.Amounts.{of_all_kinds}
use Rattle.workload.proofs.Counts.{begun_there}
use Rattle.workload.proofs.judged_lines.with_begun.Goals as goal

pub loop-at-preserved : goal.loop-at-preserved
loop-at-preserved c =
    let entries = c.args.entries.now.items in
    let at = c.loop-at.at in
    let within : at < length entries = omega (arith, c.loop-at-test.true, c.len-at-end.ensures.count) in
    let e = get_or entries at (Answered Ignored) in
    let is = begun_there entries at c.operation.result within c.operation.ensures in
    record {
      so_far = counts_more (λ (x : Entry). of_all_kinds (counts_of_entry x)) entries at e c.args.operations c.loop-at.begun c.with_operation-begun.result within (get_or_default entries at (Answered Ignored) e within) c.loop-at.invariant.so_far
          (c.with_operation-begun.ensures ∙ ap (λ (n : ℕ). told_count (c.loop-at.begun + n)) is);
      within = omega (arith, within);
    }
