use Rattle.std.proofs.Common.{◌≡◌, ◌+◌, ◌<◌, ℕ, List, Option, length, get_or, slice_get, refl, ap, ◌∙◌, arith}
use Rattle.std.specs.Prelude.{option_and_then}
use Rattle.std.proofs.lemmas.List.{get_or_default}
use Rattle.std.proofs.lemmas.Option.{slice_get-get_or}
use Rattle.plain_store.specs.declared.answer.Answer.TheVariants.{Ignored}
use Rattle.plain_store.specs.declared.step.Act.{Act}
use Rattle.plain_store.specs.declared.step.Act.TheVariants.{Hello, Put, Get, Find, Deliver, Lose, Retry, Stop, Collect, Keep}
use Rattle.entry_list.specs.declared.kinds.Entry.{Entry}
use Rattle.entry_list.specs.declared.kinds.Entry.TheVariants.{Began, Took, Answered}
use Rattle.entry_list.specs.declared.kinds.Operation.{Operation}
use Rattle.entry_list.specs.PackedEntries.{operation_of, operation_of_act}
use Rattle.server_verdicts.specs.Begun.{BegunCounts, counts_of_act, counts_of_entry, counts_of_operation, told_count}
use Rattle.load.proofs.Counting.{counts_more}
use Rattle.load.proofs.tally.Begun.with_all.Goals as goal

same_act : (act : Act) → counts_of_operation (operation_of_act act) ≡ counts_of_act act
same_act (Hello client base) = refl
same_act (Put client items) = refl
same_act (Get client keys) = refl
same_act (Find client tag) = refl
same_act (Deliver row) = refl
same_act (Lose row) = refl
same_act (Retry client) = refl
same_act (Stop client) = refl
same_act (Collect partition) = refl
same_act (Keep keep) = refl

same_counts : (e : Entry) → counts_of_operation (operation_of e) ≡ counts_of_entry e
same_counts (Began act) = same_act act
same_counts (Took number partition place reply) = refl
same_counts (Answered answer) = refl

-- what is reported of the operation at a place is what its entry says
told_there : (entries : List Entry) (at : ℕ) (operation : Option Operation) → at < length entries → operation ≡ option_and_then operation_of (slice_get entries at)
    → counts_of_operation operation ≡ counts_of_entry (get_or entries at (Answered Ignored))
told_there entries at operation within is =
    ap counts_of_operation (is ∙ ap (option_and_then operation_of) (slice_get-get_or entries at (Answered Ignored) within)) ∙ same_counts (get_or entries at (Answered Ignored))

pub loop-at-preserved : goal.loop-at-preserved
loop-at-preserved c =
    let entries = c.args.entries.now.items in
    let at = c.loop-at.at in
    let within : at < length entries = omega (arith, c.loop-at-test.true, c.len-at-end.ensures.count) in
    let e = get_or entries at (Answered Ignored) in
    let told = told_there entries at c.operation.result within c.operation.ensures in
    record {
      puts = counts_more (λ (x : Entry). (counts_of_entry x).puts) entries at e c.args.self.puts c.loop-at.begun.puts c.with_operation-begun.result.puts within (get_or_default entries at (Answered Ignored) e within) c.loop-at.invariant.puts (c.with_operation-begun.ensures.puts ∙ ap (λ (k : BegunCounts). told_count (c.loop-at.begun.puts + k.puts)) told);
      gets = counts_more (λ (x : Entry). (counts_of_entry x).gets) entries at e c.args.self.gets c.loop-at.begun.gets c.with_operation-begun.result.gets within (get_or_default entries at (Answered Ignored) e within) c.loop-at.invariant.gets (c.with_operation-begun.ensures.gets ∙ ap (λ (k : BegunCounts). told_count (c.loop-at.begun.gets + k.gets)) told);
      finds = counts_more (λ (x : Entry). (counts_of_entry x).finds) entries at e c.args.self.finds c.loop-at.begun.finds c.with_operation-begun.result.finds within (get_or_default entries at (Answered Ignored) e within) c.loop-at.invariant.finds (c.with_operation-begun.ensures.finds ∙ ap (λ (k : BegunCounts). told_count (c.loop-at.begun.finds + k.finds)) told);
      within = omega (arith, within);
    }
