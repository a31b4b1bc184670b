-- How many operations entries say that were begun: for `with_begun`.
use Rattle.std.proofs.Common.{◌≡◌, ◌<◌, ℕ, List, Option, length, get_or, slice_get, refl, ap, ◌∙◌}
use Rattle.std.specs.Prelude.{option_and_then}
use Rattle.std.proofs.lemmas.Option.{slice_get-get_or}
use Rattle.plain_store.specs.declared.answer.Answer.TheVariants.{Ignored}
use Rattle.plain_store.specs.declared.step.Act.{Act}
use Rattle.plain_store.specs.declared.step.Act.TheVariants.{Hello, Put, Get, Find, Deliver, Lose, Retry, Stop, Collect, Keep}
use Rattle.entry_list.specs.declared.kinds.Entry.{Entry}
use Rattle.entry_list.specs.declared.kinds.Entry.TheVariants.{Began, Took, Answered}
use Rattle.entry_list.specs.declared.kinds.Operation.{Operation}
use Rattle.entry_list.specs.PackedEntries.{operation_of, operation_of_act}
use Rattle.server_verdicts.specs.Begun.{counts_of_act, counts_of_entry, counts_of_operation}
use Rattle.workload.specs.Amounts.{of_all_kinds}

of_act : (act : Act) → of_all_kinds (counts_of_operation (operation_of_act act)) ≡ of_all_kinds (counts_of_act act)
of_act (Hello client base) = refl
of_act (Put client items) = refl
of_act (Get client keys) = refl
of_act (Find client tag) = refl
of_act (Deliver row) = refl
of_act (Lose row) = refl
of_act (Retry client) = refl
of_act (Stop client) = refl
of_act (Collect partition) = refl
of_act (Keep keep) = refl

of_entry : (e : Entry) → of_all_kinds (counts_of_operation (operation_of e)) ≡ of_all_kinds (counts_of_entry e)
of_entry (Began act) = of_act act
of_entry (Took number partition place reply) = refl
of_entry (Answered answer) = refl

-- what the operation at a place adds is what its entry says
pub begun_there : (entries : List Entry) (at : ℕ) (operation : Option Operation) → at < length entries → operation ≡ option_and_then operation_of (slice_get entries at)
    → of_all_kinds (counts_of_operation operation) ≡ of_all_kinds (counts_of_entry (get_or entries at (Answered Ignored)))
begun_there entries at operation within is =
    ap (λ (o : Option Operation). of_all_kinds (counts_of_operation o)) (is ∙ ap (option_and_then operation_of) (slice_get-get_or entries at (Answered Ignored) within)) ∙ of_entry (get_or entries at (Answered Ignored))
