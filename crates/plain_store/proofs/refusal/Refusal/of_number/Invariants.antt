use Rattle.std.proofs.Common.{◌≡◌, ◌==◌, take, None}
use Rattle.std.specs.List.{find}
use Rattle.plain_store.specs.Numbers.{number_of, all_refusals}
use Rattle.plain_store.specs.declared.refusal.Refusal.{Refusal}
use Rattle.plain_store.proofs.refusal.Refusal.of_number.Given as goal

-- none so far has the number
abbrev pub invariant-loop-refusal : goal.invariant-loop-refusal
invariant-loop-refusal l =
    find (λ (refusal : Refusal). number_of refusal == l.number) (take l.refusal-index all_refusals) ≡ None
