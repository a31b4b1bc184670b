use Rattle.std.proofs.Common.{◌∙◌, ap, refl, ℕ, List, map, Result, Ok, Err}
use Rattle.std.specs.Prelude.{IfOk}
use Rattle.stamps.specs.declared.bounds.Limits.{Limits}
use Rattle.partition.specs.Accounts.{new_account}
use Rattle.shard.proofs.Journals.{anew-of, new-of}
use Rattle.shard.specs.Journals.{AreOf}
use Rattle.traced_book.specs.Forgetting.{AreBegunAnew}
use Rattle.traced_book.specs.Traced.{Tracing}
use Rattle.hub.proofs.start.book_of.Goals as goal

-- accounts without events are those of any partition
anew_or_not : {E : Type 0} (parts partition : ℕ) (limits : List Limits) (result : Result Tracing E) → IfOk result (λ book. AreBegunAnew (map new_account limits) book.accounts)
    → IfOk result (λ book. ∥ AreOf parts partition book.accounts ∥₁)
anew_or_not parts partition limits (Ok book) begun = anew-of parts partition (map new_account limits) book.accounts begun (new-of parts partition limits (map new_account limits) refl)
anew_or_not parts partition limits (Err e) begun = tt

pub returns-in_ok-book-clause-of_partition : goal.returns-in_ok-book-clause-of_partition
returns-in_ok-book-clause-of_partition g c = new-of _ _ _ _ (ap (λ (t : Tracing). t.accounts) c.new.ensures ∙ c.in_ok-book.ensures)

pub returns-else-journals-clause-of_partition : goal.returns-else-journals-clause-of_partition
returns-else-journals-clause-of_partition g c = anew_or_not _ _ _ c.without_journals.result c.without_journals.ensures.accounts
