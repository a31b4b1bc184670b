-- What is known of a journal after an epoch that follows those before.
use Rattle.std.specs.Prelude.{◌≡◌, ◌⊎◌, ℕ, List, IfSome, slice_get}
use Rattle.std.specs.Global.{Vec}
use Rattle.partition.specs.Journals.{IsEnd}
use Rattle.partition.specs.declared.journal.Epoch.{Epoch}
use Rattle.server_verdicts.specs.declared.epochs.checked.Checked.{Checked}
use Rattle.server_verdicts.specs.declared.epochs.checked.Standing.TheVariants.{Right}
use Rattle.server_verdicts.specs.Rows.{at_place}
use Rattle.server_verdicts.specs.Taken.{IsNextEpoch}

-- what was known was right, the epoch follows it, and what is known then is that epoch's number and end
pub record FollowsEpoch (old : Checked) (epoch : Epoch) (new : Checked) : Type 0 where
  pub so_far : old.standing ≡ Right
  pub next : IsNextEpoch old.number old.end epoch
  pub number : new.number ≡ epoch.number
  pub end : IsEnd epoch.base epoch.events.items new.end
  pub limits : new.limits ≡ old.limits

-- The epoch of a tenant's journal was sent to the thread that checks its partition's, or it could not be sent and
-- the journal was lost. Nothing is done where there is no such thread, or no such journal.
abbrev pub IsHandedOn : {Q C : Type 0} → (Q → ℕ → ℕ → Epoch → Type 0) → (C → Type 0) → List Q → List (Vec C)
    → (partition tenant : ℕ) → Epoch → Type 0
IsHandedOn HasCome HasLost queues known partition tenant epoch =
    IfSome (slice_get queues partition)
    (λ queue. HasCome queue partition tenant epoch ⊎ IfSome (at_place known partition tenant) HasLost)
