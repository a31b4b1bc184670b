-- The epochs of a journal that were checked, from its first one on.
use Rattle.std.specs.Prelude.{◌≡◌, ◌+◌, ℕ, List, All, length}
use Rattle.stamps.specs.declared.bounds.Limits.{Limits}
use Rattle.prepare_commit.specs.Bases.{Frozen, empty_base}
use Rattle.partition.specs.Journals.{IsSoundFrom, IsEnd, room_for}
use Rattle.partition.specs.declared.journal.Epoch.{Epoch}
use Rattle.closed_store.specs.Joins.{AreInTurn, events_of}

-- The epoch follows one of this number that ended at this base: it has the next number, begins at that base and is
-- sound.
pub record IsNextEpoch (number : ℕ) (end : Frozen) (epoch : Epoch) : Type 0 where
  pub numbered : epoch.number ≡ number + 1
  pub begins : epoch.base ≡ end
  pub sound : IsSoundFrom epoch.base epoch.events.items

-- They are the epochs 1, 2 and so on of a journal under these limits, which began with nothing; each begins where those
-- before it led, and is sound.
pub record AreRight (limits : Limits) (epochs : List Epoch) : Type 0 where
  pub in_turn : AreInTurn (room_for limits) epochs
  pub sound : All (λ (epoch : Epoch). IsSoundFrom epoch.base epoch.events.items) epochs

-- they are so many right epochs, and lead to this base
pub record LeadTo (limits : Limits) (number : ℕ) (end : Frozen) (epochs : List Epoch) : Type 0 where
  pub right : AreRight limits epochs
  pub count : length epochs ≡ number
  pub leads : IsEnd (empty_base (room_for limits)) (events_of epochs) end

-- some right epochs, of this number, lead there
abbrev pub SomeLead : Limits → ℕ → Frozen → Type 0
SomeLead limits number end = ∥ ((epochs : List Epoch) × LeadTo limits number end epochs) ∥₁
