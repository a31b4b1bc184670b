-- How many events of seats came since a collection was due, and what is left to be done then.
use Rattle.std.specs.Prelude.{◌≡◌, ◌<◌, ◌≤◌, ◌+◌, ◌-◌, ◌^◌, ◌||◌, ℕ, zero, suc, Bool, true, false, List, Result, IfOk, OnOk, OnErr, cond, length, min, nat_le, sum_by}
use Rattle.partition.specs.Accounts.{Account, events_at, places}
use Rattle.shard.specs.declared.jobs.Fault.{Fault}
use Rattle.shard.specs.declared.shard.FollowUp.{FollowUp}

-- a collection is due with the next event, where so many came since one was
abbrev pub is_due : ℕ → ℕ → Bool
is_due every events = nat_le every (min (events + 1) (2 ^ 32 - 1))

-- how many came then: one more, or none where a collection is due
abbrev pub one_event : ℕ → ℕ → ℕ
one_event every events = cond (is_due every events) 0 (min (events + 1) (2 ^ 32 - 1))

-- how many came after n events more
abbrev pub events_after : ℕ → ℕ → ℕ → ℕ
events_after every events zero = events
events_after every events (suc n) = one_event every (events_after every events n)

-- a collection was due with one of these n
abbrev pub is_due_among : ℕ → ℕ → ℕ → Bool
is_due_among every events zero = false
is_due_among every events (suc n) = is_due_among every events n || is_due every (events_after every events n)

-- how many places the journals have given
abbrev pub places_given : List Account → ℕ
places_given accounts = sum_by places accounts

-- one event of a seat was counted; a collection is due where it was, or with that event
pub record IsCounted (every before after : ℕ) (was is : Bool) : Type 0 where
  pub events : after ≡ one_event every before
  pub due : is ≡ (was || is_due every before)

-- As many events of seats were counted as came into the journals; a collection is due where it was, or with one of them.
pub record AreEventsCounted (every : ℕ) (old new : List Account) (before after : ℕ) (was is : Bool) : Type 0 where
  pub n : ℕ
  pub came : places_given new ≡ places_given old + n
  pub events : after ≡ events_after every before n
  pub due : is ≡ (was || is_due_among every before n)

-- a cut is to be made where it was, and where a journal came to have as many events as an epoch
pub record NotesLong (epoch : ℕ) (old new : List Account) (was is : Bool) : Type 0 where
  pub before : was ≡ true → is ≡ true
  pub long : 0 < epoch → (tenant : ℕ) → length (events_at old tenant) < epoch → epoch ≤ length (events_at new tenant)
      → is ≡ true

abbrev pub nothing_due : FollowUp
nothing_due = record { collects = false; cuts = false }

-- What is due after a call of this tenant. Where it was served, one event more was counted, and a cut is to be made if the journal came
-- to have as many events as an epoch. A cut that was to be made is to be made still.
pub record NotesEvent {A : Type 0} (every epoch : ℕ) (accounts : List Account) (tenant before after : ℕ) (was is : FollowUp)
    (result : Result A Fault) : Type 0 where
  pub cuts : IfOk result (λ _. 0 < epoch → length (events_at accounts tenant) ≡ epoch → is.cuts ≡ true)
  pub still_cuts : was.cuts ≡ true → is.cuts ≡ true
  pub counted : OnOk result (IsCounted every before after was.collects is.collects)
  pub uncounted : OnErr result ((after ≡ before) × (is ≡ was))

-- what is due after any number of calls: each event that came into the journals was counted, and each journal that got long was noted
pub record NotesEvents (every epoch : ℕ) (old new : List Account) (before after : ℕ) (was is : FollowUp) : Type 0 where
  pub counted : AreEventsCounted every old new before after was.collects is.collects
  pub cuts : NotesLong epoch old new was.cuts is.cuts
