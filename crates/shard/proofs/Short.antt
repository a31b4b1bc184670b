-- Journals that stay short.
use Rattle.std.proofs.Common.{◌≡◌, ◌<◌, ◌≤◌, ◌+◌, ◌*◌, ℕ, Bool, true, false, List, [], ◌∷◌, length, Option, Some, None, Result, Ok, Err, ⊎_elim, ap, sym, ◌∙◌, arith, length-append}
use Rattle.std.specs.Prelude.{slice_get, IfOk, OnErr, IsErrOf, IsSomeAnd, ◌↔◌}
use Rattle.std.proofs.lemmas.Option.{slice_get_cases, slice_get_past}
use Rattle.std.proofs.lemmas.Bool.Decides.{eqb_tells}
use Rattle.plain_store.specs.declared.calls.Reply.{Reply}
use Rattle.partition.specs.Events.{Event}
use Rattle.partition.specs.Accounts.{Account, IsEntered, events_at, events_in}
use Rattle.shard.specs.declared.jobs.PlacedReply.{PlacedReply}
use Rattle.shard.specs.declared.jobs.Fault.{Fault}
use Rattle.shard.specs.declared.jobs.Fault.TheVariants.{NoTenant}
use Rattle.traced_book.specs.Forgetting.{AreBegunAnew, IsTaken}
use Rattle.traced_book.proofs.Forgetting.{none_left}
use Rattle.shard.specs.Rounds.{AreShort}

-- the events of the tenant whose event was entered, and of each other
pub events_own : (old new : List Account) (tenant : ℕ) (e : Event) → tenant < length old → IsEntered old new tenant e
    → length (events_at new tenant) ≡ length (events_at old tenant) + 1
unfolding events_at
events_own old new tenant e there entered =
    ⊎_elim
    (λ h. ap (λ a. length (events_in a)) (entered.own h.0 h.2) ∙ length-append h.0.events (e ∷ []) ∙ ap (λ a. length (events_in a) + 1) (sym h.2))
    (λ h. absurd (omega (arith, h.0, there)))
    (slice_get_cases old tenant).1

pub events_other : (old new : List Account) (tenant other : ℕ) (e : Event) → IsEntered old new tenant e → (other ≡ tenant → ⊥)
    → length (events_at new other) ≡ length (events_at old other)
unfolding events_at
events_other old new tenant other e entered apart = ap (λ a. length (events_in a)) (entered.others other apart)

-- one event more, in a journal that was not full
pub entered-short : (epoch : ℕ) (old new : List Account) (tenant : ℕ) (e : Event) → tenant < length old → IsEntered old new tenant e
    → (0 < epoch → length (events_at old tenant) < 2 * epoch) → AreShort epoch old → AreShort epoch new
entered-short epoch old new tenant e there entered room short some other =
    ⊎_elim
    (λ h. let own = events_own old new tenant e there entered in
    let there = room some in
    let same : length (events_at new other) ≡ length (events_at new tenant) = ap (λ t. length (events_at new t)) h.1 in
    omega (arith, own, there, same))
    (λ h. let kept = events_other old new tenant other e entered h.1 in
    let before = short some other in
    omega (arith, kept, before))
    (eqb_tells other tenant)

-- journals that begin anew have no event
pub anew-short : (epoch : ℕ) (old new : List Account) → AreBegunAnew old new → AreShort epoch new
anew-short epoch old new begun some other =
    let none : length (events_at new other) ≡ 0 = ap length (none_left old new other begun) in
    omega (arith, none)

-- one event more, which is kept or not
pub taken-short : (journals : Bool) (epoch : ℕ) (old new : List Account) (tenant : ℕ) (e : Event) → tenant < length old → IsTaken journals old new tenant e
    → (0 < epoch → length (events_at old tenant) < 2 * epoch) → AreShort epoch old → AreShort epoch new
taken-short true epoch old new tenant e there taken room short = entered-short epoch old new tenant e there taken room short
taken-short false epoch old new tenant e there taken room short = anew-short epoch taken.0 new taken.2

-- a journal that is not there is not full
pub absent-short : (accounts : List Account) (tenant epoch : ℕ) → length accounts ≤ tenant → 0 < epoch → length (events_at accounts tenant) < 2 * epoch
unfolding events_at
absent-short accounts tenant epoch past some =
    let none : length (events_in (slice_get accounts tenant)) ≡ 0 = ap (λ a. length (events_in a)) (slice_get_past accounts tenant past) in
    omega (arith, none, some)

-- what was served, with the reply in its message
pub served-short : (journals : Bool) (epoch : ℕ) (old new : List Account) (tenant : ℕ) (reply : Option Reply) (e : Reply → Event)
    → tenant < length old → IsSomeAnd reply (λ r. IsTaken journals old new tenant (e r))
    → (0 < epoch → length (events_at old tenant) < 2 * epoch) → AreShort epoch old → AreShort epoch new
served-short journals epoch old new tenant None e there taken room short = absurd taken
served-short journals epoch old new tenant (Some r) e there taken room short = taken-short journals epoch old new tenant (e r) there taken room short

-- what was answered, or refused
pub answered-short : (journals : Bool) (epoch : ℕ) (old new : List Account) (tenant : ℕ) (result : Result PlacedReply Fault) (e : PlacedReply → Event)
    → (IsErrOf result NoTenant ↔ (length old ≤ tenant)) → IfOk result (λ r. IsTaken journals old new tenant (e r)) → OnErr result (new ≡ old)
    → (0 < epoch → length (events_at old tenant) < 2 * epoch) → AreShort epoch old → AreShort epoch new
answered-short journals epoch old new tenant (Ok r) e there taken same room short =
    let within : tenant < length old = omega (arith, λ (past : length old ≤ tenant). absent (there.1 past)) in
    taken-short journals epoch old new tenant (e r) within taken room short
  where
    absent : Ok r ≡ Err NoTenant → ⊥
    absent is = cc
answered-short journals epoch old new tenant (Err f) e there taken same room short = rw same short
