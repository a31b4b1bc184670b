-- Events of seats that are counted, one after the other.
use Rattle.std.proofs.Common.{◌≡◌, ℕ, zero, suc, ◌+◌, ◌<◌, ◌≤◌, ◌↔◌, Bool, true, false, List, [], ◌∷◌, length, Option, Some, None, Result, Ok, Err, refl, ap, sym, ◌∙◌, ⊎_elim, add-zero, add-suc, arith, length-append, subst}
use Rattle.std.specs.Prelude.{◌||◌, slice_get, IfOk, OnOk, OnErr, IsErrOf, IsSomeAnd}
use Rattle.std.proofs.Math.Bool.{or-false, or_assoc}
use Rattle.std.proofs.lemmas.Bool.{cases_lt}
use Rattle.std.proofs.lemmas.Bool.Decides.{eqb_tells}
use Rattle.std.proofs.lemmas.List.Sums.{sum_by-cons}
use Rattle.std.proofs.lemmas.Option.{same_Some}
use Rattle.plain_store.specs.declared.calls.Reply.{Reply}
use Rattle.partition.specs.Events.{Event}
use Rattle.partition.specs.Accounts.{Account, IsEntered, events_at, places, with_event}
use Rattle.traced_book.specs.Forgetting.{AreBegunAnew, BeginsAnew, IsTaken}
use Rattle.traced_book.proofs.Forgetting.{none_left}
use Rattle.shard.specs.declared.jobs.Fault.{Fault}
use Rattle.shard.specs.declared.jobs.Fault.TheVariants.{NoTenant}
use Rattle.shard.specs.declared.shard.FollowUp.{FollowUp}
use Rattle.shard.specs.Counted.{AreEventsCounted, IsCounted, NotesEvent, NotesEvents, NotesLong, events_after, is_due, is_due_among, one_event, places_given}
use Rattle.shard.proofs.Short.{events_other, events_own}

-- ---- places that were given

same_list : {X : Type 0} (xs ys : List X) → ((k : ℕ) → slice_get ys k ≡ slice_get xs k) → ys ≡ xs
same_list [] [] same = refl
same_list [] (y ∷ ys) same = let both : Some y ≡ None = same 0 in cc
same_list (x ∷ xs) [] same = let both : None ≡ Some x = same 0 in cc
same_list (x ∷ xs) (y ∷ ys) same =
    let first : Some y ≡ Some x = same 0 in
    let rest : ys ≡ xs = same_list xs ys (λ k. same (suc k)) in
    cc

place_more : (account : Account) (e : Event) → places (with_event account e) ≡ places account + 1
place_more account e = omega (arith, length-append account.events (e ∷ []))

-- one more
places_more : (old new : List Account) (tenant : ℕ) (e : Event) → tenant < length old → IsEntered old new tenant e → places_given new ≡ places_given old + 1
places_more [] new tenant e there entered = absurd (omega (arith, there))
places_more (a ∷ old) [] tenant e there entered = let none : 0 ≡ length (a ∷ old) = entered.tenants in absurd (omega (arith, none))
places_more (a ∷ old) (b ∷ new) zero e there entered =
    let own : Some b ≡ Some (with_event a e) = entered.own a refl in
    let first : places b ≡ places (with_event a e) = cc in
    let rest : new ≡ old = same_list old new (λ k. entered.others (suc k) (λ is. absurd cc)) in
    let rests : places_given new ≡ places_given old = ap places_given rest in
    omega (arith, first, place_more a e, rests, sum_by-cons places a old, sum_by-cons places b new)
places_more (a ∷ old) (b ∷ new) (suc tenant) e there entered =
    let own : Some b ≡ Some a = entered.others zero (λ is. absurd cc) in
    let first : places b ≡ places a = cc in
    let rest = places_more old new tenant e (omega (arith, there))
    (record {
      own = entered.own;
      others = λ other apart. entered.others (suc other) (λ is. apart (omega (arith, is)));
      tenants = let long : length (b ∷ new) ≡ length (a ∷ old) = entered.tenants in omega (arith, long);
    }) in
    omega (arith, first, rest, sum_by-cons places a old, sum_by-cons places b new)

-- none more, where journals begin anew
places_anew : (old new : List Account) → AreBegunAnew old new → places_given new ≡ places_given old
places_anew [] [] begun = refl
places_anew [] (b ∷ new) begun = let none : length (b ∷ new) ≡ 0 = begun.tenants in absurd (omega (arith, none))
places_anew (a ∷ old) [] begun = let none : 0 ≡ length (a ∷ old) = begun.tenants in absurd (omega (arith, none))
places_anew (a ∷ old) (b ∷ new) begun =
    let its = begun.each zero a refl in
    let same : its.0 ≡ b = same_Some its.0 b (sym its.2) in
    let first : BeginsAnew a b = subst (BeginsAnew a) same its.1 in
    let rest = places_anew old new (record {
      each = λ tenant account is. begun.each (suc tenant) account is;
      tenants = let long : length (b ∷ new) ≡ length (a ∷ old) = begun.tenants in omega (arith, long);
    }) in
    omega (arith, first.places, ap length first.none, rest, sum_by-cons places a old, sum_by-cons places b new)

-- one more, which is kept or not
places_taken : (journals : Bool) (old new : List Account) (tenant : ℕ) (e : Event) → tenant < length old → IsTaken journals old new tenant e
    → places_given new ≡ places_given old + 1
places_taken true old new tenant e there taken = places_more old new tenant e there taken
places_taken false old new tenant e there taken = places_anew taken.0 new taken.2 ∙ places_more old taken.0 tenant e there taken.1

-- ---- events that were counted

-- none came
none_counted : (every : ℕ) (accounts : List Account) (events : ℕ) (was : Bool) → AreEventsCounted every accounts accounts events events was was
none_counted every accounts events was = record { n = 0; came = sym (add-zero (places_given accounts)); events = refl; due = sym (or-false was) }

-- one came where the call was served, and none where it was not
one_counted : (journals : Bool) (every : ℕ) (old new : List Account) (tenant : ℕ) (result : Result ℕ Fault) (reply : Option Reply) (e : Reply → Event) (before after : ℕ) (was now : FollowUp)
    → (IsErrOf result NoTenant ↔ (length old ≤ tenant)) → IfOk result (λ _. IsSomeAnd reply (λ r. IsTaken journals old new tenant (e r))) → OnErr result (new ≡ old)
    → OnOk result (IsCounted every before after was.collects now.collects) → OnErr result ((after ≡ before) × (now ≡ was))
    → AreEventsCounted every old new before after was.collects now.collects
one_counted journals every old new tenant (Ok place) None e before after was now there taken same counted uncounted = absurd taken
one_counted journals every old new tenant (Ok place) (Some r) e before after was now there taken same counted uncounted =
    let within : tenant < length old = omega (arith, λ (past : length old ≤ tenant). absent (there.1 past)) in
    record { n = 1; came = places_taken journals old new tenant (e r) within taken; events = counted.events; due = counted.due }
  where
    absent : Ok place ≡ Err NoTenant → ⊥
    absent is = cc
one_counted journals every old new tenant (Err f) reply e before after was now there taken same counted uncounted =
    rw (same, uncounted.0, uncounted.1) (none_counted every old before was.collects)

events_on : (every events n m : ℕ) → events_after every (events_after every events n) m ≡ events_after every events (n + m)
events_on every events n zero = ap (events_after every events) (sym (add-zero n))
events_on every events n (suc m) = ap (one_event every) (events_on every events n m) ∙ ap (events_after every events) (sym (add-suc n m))

due_on : (every events n m : ℕ) → (is_due_among every events n || is_due_among every (events_after every events n) m) ≡ is_due_among every events (n + m)
due_on every events n zero = or-false (is_due_among every events n) ∙ ap (is_due_among every events) (sym (add-zero n))
due_on every events n (suc m) =
    sym (or_assoc (is_due_among every events n) (is_due_among every (events_after every events n) m) (is_due every (events_after every (events_after every events n) m)))
    ∙ ap (λ b. b || is_due every (events_after every (events_after every events n) m)) (due_on every events n m)
    ∙ ap (λ k. is_due_among every events (n + m) || is_due every k) (events_on every events n m)
    ∙ ap (is_due_among every events) (sym (add-suc n m))

-- some, and then some more
counted_on : (every : ℕ) (old mid new : List Account) (before between after : ℕ) (was is now : Bool) → AreEventsCounted every old mid before between was is
    → AreEventsCounted every mid new between after is now → AreEventsCounted every old new before after was now
counted_on every old mid new before between after was is now first then =
    record {
      n = first.n + then.n;
      came = omega (arith, first.came, then.came);
      events = then.events ∙ ap (λ k. events_after every k then.n) first.events ∙ events_on every before first.n then.n;
      due = then.due ∙ ap (λ b. b || is_due_among every between then.n) first.due ∙ ap (λ k. (was || is_due_among every before first.n) || is_due_among every k then.n) first.events
          ∙ or_assoc was (is_due_among every before first.n) (is_due_among every (events_after every before first.n) then.n) ∙ ap (λ b. was || b) (due_on every before first.n then.n);
    }

-- ---- journals that got long

-- with an event that is kept
kept_long : (epoch : ℕ) (old new : List Account) (tenant : ℕ) (e : Event) (was now : Bool) → tenant < length old → IsEntered old new tenant e
    → (0 < epoch → length (events_at new tenant) ≡ epoch → now ≡ true) → (was ≡ true → now ≡ true) → NotesLong epoch old new was now
kept_long epoch old new tenant e was now within entered cuts still = record {
  before = still;
  long = λ some other few many.
      ⊎_elim
      (λ h. let own = events_own old new tenant e within entered in
      let was_few : length (events_at old tenant) < epoch = subst (λ t. length (events_at old t) < epoch) h.1 few in
      let is_many : epoch ≤ length (events_at new tenant) = subst (λ t. epoch ≤ length (events_at new t)) h.1 many in
      cuts some (omega (arith, own, was_few, is_many)))
      (λ h. let kept = events_other old new tenant other e entered h.1 in absurd (omega (arith, kept, few, many)))
      (eqb_tells other tenant);
}

-- none gets long where none is kept
anew_long : (epoch : ℕ) (old mid new : List Account) (was now : Bool) → AreBegunAnew mid new → (was ≡ true → now ≡ true) → NotesLong epoch old new was now
anew_long epoch old mid new was now begun still = record {
  before = still;
  long = λ some other few many.
      let none : length (events_at new other) ≡ 0 = ap length (none_left mid new other begun) in
      absurd (omega (arith, none, some, many));
}

taken_long : (journals : Bool) (epoch : ℕ) (old new : List Account) (tenant : ℕ) (e : Event) (was now : Bool) → tenant < length old → IsTaken journals old new tenant e
    → (0 < epoch → length (events_at new tenant) ≡ epoch → now ≡ true) → (was ≡ true → now ≡ true) → NotesLong epoch old new was now
taken_long true epoch old new tenant e was now within taken cuts still = kept_long epoch old new tenant e was now within taken cuts still
taken_long false epoch old new tenant e was now within taken cuts still = anew_long epoch old taken.0 new was now taken.2 still

-- with the event of a call that was served
one_long : (journals : Bool) (epoch : ℕ) (old new : List Account) (tenant : ℕ) (result : Result ℕ Fault) (reply : Option Reply) (e : Reply → Event) (was now : Bool)
    → (IsErrOf result NoTenant ↔ (length old ≤ tenant)) → IfOk result (λ _. IsSomeAnd reply (λ r. IsTaken journals old new tenant (e r))) → OnErr result (new ≡ old)
    → IfOk result (λ _. 0 < epoch → length (events_at new tenant) ≡ epoch → now ≡ true) → (was ≡ true → now ≡ true) → NotesLong epoch old new was now
one_long journals epoch old new tenant (Ok place) None e was now there taken same cuts still = absurd taken
one_long journals epoch old new tenant (Ok place) (Some r) e was now there taken same cuts still =
    let within : tenant < length old = omega (arith, λ (past : length old ≤ tenant). absent (there.1 past)) in
    taken_long journals epoch old new tenant (e r) was now within taken cuts still
  where
    absent : Ok place ≡ Err NoTenant → ⊥
    absent is = cc
one_long journals epoch old new tenant (Err f) reply e was now there taken same cuts still =
    record {
      before = still;
      long = λ some other few many. let kept = ap (λ accounts. length (events_at accounts other)) same in absurd (omega (arith, kept, few, many));
    }

-- what is due after one call
pub one_noted : (journals : Bool) (every epoch : ℕ) (old new : List Account) (tenant : ℕ) (result : Result ℕ Fault) (reply : Option Reply) (e : Reply → Event) (before after : ℕ) (was now : FollowUp)
    → (IsErrOf result NoTenant ↔ (length old ≤ tenant)) → IfOk result (λ _. IsSomeAnd reply (λ r. IsTaken journals old new tenant (e r))) → OnErr result (new ≡ old)
    → NotesEvent every epoch new tenant before after was now result → NotesEvents every epoch old new before after was now
one_noted journals every epoch old new tenant result reply e before after was now there taken same notes =
    record {
      counted = one_counted journals every old new tenant result reply e before after was now there taken same notes.counted notes.uncounted;
      cuts = one_long journals epoch old new tenant result reply e was.cuts now.cuts there taken same notes.cuts notes.still_cuts;
    }

-- what was noted first is noted still
long_on : (epoch : ℕ) (old mid new : List Account) (was is now : Bool) → NotesLong epoch old mid was is → NotesLong epoch mid new is now → NotesLong epoch old new was now
long_on epoch old mid new was is now first then =
    record {
      before = λ cut. then.before (first.before cut);
      long = λ some tenant few many.
          ⊎_elim
          (λ still. then.long some tenant still many)
          (λ got. then.before (first.long some tenant few got))
          (cases_lt (length (events_at mid tenant)) epoch);
    }

-- what is due after some calls, and then some more
pub notes_on : (every epoch : ℕ) (old mid new : List Account) (before between after : ℕ) (was is now : FollowUp) → NotesEvents every epoch old mid before between was is
    → NotesEvents every epoch mid new between after is now → NotesEvents every epoch old new before after was now
notes_on every epoch old mid new before between after was is now first then =
    record {
      counted = counted_on every old mid new before between after was.collects is.collects now.collects first.counted then.counted;
      cuts = long_on epoch old mid new was.cuts is.cuts now.cuts first.cuts then.cuts;
    }
