-- The answers of a store, tenant by tenant.
use Rattle.std.proofs.Common.{◌≡◌, ℕ, zero, suc, ◌+◌, ◌<◌, ◌≤◌, ◌==◌, Bool, true, false, cond, List, [], ◌∷◌, ◌++◌, length, map, take, get_or, slice_get, Some, None, eqb-true, inl, inr, refl, sym, ◌∙◌, ap, arith}
use Rattle.std.proofs.lemmas.Bool.{cases_lt, eqb-false}
use Rattle.std.proofs.lemmas.List.{append_assoc, append-nil, length-take, take_more}
use Rattle.std.proofs.lemmas.Option.{slice_get_past}
use Rattle.stamps.specs.declared.bounds.Limits.{Limits}
use Rattle.std.specs.Prelude.{All}
use Rattle.std.proofs.lemmas.List.Elements.{All-push}
use Rattle.plain_store.specs.declared.step.Act.{Act}
use Rattle.plain_store.specs.declared.answer.Answer.{Answer}
use Rattle.plain_store.specs.declared.answer.Answer.TheVariants.{Refused}
use Rattle.plain_store.specs.Words.{Setup, setup_of, IsAct}
use Rattle.plain_store.specs.declared.refusal.Refusal.TheVariants.{NoTenant}
use Rattle.plain_store.specs.History.{History}
use Rattle.plain_store.specs.Run.{answer_to, answers, moment_of, run}
use Rattle.plain_store.specs.declared.step.Step.{Step}
use Rattle.plain_store.specs.Tenants.{only, store_answer, answers_after, store_answers, own, IsIsolated}

-- ---- one step more

run-push : (setup : Setup) (history : History) (acts : List Act) (act : Act) → run setup history (acts ++ act ∷ []) ≡ moment_of setup (run setup history acts) act ∷ run setup history acts
run-push setup history [] act = refl
run-push setup history (first ∷ acts) act = run-push setup (moment_of setup history first ∷ history) acts act

only-push : (tenant : ℕ) (steps : List Step) (step : Step) → only tenant (steps ++ step ∷ []) ≡ only tenant steps ++ cond (step.tenant == tenant) (step.act ∷ []) []
only-push tenant [] step = by (step.tenant == tenant)
  where
    by : (b : Bool) → cond b (step.act ∷ []) [] ≡ cond b (step.act ∷ []) []
    by b = refl
only-push tenant (s ∷ steps) step = by (s.tenant == tenant) (only-push tenant steps step)
  where
    by : (b : Bool) → only tenant (steps ++ step ∷ []) ≡ only tenant steps ++ cond (step.tenant == tenant) (step.act ∷ []) []
        → cond b (s.act ∷ only tenant (steps ++ step ∷ [])) (only tenant (steps ++ step ∷ [])) ≡ cond b (s.act ∷ only tenant steps) (only tenant steps) ++ cond (step.tenant == tenant) (step.act ∷ []) []
    by true e = ap (λ acts. s.act ∷ acts) e
    by false e = e

answers_after-push : (partitions : ℕ) (limits : List Limits) (before steps : List Step) (step : Step)
    → answers_after partitions limits before (steps ++ step ∷ []) ≡ answers_after partitions limits before steps ++ store_answer partitions limits (before ++ steps) step ∷ []
answers_after-push partitions limits before [] step = rw append-nil refl
answers_after-push partitions limits before (s ∷ steps) step =
    ap (λ told. store_answer partitions limits before s ∷ told) (answers_after-push partitions limits (before ++ s ∷ []) steps step ∙ rw append_assoc refl)

-- ---- the answer at a place

answers_after-at : (partitions : ℕ) (limits : List Limits) (before steps : List Step) (i : ℕ) (step : Step) (answer : Answer) → i < length steps → step ≡ get_or steps i step
    → get_or (answers_after partitions limits before steps) i answer ≡ store_answer partitions limits (before ++ take i steps) step
answers_after-at partitions limits before [] i step answer within is = absurd (omega (arith, within))
answers_after-at partitions limits before (s ∷ steps) zero step answer within is = rw append-nil (ap (store_answer partitions limits before) (sym is))
answers_after-at partitions limits before (s ∷ steps) (suc i) step answer within is =
    answers_after-at partitions limits (before ++ s ∷ []) steps i step answer (omega (arith, within)) is ∙ rw append_assoc refl

pub length-answers_after : (partitions : ℕ) (limits : List Limits) (before steps : List Step) → length (answers_after partitions limits before steps) ≡ length steps
length-answers_after partitions limits before [] = refl
length-answers_after partitions limits before (s ∷ steps) = ap suc (length-answers_after partitions limits (before ++ s ∷ []) steps)

-- ---- one tenant more

got_take : {X : Type 0} (xs : List X) (n i : ℕ) → i < n → slice_get (take n xs) i ≡ slice_get xs i
got_take xs zero i h = absurd (omega (arith, h))
got_take [] (suc n) i h = refl
got_take (x ∷ xs) (suc n) zero h = refl
got_take (x ∷ xs) (suc n) (suc i) h = got_take xs n i (omega (arith, h))

got_past : {X : Type 0} (xs : List X) (n i : ℕ) → n ≤ i → slice_get (take n xs) i ≡ None
got_past xs n i h = slice_get_past (take n xs) i (omega (arith, length-take n xs))

got_other : {X : Type 0} (xs : List X) (n i : ℕ) → (i ≡ n → ⊥) → slice_get (take n xs) i ≡ slice_get (take (n + 1) xs) i
got_other xs n i apart =
    elim (cases_lt i n) [
      | inl h ↦ got_take xs n i h ∙ sym (got_take xs (n + 1) i (omega arith))
      | inr h ↦ got_past xs n i h ∙ sym (got_past xs (n + 1) i (omega (arith, apart)))
    ]

get_some : {X : Type 0} (xs : List X) (i : ℕ) (x : X) → i < length xs → x ≡ get_or xs i x → slice_get xs i ≡ Some x
get_some [] i x within is = absurd (omega (arith, within))
get_some (y ∷ xs) zero x within is = ap Some (sym is)
get_some (y ∷ xs) (suc i) x within is = get_some xs i x (omega (arith, within)) is

take_one : {X : Type 0} (xs : List X) (i : ℕ) (x : X) → i < length xs → x ≡ get_or xs i x → take (i + 1) xs ≡ take i xs ++ x ∷ []
take_one xs i x within at = take_more xs i x within ∙ ap (λ y. take i xs ++ y ∷ []) (sym at)

module _ (setup : Setup) (tenant : ℕ) where
  run_own : (before : List Step) (step : Step) → (step.tenant == tenant) ≡ true
      → run setup [] (only tenant (before ++ step ∷ [])) ≡ moment_of setup (run setup [] (only tenant before)) step.act ∷ run setup [] (only tenant before)
  run_own before step same = rw (only-push tenant before step, same) (run-push setup [] (only tenant before) step.act)

  only_other : (before : List Step) (step : Step) → (step.tenant == tenant) ≡ false → only tenant (before ++ step ∷ []) ≡ only tenant before
  only_other before step other = rw (only-push tenant before step, other, append-nil) refl

  -- the tenant's history after one step more
  pub history_more : (steps : List Step) (i : ℕ) (step : Step) (history after : History) → history ≡ run setup [] (only tenant (take i steps)) → i < length steps → step ≡ get_or steps i step
      → after ≡ cond (step.tenant == tenant) (moment_of setup history step.act ∷ history) history → after ≡ run setup [] (only tenant (take (i + 1) steps))
  history_more steps i step history after so within at is = is ∙ rw (take_one steps i step within at) (by (step.tenant == tenant) refl)
    where
      by : (b : Bool) → (step.tenant == tenant) ≡ b → cond b (moment_of setup history step.act ∷ history) history ≡ run setup [] (only tenant (take i steps ++ step ∷ []))
      by true e = rw (run_own (take i steps) step e, so) refl
      by false e = rw (only_other (take i steps) step e) so

-- the acts of one step more
pub valid_more : (tenant : ℕ) (steps : List Step) (i : ℕ) (step : Step) → All IsAct (only tenant (take i steps)) → i < length steps → step ≡ get_or steps i step → IsAct step.act
    → All IsAct (only tenant (take (i + 1) steps))
valid_more tenant steps i step valid within at is = rw (take_one steps i step within at, only-push tenant (take i steps) step) (by (step.tenant == tenant))
  where
    by : (b : Bool) → All IsAct (only tenant (take i steps) ++ cond b (step.act ∷ []) [])
    by true = All-push IsAct (only tenant (take i steps)) step.act valid is
    by false = rw append-nil valid

-- ---- each tenant alone

module _ (partitions : ℕ) (limits : List Limits) (tenant : ℕ) (its : Limits) (there : slice_get limits tenant ≡ Some its) where
  answer_own : (before : List Step) (step : Step) → step.tenant ≡ tenant → store_answer partitions limits before step ≡ answer_to (setup_of partitions its) (run (setup_of partitions its) [] (only tenant before)) step.act
  unfolding store_answer
  answer_own before step same = rw (same, there) refl

  -- a tenant's answers among all are those to its own steps
  isolated_after : (before steps : List Step) → own tenant steps (answers_after partitions limits before steps) ≡ answers (setup_of partitions its) (run (setup_of partitions its) [] (only tenant before)) (only tenant steps)
  isolated_after before [] = refl
  isolated_after before (s ∷ steps) = by (s.tenant == tenant) refl (isolated_after (before ++ s ∷ []) steps)
    where
      by : (b : Bool) → (s.tenant == tenant) ≡ b
          → own tenant steps (answers_after partitions limits (before ++ s ∷ []) steps) ≡ answers (setup_of partitions its) (run (setup_of partitions its) [] (only tenant (before ++ s ∷ []))) (only tenant steps)
          → cond b (store_answer partitions limits before s ∷ own tenant steps (answers_after partitions limits (before ++ s ∷ []) steps)) (own tenant steps (answers_after partitions limits (before ++ s ∷ []) steps))
          ≡ answers (setup_of partitions its) (run (setup_of partitions its) [] (only tenant before)) (cond b (s.act ∷ only tenant steps) (only tenant steps))
      by true e more = rw (answer_own before s (eqb-true s.tenant tenant e), more, run_own (setup_of partitions its) tenant before s e) refl
      by false e more = more ∙ rw (only_other (setup_of partitions its) tenant before s e) refl

pub isolated : (partitions : ℕ) (limits : List Limits) (steps : List Step) → IsIsolated partitions limits steps (store_answers partitions limits steps)
isolated partitions limits steps tenant its there = isolated_after partitions limits tenant its there [] steps

-- ---- the answers after one step more, where those of the tenants before are known

answer_other : (partitions : ℕ) (limits : List Limits) (tenant : ℕ) (before : List Step) (step : Step) → (step.tenant == tenant) ≡ false
    → store_answer partitions (take tenant limits) before step ≡ store_answer partitions (take (tenant + 1) limits) before step
unfolding store_answer
answer_other partitions limits tenant before step other = rw (got_other limits tenant step.tenant (eqb-false step.tenant tenant other)) refl

pub answers_more : (partitions : ℕ) (limits : List Limits) (tenant : ℕ) (its : Limits) (steps : List Step) (i : ℕ) (step : Step) (history : History) (others told : List Answer) (answer other : Answer)
    → tenant < length limits → its ≡ get_or limits tenant its → history ≡ run (setup_of partitions its) [] (only tenant (take i steps))
    → others ≡ store_answers partitions (take tenant limits) steps → told ≡ store_answers partitions (take (tenant + 1) limits) (take i steps)
    → i < length steps → step ≡ get_or steps i step → other ≡ get_or others i other
    → answer ≡ cond (step.tenant == tenant) (answer_to (setup_of partitions its) history step.act) other
    → told ++ answer ∷ [] ≡ store_answers partitions (take (tenant + 1) limits) (take (i + 1) steps)
answers_more partitions limits tenant its steps i step history others told answer other has its_at so as_others as_told within at other_at is =
    let last : answer ≡ store_answer partitions (take (tenant + 1) limits) (take i steps) step = is ∙ by (step.tenant == tenant) refl in
    rw (take_one steps i step within at, answers_after-push partitions (take (tenant + 1) limits) [] (take i steps) step, ← last, ← as_told) refl
  where
    there : slice_get (take (tenant + 1) limits) tenant ≡ Some its
    there = got_take limits (tenant + 1) tenant (omega arith) ∙ get_some limits tenant its has its_at

    by : (b : Bool) → (step.tenant == tenant) ≡ b → cond b (answer_to (setup_of partitions its) history step.act) other ≡ store_answer partitions (take (tenant + 1) limits) (take i steps) step
    by true e = ap (λ h. answer_to (setup_of partitions its) h step.act) so ∙ sym (answer_own partitions (take (tenant + 1) limits) tenant its there (take i steps) step (eqb-true step.tenant tenant e))
    by false e =
        other_at ∙ ap (λ list. get_or list i other) as_others ∙ answers_after-at partitions (take tenant limits) [] steps i step other within at
        ∙ answer_other partitions limits tenant (take i steps) step e

-- where no tenant is there, each step is refused
pub no_tenants : (partitions : ℕ) (before steps : List Step) → map (λ (step : Step). Refused NoTenant) steps ≡ answers_after partitions [] before steps
unfolding store_answer
no_tenants partitions before [] = refl
no_tenants partitions before (s ∷ steps) = ap (λ told. Refused NoTenant ∷ told) (no_tenants partitions (before ++ s ∷ []) steps)
