-- What each tenant can rely on: for `World::step` and `World::run`.
use Rattle.std.proofs.Common.{◌≡◌, ℕ, zero, suc, ◌<◌, ◌≤◌, List, [], ◌∷◌, ◌++◌, Bool, true, false, ◌==◌, refl, sym, ap, ◌∙◌, subst, cond, length, take, drop, slice_get, Some, ◌+◌, ◌⊎◌, inl, inr, add-one, append-nil, append_assoc, eqb-true, eq-eqb, arith}
use Rattle.std.specs.Prelude.{All}
use Rattle.std.proofs.lemmas.Option.{slice_get_within}
use Rattle.std.proofs.lemmas.List.{take-append-drop}
use Rattle.std.proofs.Math.Seq.{take-append_seam, drop-append_seam}
use Rattle.stamps.specs.Limits.{max_parts}
use Rattle.plain_store.specs.declared.step.Act.{Act}
use Rattle.plain_store.specs.declared.answer.Answer.{Answer}
use Rattle.plain_store.specs.Words.{Setup, setup_of, IsAct}
use Rattle.plain_store.specs.declared.step.Step.{Step}
use Rattle.stamps.specs.declared.bounds.Limits.{Limits}
use Rattle.plain_store.specs.Run.{answer_to, answers, moment_of, run, sent_by}
use Rattle.plain_store.specs.Tenants.{only, own, tenant_answer, store_answer, answers_after}
use Rattle.plain_store.specs.Laws.{EachStep, IsFalse, IsAtomicAnswer, IsFreshAnswer, IsRightRestart, IsTakenBack}
use Rattle.plain_store.specs.Newest.{IsNewestAnswer}
use Rattle.plain_store.specs.Told.{IsToldAnswer, IsIgnoredAnswer}
use Rattle.plain_store.specs.Partitions.{IsPartitionsAnswer, IsFullAnswer}
use Rattle.plain_store.specs.History.{History}
use Rattle.plain_store.proofs.StaysTrue.{at_is}
use Rattle.plain_store.proofs.Runs.{atomic, fresh, honest, right_restarts, sends_home, not_decided}
use Rattle.plain_store.proofs.TakenBack.{taken_back}
use Rattle.plain_store.proofs.LawRuns.{told, ignored_rightly, answered, full, few, newest}
use Rattle.message_table.proofs.Sending.{message_at-in}
use Rattle.world.specs.Content.{WorldContent, parts_of}
use Rattle.world.specs.Standing.{StandsFor, history_of}
use Rattle.world.specs.Running.{Ran, added, steps_taken}
use Rattle.world.specs.Promises.{IsDiscardIgnored, IsPromised, IsPromisedAfter, ArePromised, AreCallsOf}
use Rattle.world.proofs.Moments.{run-push}
use Rattle.world.proofs.Discarding.{discards_ignored}
use Rattle.world.proofs.TakenBack.{none_is_kept}
use Rattle.world.proofs.Worlds.{only_valid, only_own, only_other}

-- ---- one answer

after_all : {X : Type 0} (xs : List X) (x : X) → slice_get (xs ++ x ∷ []) (length xs) ≡ Some x
after_all [] x = refl
after_all (y ∷ ys) x = after_all ys x

-- of a step's answer, in the light of what its tenant was asked before
abbrev Promise : Type 1
Promise = Setup → History → Act → Answer → Type 0

-- the answer to a step of a tenant with these limits
module _ (partitions : ℕ) (limits : List Limits) (before : List Step) (step : Step) (answer : Answer) (valid : All (λ (s : Step). IsAct s.act) (before ++ step ∷ [])) (is : answer ≡ store_answer partitions limits before step)
    (its : Limits) (there : slice_get limits step.tenant ≡ Some its) where
  abbrev setup : Setup
  setup = setup_of partitions its

  abbrev history : History
  history = history_of setup step.tenant before

  -- what holds of each step of every run holds of it
  kept : (P : Promise) → ((setup : Setup) (acts : List Act) → EachStep (P setup) setup acts) → P setup history step.act answer
  unfolding store_answer
  kept P law =
      let acts = only step.tenant before in
      let own : only step.tenant (before ++ step ∷ []) ≡ acts ++ step.act ∷ [] = only_own before step in
      let all : All IsAct (acts ++ step.act ∷ []) = subst (All IsAct) own (only_valid step.tenant (before ++ step ∷ []) valid) in
      let holds = law setup (acts ++ step.act ∷ []) all (length acts) step.act (after_all acts step.act) in
      let at : P setup (run setup [] acts) step.act (answer_to setup (run setup [] acts) step.act) = subst (λ front. P setup (run setup [] front) step.act (answer_to setup (run setup [] front) step.act)) (take-append_seam acts (step.act ∷ [])) holds in
      subst (P setup (run setup [] acts) step.act) (sym (is ∙ ap (λ o. tenant_answer partitions o acts step.act) there)) at

  -- so every promise is kept, where it sends few messages
  pub promised : length (sent_by setup history step.act) ≤ max_parts → IsPromised setup history step.act answer
  promised few_rows = record {
    alone = kept (λ setup history act answer. answer ≡ answer_to setup history act) (λ setup acts valid n act at. refl);
    atomic = kept (λ setup. IsAtomicAnswer) atomic;
    truthful = kept (λ setup history act answer. IsFalse answer → ⊥) honest;
    fresh = kept (λ setup. IsFreshAnswer) fresh;
    newest = kept (λ setup. IsNewestAnswer) newest;
    restarts = kept IsRightRestart right_restarts;
    told = kept IsToldAnswer told;
    ignored = kept (λ setup. IsIgnoredAnswer) ignored_rightly;
    served = kept IsPartitionsAnswer answered;
    full = kept IsFullAnswer full;
    taken_back = kept IsTakenBack taken_back;
    discard_ignored = kept (λ setup. IsDiscardIgnored) discards_ignored;
    rows = few_rows;
  }

-- ---- the answers of a run

length-answers : (partitions : ℕ) (limits : List Limits) (before steps : List Step) → length (answers_after partitions limits before steps) ≡ length steps
length-answers partitions limits before [] = refl
length-answers partitions limits before (s ∷ steps) = ap suc (length-answers partitions limits (before ++ s ∷ []) steps)

answer_at : (partitions : ℕ) (limits : List Limits) (before steps : List Step) (n : ℕ) (step : Step) (answer : Answer) → slice_get steps n ≡ Some step → slice_get (answers_after partitions limits before steps) n ≡ Some answer
    → answer ≡ store_answer partitions limits (before ++ take n steps) step
answer_at partitions limits before [] n step answer at told = cc
answer_at partitions limits before (s ∷ steps) zero step answer at told =
    let same : s ≡ step = cc in let is : store_answer partitions limits before s ≡ answer = cc in
    sym is ∙ ap (store_answer partitions limits before) same ∙ ap (λ b. store_answer partitions limits b step) (sym (append-nil before))
answer_at partitions limits before (s ∷ steps) (suc n) step answer at told =
    answer_at partitions limits (before ++ s ∷ []) steps n step answer at told ∙ ap (λ b. store_answer partitions limits b step) (append_assoc before (s ∷ []) (take n steps))

got_front : {X : Type 0} (xs : List X) (n i : ℕ) → i < n → slice_get (take n xs) i ≡ slice_get xs i
got_front xs zero i h = absurd (omega (arith, h))
got_front [] (suc n) i h = refl
got_front (x ∷ xs) (suc n) zero h = refl
got_front (x ∷ xs) (suc n) (suc i) h = got_front xs n i (omega (arith, h))

front_front : {X : Type 0} (xs : List X) (n i : ℕ) → i ≤ n → take i (take n xs) ≡ take i xs
front_front xs n zero h = refl
front_front xs zero (suc i) h = absurd (omega (arith, h))
front_front [] (suc n) (suc i) h = refl
front_front (x ∷ xs) (suc n) (suc i) h = ap (λ zs. x ∷ zs) (front_front xs n i (omega (arith, h)))

front_of_front : {X : Type 0} (xs : List X) (n : ℕ) → take (length (take n xs)) xs ≡ take n xs
front_of_front xs n = ap (take (length (take n xs))) (sym (take-append-drop n xs)) ∙ take-append_seam (take n xs) (drop n xs)

-- so many steps were taken
pub ran : (partitions : ℕ) (limits : List Limits) (world : WorldContent) (before steps : List Step) (old new : List Answer) (whole : Bool) (count : ℕ) → new ≡ old ++ answers_after partitions limits before (take count steps) → StandsFor world (before ++ take count steps)
    → (whole ≡ true → take count steps ≡ steps) → Ran partitions limits world before steps old new whole
ran partitions limits world before steps old new whole count told stands all =
    let is : added old new ≡ answers_after partitions limits before (take count steps) = ap (drop (length old)) told ∙ drop-append_seam old (answers_after partitions limits before (take count steps)) in
    let same : steps_taken steps old new ≡ take count steps = ap (λ n. take n steps) (ap length is ∙ length-answers partitions limits before (take count steps)) ∙ front_of_front steps count in
    record {
      answers = told ∙ ap (λ front. old ++ answers_after partitions limits before front) (sym same);
      stands = subst (λ front. StandsFor world (before ++ front)) (sym same) stands;
      all = λ ok. same ∙ all ok;
    }

-- ---- each tenant alone

alone : (partitions : ℕ) (limits : List Limits) (before steps : List Step) (tenant : ℕ) (its : Limits) → slice_get limits tenant ≡ Some its
    → own tenant steps (answers_after partitions limits before steps) ≡ answers (setup_of partitions its) (history_of (setup_of partitions its) tenant before) (only tenant steps)
unfolding store_answer
alone partitions limits before [] tenant its there = refl
alone partitions limits before (s ∷ steps) tenant its there = by (s.tenant == tenant) refl (alone partitions limits (before ++ s ∷ []) steps tenant its there)
  where
    setup : Setup
    setup = setup_of partitions its

    rest : List Answer
    rest = answers_after partitions limits (before ++ s ∷ []) steps

    first : s.tenant ≡ tenant → store_answer partitions limits before s ≡ answer_to setup (run setup [] (only tenant before)) s.act
    first names = ap (λ n. tenant_answer partitions (slice_get limits n) (only n before) s.act) names ∙ ap (λ o. tenant_answer partitions o (only tenant before) s.act) there

    next : s.tenant ≡ tenant → history_of setup tenant (before ++ s ∷ []) ≡ moment_of setup (history_of setup tenant before) s.act ∷ history_of setup tenant before
    next names = ap (run setup []) (subst (λ n. only n (before ++ s ∷ []) ≡ only n before ++ s.act ∷ []) names (only_own before s)) ∙ run-push setup [] (only tenant before) s.act

    by : (b : Bool) → (s.tenant == tenant) ≡ b → own tenant steps rest ≡ answers setup (history_of setup tenant (before ++ s ∷ [])) (only tenant steps)
        → cond b (store_answer partitions limits before s ∷ own tenant steps rest) (own tenant steps rest) ≡ answers setup (history_of setup tenant before) (cond b (s.act ∷ only tenant steps) (only tenant steps))
    by true e more =
        let names = eqb-true s.tenant tenant e in
        (λ i. first names i ∷ more i) ∙ ap (λ h. answer_to setup (history_of setup tenant before) s.act ∷ answers setup h (only tenant steps)) (next names)
    by false e more = more ∙ ap (λ acts. answers setup (run setup [] acts) (only tenant steps)) (only_other tenant before s (λ same. let yes = eq-eqb s.tenant tenant (sym same) in cc))

-- ---- all answers

-- an element of a front is one of a shorter front, or the last
last_or_before : {X : Type 0} (xs : List X) (i n : ℕ) (x : X) → slice_get (take (suc i) xs) n ≡ Some x → (slice_get (take i xs) n ≡ Some x) ⊎ ((n ≡ i) × (slice_get xs i ≡ Some x))
last_or_before [] i n x at = cc
last_or_before (y ∷ ys) zero zero x at = inr (refl, at)
last_or_before (y ∷ ys) zero (suc n) x at = cc
last_or_before (y ∷ ys) (suc i) zero x at = inl at
last_or_before (y ∷ ys) (suc i) (suc n) x at = elim (last_or_before ys i n x at) [ inl h ↦ inl h | inr h ↦ inr (ap suc h.0, h.1) ]

same_some : {X : Type 0} (x y : X) → Some x ≡ Some y → x ≡ y
same_some x y e = cc

-- what holds of each step so far and of the next one holds of each step up to that
pub each_more : (P : ℕ → Step → Type 0) (steps : List Step) (i : ℕ) (step : Step) → slice_get steps i ≡ Some step → ((n : ℕ) (s : Step) → slice_get (take i steps) n ≡ Some s → P n s) → P i step
    → (n : ℕ) (s : Step) → slice_get (take (i + 1) steps) n ≡ Some s → P n s
each_more P steps i step at sofar next n s there = elim (last_or_before steps i n s (ap (λ k. slice_get (take k steps) n) (sym (add-one i)) ∙ there)) [
  | inl h ↦ sofar n s h
  | inr h ↦ subst (λ k. P k s) (sym h.0) (subst (P i) (same_some step s (sym at ∙ h.1)) next)
]

-- what is promised after each step that was taken is promised of the answers that were added
pub are_promised : (partitions : ℕ) (limits : List Limits) (before steps : List Step) (old new : List Answer) (count : ℕ) → new ≡ old ++ answers_after partitions limits before (take count steps)
    → ((n : ℕ) (step : Step) → slice_get (take count steps) n ≡ Some step → IsPromisedAfter partitions limits (before ++ take n steps) step (store_answer partitions limits (before ++ take n steps) step))
    → ArePromised partitions limits before steps (added old new)
are_promised partitions limits before steps old new count told_all keeps =
    let front = take count steps in
    let is : added old new ≡ answers_after partitions limits before front = ap (drop (length old)) told_all ∙ drop-append_seam old (answers_after partitions limits before front) in
    let same : take (length (added old new)) steps ≡ front = ap (λ n. take n steps) (ap length is ∙ length-answers partitions limits before front) ∙ front_of_front steps count in
    record {
      alone = λ tenant its there.
          (λ i. own tenant (same i) (is i)) ∙ alone partitions limits before front tenant its there
          ∙ ap (λ steps_taken. answers (setup_of partitions its) (history_of (setup_of partitions its) tenant before) (only tenant steps_taken)) (sym same);
      each = λ n step answer at given.
          let within : n < length (added old new) = slice_get_within (added old new) n answer given in
          let here : slice_get front n ≡ Some step = ap (λ steps_taken. slice_get steps_taken n) (sym same) ∙ got_front steps (length (added old new)) n within ∙ at in
          let one : answer ≡ store_answer partitions limits (before ++ take n front) step = answer_at partitions limits before front n step answer here (ap (λ ts. slice_get ts n) (sym is) ∙ given) in
          let first : take n front ≡ take n steps = ap (take n) (sym same) ∙ front_front steps (length (added old new)) n (omega (arith, within)) in
          subst (IsPromisedAfter partitions limits (before ++ take n steps) step) (sym (one ∙ ap (λ b. store_answer partitions limits (before ++ b) step) first)) (keeps n step here);
    }

-- ---- calls

pub calls_of_steps : (world : WorldContent) (steps : List Step) → StandsFor world steps → AreCallsOf world steps
calls_of_steps world steps stands = record {
  home = λ number tenant row message at held.
      let setup = setup_of (parts_of world) tenant.limits in
      let history = history_of setup number steps in
      let table = (stands.tenants number tenant at).table in
      sends_home setup (only number steps) (only_valid number steps stands.valid) message (at_is history row message (sym (table.live row ∙ message_at-in history row) ∙ held));
  undecided = λ number tenant row message stamp at held discards.
      let setup = setup_of (parts_of world) tenant.limits in
      let history = history_of setup number steps in
      let table = (stands.tenants number tenant at).table in
      not_decided setup (only number steps) (only_valid number steps stands.valid) message stamp (at_is history row message (sym (table.live row ∙ message_at-in history row) ∙ held)) discards;
  dropped = λ number tenant partition stamp version at.
      none_is_kept (setup_of (parts_of world) tenant.limits) (only number steps) partition stamp version (only_valid number steps stands.valid);
  few = λ number tenant transaction at began never.
      few (setup_of (parts_of world) tenant.limits) (only number steps) (only_valid number steps stands.valid) transaction began never;
}
