-- What a step of one tenant leaves of the world: for `World::step` and `World::run`.
use Rattle.std.proofs.Common.{◌≡◌, ◌≢◌, ℕ, ◌<◌, ◌≤◌, List, [], ◌∷◌, ◌++◌, Bool, true, false, ◌==◌, inl, inr, refl, sym, ap, ◌∙◌, subst, cond, map, length, get_or, set, slice_get, append-nil, append_assoc, Some, None, Result, eq-eqb, arith}
use Rattle.std.specs.Prelude.{All, IfOk, MatchResult}
use Rattle.std.proofs.lemmas.Bool.{ne_eqb}
use Rattle.std.proofs.lemmas.List.{length-set, length-map}
use Rattle.std.proofs.Math.Seq.{map-set_same}
use Rattle.std.proofs.lemmas.List.Elements.{All-nil, All-cons, All-head, All-tail, All-push}
use Rattle.std.proofs.lemmas.Option.{slice_get-get_or, slice_get_within, slice_get_past, slice_get-map, get_or_from_slice_get}
use Rattle.std.specs.Option.{option_map}
use Rattle.stamps.specs.Bounds.{IsParts}
use Rattle.stamps.specs.Limits.{max_parts}
use Rattle.plain_store.specs.declared.answer.Answer.{Answer}
use Rattle.plain_store.specs.declared.answer.Answer.TheVariants.{Refused}
use Rattle.plain_store.specs.Words.{Setup, setup_of, IsAct}
use Rattle.plain_store.specs.declared.refusal.Refusal.TheVariants.{NoTenant}
use Rattle.plain_store.specs.declared.step.Step.{Step}
use Rattle.plain_store.specs.declared.out_of_memory.OutOfMemory.{OutOfMemory}
use Rattle.stamps.specs.declared.bounds.Limits.{Limits}
use Rattle.plain_store.specs.History.{log_at}
use Rattle.plain_store.specs.Run.{moment_of, answer_to, sent_by, run}
use Rattle.plain_store.specs.Tenants.{only, tenant_answer, store_answer, answers_after}
use Rattle.tenant_sessions.specs.Sessions.{IsRun}
use Rattle.partition.specs.Shelf.{StandsFor as CellStandsFor}
use Rattle.partition.specs.declared.shelf.Shelf.{Shelf}
use Rattle.world.specs.declared.tenant.Tenant.{Tenant}
use Rattle.world.specs.Content.{WorldContent, parts_of, limits_of}
use Rattle.world.specs.Standing.{TenantStandsFor, CellsStandFor, history_of, StandsFor, IsWorld, OthersStay, ServesOrStays}
use Rattle.world.specs.Memory.{MayTakeMemory, AsksLast, StepAsksLast}
use Rattle.world.proofs.Asking.{on_err_map}
use Rattle.world.proofs.Results.{after_set, match_map, each_ok}
use Rattle.world.proofs.Moments.{run-push}

-- ---- each tenant's own steps

only-push : (tenant : ℕ) (steps : List Step) (step : Step) → only tenant (steps ++ step ∷ []) ≡ only tenant steps ++ cond (step.tenant == tenant) (step.act ∷ []) []
only-push tenant [] step = refl
only-push tenant (s ∷ steps) step = by (s.tenant == tenant) (only-push tenant steps step)
  where
    by : (b : Bool) → only tenant (steps ++ step ∷ []) ≡ only tenant steps ++ cond (step.tenant == tenant) (step.act ∷ []) []
        → cond b (s.act ∷ only tenant (steps ++ step ∷ [])) (only tenant (steps ++ step ∷ [])) ≡ cond b (s.act ∷ only tenant steps) (only tenant steps) ++ cond (step.tenant == tenant) (step.act ∷ []) []
    by true e = ap (λ acts. s.act ∷ acts) e
    by false e = e

pub only_own : (before : List Step) (step : Step) → only step.tenant (before ++ step ∷ []) ≡ only step.tenant before ++ step.act ∷ []
only_own before step = only-push step.tenant before step ∙ ap (λ b. only step.tenant before ++ cond b (step.act ∷ []) []) (eq-eqb step.tenant step.tenant refl)

pub only_other : (tenant : ℕ) (before : List Step) (step : Step) → tenant ≢ step.tenant → only tenant (before ++ step ∷ []) ≡ only tenant before
only_other tenant before step apart = only-push tenant before step ∙ ap (λ b. only tenant before ++ cond b (step.act ∷ []) []) (ne_eqb step.tenant tenant (λ e. apart (sym e))) ∙ append-nil (only tenant before)

pub only_valid : (tenant : ℕ) (steps : List Step) → All (λ (step : Step). IsAct step.act) steps → All IsAct (only tenant steps)
only_valid tenant [] valid = All-nil IsAct
only_valid tenant (s ∷ steps) valid = by (s.tenant == tenant) (only_valid tenant steps (All-tail (λ (step : Step). IsAct step.act) s steps valid))
  where
    by : (b : Bool) → All IsAct (only tenant steps) → All IsAct (cond b (s.act ∷ only tenant steps) (only tenant steps))
    by true rest = All-cons IsAct s.act (only tenant steps) (All-head (λ (step : Step). IsAct step.act) s steps valid) rest
    by false rest = rest

-- ---- limits

pub limits_at : (tenants : List Tenant) (number : ℕ) (tenant : Tenant) → slice_get tenants number ≡ Some tenant → slice_get (map (λ (t : Tenant). t.limits) tenants) number ≡ Some tenant.limits
limits_at tenants number tenant at = slice_get-map (λ (t : Tenant). t.limits) tenants number ∙ ap (option_map (λ (t : Tenant). t.limits)) at

no_limits : (tenants : List Tenant) (number : ℕ) → length tenants ≤ number → slice_get (map (λ (t : Tenant). t.limits) tenants) number ≡ None
no_limits tenants number past = slice_get_past (map (λ (t : Tenant). t.limits) tenants) number (omega (arith, past, length-map tenants (λ (t : Tenant). t.limits)))

limits-set : (tenants : List Tenant) (number : ℕ) (old new : Tenant) → slice_get tenants number ≡ Some old → new.limits ≡ old.limits → map (λ (t : Tenant). t.limits) (set tenants number new) ≡ map (λ (t : Tenant). t.limits) tenants
limits-set tenants number old new at same =
    map-set_same (λ (t : Tenant). t.limits) tenants number new old (same ∙ ap (λ (t : Tenant). t.limits) (sym (get_or_from_slice_get tenants number old old at)))

own_limits : (its own : Limits) → Some its ≡ Some own → its ≡ own
own_limits its own e = cc

-- a step that follows these sends no more than `max_parts` messages
abbrev pub SendsFewRows : ℕ → List Limits → List Step → Step → Type 0
SendsFewRows partitions limits before step =
    (its : Limits) → slice_get limits step.tenant ≡ Some its → length (sent_by (setup_of partitions its) (history_of (setup_of partitions its) step.tenant before) step.act) ≤ max_parts

-- ---- one tenant's step

module _ (shelves shelves' : List Shelf) (tenants : List Tenant) (number : ℕ) (old new : Tenant) (at : slice_get tenants number ≡ Some old) (others : OthersStay shelves shelves' number) (same : new.limits ≡ old.limits) where
  abbrev world : WorldContent
  world = record { shelves = shelves; tenants = tenants }

  abbrev world' : WorldContent
  world' = record { shelves = shelves'; tenants = set tenants number new }

  abbrev setup : Setup
  setup = setup_of (length shelves) old.limits

  own_setup : setup_of (length shelves') new.limits ≡ setup
  own_setup = λ i. setup_of (others.parts i) (same i)

  shelf_before : (partition : ℕ) (after : Shelf) → slice_get shelves' partition ≡ Some after → (before : Shelf) × (slice_get shelves partition ≡ Some before)
  shelf_before partition after there =
      let within : partition < length shelves = omega (arith, slice_get_within shelves' partition after there, others.parts) in
      (get_or shelves partition after, slice_get-get_or shelves partition after within)

  pub limits_stay : limits_of world' ≡ limits_of world
  limits_stay = limits-set tenants number old new at same

  -- the tenant stands for its acts after the step, and every other one for those that it had
  stands_after : (before after : List Step) → StandsFor world before → All (λ (step : Step). IsAct step.act) after → TenantStandsFor setup (run setup [] (only number after)) new
      → CellsStandFor setup (run setup [] (only number after)) shelves' number → ((n : ℕ) → n ≢ number → only n after ≡ only n before) → StandsFor world' after
  stands_after before after stands valid own cells apart = record { valid = valid; tenants = each; cells = each_cells }
    where
      each : (n : ℕ) (tenant : Tenant) → slice_get (set tenants number new) n ≡ Some tenant → TenantStandsFor (setup_of (length shelves') tenant.limits) (history_of (setup_of (length shelves') tenant.limits) n after) tenant
      each n tenant there = elim (after_set tenants number new n tenant (slice_get_within tenants number old at) there) [
        | inl h ↦ subst (λ t. TenantStandsFor (setup_of (length shelves') t.limits) (history_of (setup_of (length shelves') t.limits) n after) t) (sym h.1)
            (subst (λ k. TenantStandsFor (setup_of (length shelves') new.limits) (history_of (setup_of (length shelves') new.limits) k after) new) (sym h.0)
            (subst (λ s. TenantStandsFor s (history_of s number after) new) (sym own_setup) own))
        | inr h ↦ subst (λ parts. TenantStandsFor (setup_of parts tenant.limits) (history_of (setup_of parts tenant.limits) n after) tenant) (sym others.parts)
            (subst (λ acts. TenantStandsFor (setup_of (length shelves) tenant.limits) (run (setup_of (length shelves) tenant.limits) [] acts) tenant) (sym (apart n h.0)) (stands.tenants n tenant h.1))
      ]

      kept : (n : ℕ) (tenant : Tenant) → n ≢ number → slice_get tenants n ≡ Some tenant → CellsStandFor (setup_of (length shelves) tenant.limits) (history_of (setup_of (length shelves) tenant.limits) n after) shelves' n
      kept n tenant differs there partition shelf placed =
          let was = shelf_before partition shelf placed in
          let held = stands.cells n tenant there partition was.0 was.1 in
          let stays = others.others partition was.0 shelf was.1 placed n differs in
          (stays.0 ∙ held.0, stays.1 _ (subst (λ acts. CellStandsFor was.0 n (log_at (setup_of (length shelves) tenant.limits) (run (setup_of (length shelves) tenant.limits) [] acts) partition)) (sym (apart n differs)) held.1))

      each_cells : (n : ℕ) (tenant : Tenant) → slice_get (set tenants number new) n ≡ Some tenant → CellsStandFor (setup_of (length shelves') tenant.limits) (history_of (setup_of (length shelves') tenant.limits) n after) shelves' n
      each_cells n tenant there = elim (after_set tenants number new n tenant (slice_get_within tenants number old at) there) [
        | inl h ↦ subst (λ t. CellsStandFor (setup_of (length shelves') t.limits) (history_of (setup_of (length shelves') t.limits) n after) shelves' n) (sym h.1)
            (subst (λ k. CellsStandFor (setup_of (length shelves') new.limits) (history_of (setup_of (length shelves') new.limits) k after) shelves' k) (sym h.0)
            (subst (λ s. CellsStandFor s (history_of s number after) shelves' number) (sym own_setup) cells))
        | inr h ↦ subst (λ parts. CellsStandFor (setup_of parts tenant.limits) (history_of (setup_of parts tenant.limits) n after) shelves' n) (sym others.parts) (kept n tenant h.0 h.1)
      ]

  -- what the step of the tenant is answered, and what the world then stands for
  pub steps : (step : Step) (result : Result Answer OutOfMemory) → step.tenant ≡ number → IsAct step.act → ServesOrStays old new shelves shelves' number step.act result → (before : List Step) → StandsFor world before
      → MatchResult result (λ answer. (answer ≡ store_answer (parts_of world) (limits_of world) before step) × StandsFor world' (before ++ step ∷ [])) (λ _. StandsFor world' before)
  unfolding store_answer
  steps step result names valid serves before stands =
      let h = history_of setup number before in
      let is : IsRun setup h = record { acts = only number before; valid = only_valid number before stands.valid; is = refl } in
      match_map result _ _ _ _
      (λ answer took.
      let own : only number (before ++ step ∷ []) ≡ only number before ++ step.act ∷ [] = subst (λ n. only n (before ++ step ∷ []) ≡ only n before ++ step.act ∷ []) names (only_own before step) in
      let next : run setup [] (only number (before ++ step ∷ [])) ≡ moment_of setup h step.act ∷ h = ap (run setup []) own ∙ run-push setup [] (only number before) step.act in
      let here : slice_get (limits_of world) step.tenant ≡ Some old.limits = ap (slice_get (limits_of world)) names ∙ limits_at tenants number old at in
      let told : answer_to setup h step.act ≡ tenant_answer (length shelves) (slice_get (limits_of world) step.tenant) (only step.tenant before) step.act =
      sym (ap (λ o. tenant_answer (length shelves) o (only step.tenant before) step.act) here ∙ ap (λ n. answer_to setup (run setup [] (only n before)) step.act) names) in (
        took.0.told ∙ told,
        stands_after before (before ++ step ∷ []) stands (All-push (λ (s : Step). IsAct s.act) before step stands.valid valid)
            (subst (λ x. TenantStandsFor setup x new) (sym next) took.0.stands) (subst (λ x. CellsStandFor setup x shelves' number) (sym next) took.1)
            (λ n differs. only_other n before step (λ e. differs (e ∙ names))),
      ))
      (λ error still. stands_after before before stands stands.valid still.0 (subst (λ ss. CellsStandFor setup h ss number) (sym still.1) (stands.cells number old at)) (λ n differs. refl))
      (serves setup h refl is (stands.tenants number old at) (stands.cells number old at))

  -- a step sends no more than `max_parts` messages
  pub steps_few : (step : Step) (result : Result Answer OutOfMemory) → step.tenant ≡ number → ServesOrStays old new shelves shelves' number step.act result
      → IfOk result (λ answer. (before : List Step) → StandsFor world before → SendsFewRows (parts_of world) (limits_of world) before step)
  steps_few step result names serves = each_ok result (StandsFor world) (λ answer before. SendsFewRows (parts_of world) (limits_of world) before step) (λ before. Unit {0})
      (λ before stands.
      let h = history_of setup number before in
      let is : IsRun setup h = record { acts = only number before; valid = only_valid number before stands.valid; is = refl } in
      match_map result _ _ _ _
      (λ answer took its there.
      let here : slice_get (limits_of world) step.tenant ≡ Some old.limits = ap (slice_get (limits_of world)) names ∙ limits_at tenants number old at in
      let same : its ≡ old.limits = own_limits its old.limits (sym there ∙ here) in
      subst (λ n. n ≤ max_parts) (sym (λ i. length (sent_by (setup_of (length shelves) (same i)) (history_of (setup_of (length shelves) (same i)) (names i) before) step.act))) took.0.few)
      (λ error still. tt)
      (serves setup h refl is (stands.tenants number old at) (stands.cells number old at)))

  -- an allocation fails only to a step that may take some
  pub steps_ask : (step : Step) (result : Result Answer OutOfMemory) → step.tenant ≡ number → AsksLast old step.act result → StepAsksLast world step result
  unfolding store_answer
  steps_ask step result names asks = on_err_map result _ _
      (λ asked before stands.
      let h = history_of setup number before in
      let is : IsRun setup h = record { acts = only number before; valid = only_valid number before stands.valid; is = refl } in
      let here : slice_get (limits_of world) step.tenant ≡ Some old.limits = ap (slice_get (limits_of world)) names ∙ limits_at tenants number old at in
      (old.limits, here, subst (λ n. MayTakeMemory (history_of setup n before) step.act (answer_to setup (history_of setup n before) step.act)) (sym names) (asked setup h is (stands.tenants number old at))))
      asks

  pub is_world : IsWorld shelves tenants → IsWorld shelves' (set tenants number new)
  is_world good = record {
    parts = subst IsParts (sym others.parts) good.parts;
    seats = λ k d within.
        let was = shelf_before k (get_or shelves' k d) (slice_get-get_or shelves' k d within) in
        let here : k < length shelves = omega (arith, within, others.parts) in
        let first : get_or shelves k d ≡ get_or shelves k d = refl in
        others.seats k (get_or shelves k d) (get_or shelves' k d) (slice_get-get_or shelves k d here) (slice_get-get_or shelves' k d within) ∙ good.seats k d here ∙ sym (length-set tenants number new);
  }

-- nothing is promised to a tenant that is not there
pub no_promise : (world : WorldContent) (step : Step) → length world.tenants ≤ step.tenant → (its : Limits) → slice_get (limits_of world) step.tenant ≡ Some its → ⊥
no_promise world step past its there =
    let none : Some its ≡ None = sym there ∙ no_limits world.tenants step.tenant past in
    cc

-- there is no such tenant
pub no_tenant : (world : WorldContent) (step : Step) (before : List Step) → length world.tenants ≤ step.tenant → Refused NoTenant ≡ store_answer (parts_of world) (limits_of world) before step
unfolding store_answer
no_tenant world step before past = sym (ap (λ o. tenant_answer (parts_of world) o (only step.tenant before) step.act) (no_limits world.tenants step.tenant past))

pub stands_anyway : (world : WorldContent) (step : Step) (before : List Step) → length world.tenants ≤ step.tenant → IsAct step.act → StandsFor world before → StandsFor world (before ++ step ∷ [])
stands_anyway world step before past valid stands =
    let apart : (n : ℕ) (tenant : Tenant) → slice_get world.tenants n ≡ Some tenant → only n (before ++ step ∷ []) ≡ only n before =
    λ n tenant at. only_other n before step (λ e. let within = slice_get_within world.tenants n tenant at in absurd (omega (arith, within, past, e))) in
    record {
      valid = All-push (λ (s : Step). IsAct s.act) before step stands.valid valid;
      tenants = λ n tenant at. subst (λ acts. TenantStandsFor (setup_of (parts_of world) tenant.limits) (run (setup_of (parts_of world) tenant.limits) [] acts) tenant) (sym (apart n tenant at)) (stands.tenants n tenant at);
      cells = λ n tenant at. subst (λ acts. CellsStandFor (setup_of (parts_of world) tenant.limits) (run (setup_of (parts_of world) tenant.limits) [] acts) world.shelves n) (sym (apart n tenant at)) (stands.cells n tenant at);
    }

-- ---- runs

answers_after-push : (partitions : ℕ) (limits : List Limits) (before steps : List Step) (step : Step)
    → answers_after partitions limits before (steps ++ step ∷ []) ≡ answers_after partitions limits before steps ++ store_answer partitions limits (before ++ steps) step ∷ []
answers_after-push partitions limits before [] step = ap (λ b. store_answer partitions limits b step ∷ []) (sym (append-nil before))
answers_after-push partitions limits before (s ∷ steps) step =
    ap (λ told. store_answer partitions limits before s ∷ told) (answers_after-push partitions limits (before ++ s ∷ []) steps step ∙ ap (λ b. answers_after partitions limits (before ++ s ∷ []) steps ++ store_answer partitions limits b step ∷ []) (append_assoc before (s ∷ []) steps))

-- one answer more
pub told_more : (partitions : ℕ) (limits : List Limits) (before front : List Step) (step : Step) (old told new : List Answer) → told ≡ old ++ answers_after partitions limits before front
    → new ≡ told ++ store_answer partitions limits (before ++ front) step ∷ [] → new ≡ old ++ answers_after partitions limits before (front ++ step ∷ [])
told_more partitions limits before front step old told new so more =
    more ∙ ap (λ ts. ts ++ store_answer partitions limits (before ++ front) step ∷ []) so ∙ append_assoc old (answers_after partitions limits before front) (store_answer partitions limits (before ++ front) step ∷ [])
    ∙ ap (λ ts. old ++ ts) (sym (answers_after-push partitions limits before front step))
