-- How a run of a store goes on after a line: for `SimService::answer` and `run_sim`.
use Rattle.std.proofs.Common.{◌≡◌, ◌≢◌, ℕ, List, [], ◌∷◌, ◌++◌, Result, Ok, Err, refl, ap, subst, inl, inr}
use Rattle.std.specs.Prelude.{OnOk}
use Rattle.plain_store.specs.declared.refusal.Refusal.{Refusal}
use Rattle.plain_store.specs.declared.refusal.Refusal.TheVariants.{NoTenant, BadLine, OutOfMemory}
use Rattle.plain_store.specs.declared.step.Step.{Step}
use Rattle.plain_store.specs.Numbers.{number_of}
use Rattle.line_protocol.specs.Stream.{terminated}
use Rattle.line_protocol.specs.Spelling.{refused_text}
use Rattle.line_protocol.specs.StepSpelling.{AsksFor, Refuses}
use Rattle.line_protocol.specs.AnswerSpelling.{answer_line}
use Rattle.stamps.specs.declared.bounds.Limits.{Limits}
use Rattle.world.specs.Content.{WorldContent, parts_of, limits_of}
use Rattle.world.specs.Standing.{StandsFor}
use Rattle.line_runs.specs.Served.{answers_of_store}
use Rattle.line_runs.specs.SimAnswers.{Opening, HasHistoryOf, IsStoreTranscript, AnswersStep, opening_of, sim_replies}

-- after a step the store is opened with the same
same_opening : (old new : WorldContent) (names : List (List ℕ)) → parts_of new ≡ parts_of old → limits_of new ≡ limits_of old → opening_of new names ≡ opening_of old names
same_opening old new names parts limits = λ i. record { parts = parts i; limits = limits i; names = names }

pub takes_step : (old new : WorldContent) (names : List (List ℕ)) (line : List ℕ) (step : Step) (before after : List ℕ) → AsksFor names line step.tenant step.act
    → (told : AnswersStep old new step before after) → (lines : List (List ℕ)) (others : List ℕ) → sim_replies new names lines others
    → sim_replies old names (line ∷ lines) (answer_line told.answer ++ others)
takes_step old new names line step before after asks told lines others rest = λ steps stands.
    let more = steps ++ step ∷ [] in (
      answer_line told.answer,
      more,
      others,
      inl (step, asks, ap answer_line (told.answered steps stands), refl),
      subst (λ (store : Opening). IsStoreTranscript store more lines others) (same_opening old new names told.parts told.limits) (rest more (told.history steps stands)),
      refl,
    )

-- a store that stands for what it stood for answers as before
pub keeps_answering : (old new : WorldContent) (names : List (List ℕ)) → HasHistoryOf old new
    → (lines : List (List ℕ)) (others : List ℕ) → sim_replies new names lines others → sim_replies old names lines others
keeps_answering old new names same lines others rest = λ steps stands.
    subst (λ (store : Opening). IsStoreTranscript store steps lines others) (same_opening old new names same.parts same.limits) (rest steps (same.history steps stands))

-- a refusal for this cause is written, and the store is as before
pub refuses : (world : WorldContent) (names : List (List ℕ)) (line : List ℕ) (cause : Refusal) → Refuses names line cause → cause ≢ OutOfMemory
    → (lines : List (List ℕ)) (others : List ℕ) → sim_replies world names lines others
    → sim_replies world names (line ∷ lines) (terminated (refused_text (number_of cause)) ++ others)
refuses world names line NoTenant stranger some lines others rest = λ steps stands.
    (terminated (refused_text 10), steps, others, inr (inl (stranger, refl, refl)), rest steps stands, refl)
refuses world names line BadLine nothing some lines others rest = λ steps stands.
    (terminated (refused_text 40), steps, others, inr (inr (nothing, refl, refl)), rest steps stands, refl)
refuses world names line OutOfMemory memory some lines others rest = absurd (some refl)
refuses world names line cause none some lines others rest = absurd none

pub both_on_ok : {T E P Q R : Type 0} (r : Result T E) → OnOk r P → OnOk r Q → (P → Q → R) → OnOk r R
both_on_ok (Ok x) p q f = f p q
both_on_ok (Err e) p q f = tt

-- a new store answers as one that took no step
pub new_store_answers : (world : WorldContent) (parts : ℕ) (limits : List Limits) (names : List (List ℕ)) → parts_of world ≡ parts → limits_of world ≡ limits → StandsFor world []
    → (lines : List (List ℕ)) (text : List ℕ) → sim_replies world names lines text → answers_of_store parts limits names lines text
new_store_answers world parts limits names is_parts is_limits stands lines text h =
    subst (λ (store : Opening). IsStoreTranscript store [] lines text) (λ i. record { parts = is_parts i; limits = is_limits i; names = names }) (h [] stands)
