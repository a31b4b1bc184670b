-- What a whole store answers in a run.
use Rattle.std.specs.Prelude.{◌≡◌, ◌⊎◌, ℕ, List, [], ◌∷◌, ◌++◌}
use Rattle.stamps.specs.declared.bounds.Limits.{Limits}
use Rattle.plain_store.specs.declared.answer.Answer.{Answer}
use Rattle.plain_store.specs.declared.step.Step.{Step}
use Rattle.plain_store.specs.Tenants.{store_answer}
use Rattle.line_protocol.specs.Stream.{terminated}
use Rattle.line_protocol.specs.Spelling.{refused_text}
use Rattle.line_protocol.specs.StepSpelling.{AsksFor, AsksStranger, AsksNothing}
use Rattle.line_protocol.specs.AnswerSpelling.{answer_line}
use Rattle.world.specs.Content.{WorldContent, parts_of, limits_of}
use Rattle.world.specs.Standing.{StandsFor}

-- how many partitions a store has, and the limits and the names of its tenants
pub record Opening : Type 0 where
  pub parts : ℕ
  pub limits : List Limits
  pub names : List (List ℕ)

-- the text answers a line that comes after the steps before it, and they go on so
abbrev pub IsStoreAnswer : Opening → List Step → List ℕ → List ℕ → List Step → Type 0
IsStoreAnswer store before line text after =
    ((step : Step) × AsksFor store.names line step.tenant step.act
    × (text ≡ answer_line (store_answer store.parts store.limits before step)) × (after ≡ before ++ step ∷ []))
    ⊎ ((AsksStranger store.names line × (text ≡ terminated (refused_text 10)) × (after ≡ before))
    ⊎ (AsksNothing line × (text ≡ terminated (refused_text 40)) × (after ≡ before)))

-- the text answers these lines, one after the other
abbrev pub IsStoreTranscript : Opening → List Step → List (List ℕ) → List ℕ → Type 0
IsStoreTranscript store before [] text = text ≡ []
IsStoreTranscript store before (line ∷ lines) text =
    (first : List ℕ) × (after : List Step) × (others : List ℕ) × IsStoreAnswer store before line first after
    × IsStoreTranscript store after lines others × (text ≡ first ++ others)

abbrev pub opening_of : WorldContent → List (List ℕ) → Opening
opening_of world names = record { parts = parts_of world; limits = limits_of world; names = names }

-- the text answers these lines, whatever steps the store stands for
abbrev pub sim_replies : WorldContent → List (List ℕ) → List (List ℕ) → List ℕ → Type 0
sim_replies world names lines text =
    (before : List Step) → StandsFor world before → IsStoreTranscript (opening_of world names) before lines text

-- The answer to a step was written behind what stood before. Whatever steps the store stood for, it is the plain
-- store's after them, and the store stands for one step more.
pub record AnswersStep (old new : WorldContent) (step : Step) (before after : List ℕ) : Type 0 where
  pub answer : Answer
  pub written : after ≡ before ++ answer_line answer
  pub answered : (steps : List Step) → StandsFor old steps
      → answer ≡ store_answer (parts_of old) (limits_of old) steps step
  pub history : (steps : List Step) → StandsFor old steps → StandsFor new (steps ++ step ∷ [])
  pub parts : parts_of new ≡ parts_of old
  pub limits : limits_of new ≡ limits_of old

-- the store is as wide as it was, and stands for whatever steps it stood for
pub record HasHistoryOf (old new : WorldContent) : Type 0 where
  pub history : (steps : List Step) → StandsFor old steps → StandsFor new steps
  pub parts : parts_of new ≡ parts_of old
  pub limits : limits_of new ≡ limits_of old
