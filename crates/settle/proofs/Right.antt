-- The answers of a list that was settled are its own steps', and right.
use Rattle.std.proofs.Common.{◌≡◌, ℕ, zero, suc, List, [], ◌∷◌, ◌++◌, append_assoc, inl, inr, length, map, take, slice_get, Option, Some, None, refl, sym, ap, ◌∙◌, subst, arith}
use Rattle.std.specs.Prelude.{All, ◌⊎◌, ◌+◌}
use Rattle.std.proofs.Math.Seq.{take-append_seam}
use Rattle.plain_store.specs.Words.{Setup, IsAct, ◌∈◌}
use Rattle.plain_store.specs.Run.{run, answer_to}
use Rattle.plain_store.specs.History.{History}
use Rattle.plain_store.specs.Laws.{EachStep}
use Rattle.entry_list.specs.declared.kinds.Entry.{Entry}
use Rattle.entry_list.specs.declared.kinds.Entry.TheVariants.{Began, Took, Answered}
use Rattle.closed_store.specs.declared.transcript.Transcript.{Transcript}
use Rattle.settle.specs.Words.{Act, SetKeep, Answer, Step, Ready}
use Rattle.settle.specs.Input.{Input, setup_for}
use Rattle.settle.specs.Program.{TranscriptItem, Greets, Begins, Takes, noted, items_of, count_done, program_of}
use Rattle.settle.specs.Trace.{OfTranscript, TracedStep, Trace, at_seat, told_next, keep_before, and_keep, acts_of, acts_before}
use Rattle.settle.specs.Replaying.{step_of}
use Rattle.settle.specs.Verdict.{Settles}
use Rattle.settle.specs.Promises.{acts_in, item_before, AnswersAreOwn, EachAnswer}
use Rattle.settle.proofs.Replayed.{run-after}
use Rattle.settle.proofs.Words.{some_is}

-- ---- the item to which an answer belongs

-- the answer was noted before anything else was done, or to a later item
abbrev Before : List Entry → ℕ → Answer → Type 0
Before entries entry answer = (count_done (take entry entries) ≡ 0) × (answer ∈ noted entries)

abbrev Later : List Entry → ℕ → Answer → Type 0
Later entries entry answer =
    (n : ℕ) × (item : TranscriptItem) × (count_done (take entry entries) ≡ suc n) × (slice_get (items_of entries) n ≡ Some item) × (answer ∈ item.noted)

-- the same of a list behind an item that was done
begun : (first : TranscriptItem) (entries : List Entry) (entry : ℕ) (answer : Answer) → first.noted ≡ noted entries → Before entries entry answer ⊎ Later entries entry answer
    → (n : ℕ) × (item : TranscriptItem) × (count_done (take entry entries) + 1 ≡ suc n) × (slice_get (first ∷ items_of entries) n ≡ Some item) × (answer ∈ item.noted)
begun first entries entry answer is (inl here) = (zero, first, omega (arith, here.0), refl, subst (λ answers. answer ∈ answers) (sym is) here.1)
begun first entries entry answer is (inr later) = (suc later.0, later.1, omega (arith, later.2), later.3, later.4)

same_answer : (answer other : Answer) → Answered other ≡ Answered answer → other ≡ answer
same_answer answer other is = cc

noted_at : (entries : List Entry) (entry : ℕ) (answer : Answer) → slice_get entries entry ≡ Some (Answered answer) → Before entries entry answer ⊎ Later entries entry answer
noted_at [] entry answer there = absurd (let bad : None ≡ Some (Answered answer) = there in cc)
noted_at (Answered other ∷ entries) zero answer there = inl (refl, inl (sym (same_answer answer other (some_is (Answered other) (Answered answer) there))))
noted_at (Answered other ∷ entries) (suc entry) answer there = onward (noted_at entries entry answer there)
  where
    onward : Before entries entry answer ⊎ Later entries entry answer → Before (Answered other ∷ entries) (suc entry) answer ⊎ Later (Answered other ∷ entries) (suc entry) answer
    onward (inl here) = inl (here.0, inr here.1)
    onward (inr later) = inr later
noted_at (Began act ∷ entries) zero answer there = absurd (let bad : Began act ≡ Answered answer = some_is (Began act) (Answered answer) there in cc)
noted_at (Began act ∷ entries) (suc entry) answer there =
    inr (begun (record { doing = Begins act; noted = noted entries }) entries entry answer refl (noted_at entries entry answer there))
noted_at (Took number partition place reply ∷ entries) zero answer there =
    absurd (let bad : Took number partition place reply ≡ Answered answer = some_is (Took number partition place reply) (Answered answer) there in cc)
noted_at (Took number partition place reply ∷ entries) (suc entry) answer there =
    inr (begun (record { doing = Takes number partition place reply; noted = noted entries }) entries entry answer refl (noted_at entries entry answer there))

answered_item : (transcript : Transcript) (entry : ℕ) (answer : Answer) → slice_get transcript.entries.items entry ≡ Some (Answered answer)
    → (item : TranscriptItem) × (slice_get (program_of transcript) (item_before transcript entry) ≡ Some item) × (answer ∈ item.noted)
answered_item transcript entry answer there = go (noted_at transcript.entries.items entry answer there)
  where
    first : TranscriptItem
    first = record { doing = Greets; noted = Ready transcript.counter ∷ noted transcript.entries.items }

    go : Before transcript.entries.items entry answer ⊎ Later transcript.entries.items entry answer
        → (item : TranscriptItem) × (slice_get (program_of transcript) (item_before transcript entry) ≡ Some item) × (answer ∈ item.noted)
    go (inl here) = (first, ap (slice_get (program_of transcript)) here.0, inr here.1)
    go (inr later) = (later.1, ap (slice_get (program_of transcript)) later.2 ∙ later.3, later.4)

all_in : {X : Type 0} (P : X → Type 0) (xs : List X) (x : X) → All P xs → x ∈ xs → P x
all_in P [] x all there = absurd there
all_in P (y ∷ ys) x all (inl is) = subst P (sym is) (all 0 y (omega arith))
all_in P (y ∷ ys) x all (inr there) = all_in P ys x (λ k d h. all (suc k) d (omega (arith, h))) there

-- ---- the place of a step

-- a Keep step, if there is one, and an act are appended
and_act : (front : List Act) (first : Act) (acts : List Act) (keep : Option ℕ) (act : Act) → (later : List Act) × (acts ≡ front ++ first ∷ later) → (later : List Act) × (and_keep acts keep ++ act ∷ [] ≡ front ++ first ∷ later)
and_act front first acts None act split = (split.0 ++ act ∷ [], ap (λ xs. xs ++ act ∷ []) split.1 ∙ append_assoc front (first ∷ split.0) (act ∷ []))
and_act front first acts (Some keep) act split = (
  (split.0 ++ SetKeep keep ∷ []) ++ act ∷ [],
  ap (λ xs. (xs ++ SetKeep keep ∷ []) ++ act ∷ []) split.1 ∙ ap (λ xs. xs ++ act ∷ []) (append_assoc front (first ∷ split.0) (SetKeep keep ∷ []))
      ∙ append_assoc front (first ∷ split.0 ++ SetKeep keep ∷ []) (act ∷ []),
)

-- the acts of later steps follow a step's
acts_split : (input : Input) (newer : Trace) (taken : TracedStep) (older : Trace) → (later : List Act) × (acts_of input (newer ++ taken ∷ older) ≡ acts_before input older taken.origin ++ taken.act ∷ later)
acts_split input [] taken older = ([], refl)
acts_split input (t ∷ newer) taken older =
    and_act (acts_before input older taken.origin) taken.act (acts_of input (newer ++ taken ∷ older)) (keep_before input (newer ++ taken ∷ older) t.origin) t.act (acts_split input newer taken older)

at_seam : {X : Type 0} (xs : List X) (x : X) (ys : List X) → slice_get (xs ++ x ∷ ys) (length xs) ≡ Some x
at_seam [] x ys = refl
at_seam (y ∷ xs) x ys = at_seam xs x ys

acts_map : (tenant : ℕ) (acts : List Act) → acts_in (map (step_of tenant) acts) ≡ acts
acts_map tenant [] = refl
acts_map tenant (act ∷ acts) = ap (λ rest. act ∷ rest) (acts_map tenant acts)

all_acts : (steps : List Step) → All (λ (step : Step). IsAct step.act) steps → All IsAct (acts_in steps)
all_acts [] all k d h = absurd (omega (arith, h))
all_acts (step ∷ steps) all zero d h = all zero step (omega arith)
all_acts (step ∷ steps) all (suc k) d h = all_acts steps (λ j e g. all (suc j) e (omega (arith, g))) k d (omega (arith, h))

-- ---- each answer is its own step's

pub answers_are_own : (input : Input) (steps : List Step) (settled : Settles input steps) → AnswersAreOwn input steps settled
answers_are_own input steps settled place transcript entry answer at =
    let found = answered_item transcript entry answer at.there in
    let t = (settled.programs place transcript at.its).each (item_before transcript entry) found.0 found.1 in
    let split = acts_split input t.newer (record { origin = OfTranscript place; act = t.act }) t.older in
    record {
      item = found.0;
      did = found.1;
      taken = t;
      before = acts_of input t.older;
      later = split.0;
      stands = ap acts_in settled.is ∙ acts_map input.tenant (acts_of input settled.trace) ∙ ap (acts_of input) t.stands ∙ split.1;
      older = refl;
      told = all_in (λ a. a ≡ at_seat (told_next input t.older t.act)) found.0.noted answer t.agrees.0 found.2
          ∙ ap (λ h. at_seat (answer_to (setup_for input) h t.act)) (sym (run-after input t.older));
    }

-- what holds of each answer of the plain store holds of each that was noted
pub each_answer : (P : Setup → History → Act → Answer → Type 0) → ((setup : Setup) (history : History) (act : Act) (answer : Answer) → P setup history act answer → P setup history act (at_seat answer))
    → ((setup : Setup) (acts : List Act) → EachStep (P setup) setup acts) → (input : Input) (steps : List Step) (settled : Settles input steps) → EachAnswer P input steps settled
each_answer P told_too law input steps settled place transcript entry answer at own =
    let setup = setup_for input in
    let acts = acts_in steps in
    let n = length own.before in
    let act = own.taken.act in
    let there : slice_get acts n ≡ Some act = ap (λ xs. slice_get xs n) own.stands ∙ at_seam own.before act own.later in
    let front : take n acts ≡ own.before = ap (take n) own.stands ∙ take-append_seam own.before (act ∷ own.later) in
    let right = law setup acts (all_acts steps settled.clients) n act there in
    let here : P setup (run setup [] own.before) act (answer_to setup (run setup [] own.before) act) =
    subst (λ (xs : List Act). P setup (run setup [] xs) act (answer_to setup (run setup [] xs) act)) front right in
    subst (P setup (run setup [] own.before) act) (sym own.told) (told_too setup (run setup [] own.before) act (answer_to setup (run setup [] own.before) act) here)
