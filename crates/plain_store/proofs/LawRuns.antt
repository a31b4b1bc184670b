-- The further laws of whole runs.
use Rattle.std.proofs.Common.{◌≡◌, ◌≤◌, List, [], ◌∷◌, ◌⊎◌, inl, inr, sym, ap, ◌∙◌, subst, take, length, nat_lt, ◌||◌, ◌==◌, false, Some}
use Rattle.std.specs.Prelude.{All}
use Rattle.std.proofs.lemmas.List.Elements.{All-tail, All-take}
use Rattle.plain_store.specs.Words.{◌∈◌, Key, Act, Answer, Setup, IsAct}
use Rattle.plain_store.specs.History.{History, Gets, Transaction, transactions, taken_in}
use Rattle.plain_store.specs.Run.{one_twice, are_bad, moment_of, answer_to, run}
use Rattle.plain_store.specs.Laws.{EachStep}
use Rattle.plain_store.specs.Newest.{IsNewestAnswer}
use Rattle.plain_store.specs.Told.{IsToldAnswer, IsIgnoredAnswer}
use Rattle.plain_store.specs.Partitions.{LogsAreOfCalls, IsPartitionsAnswer, IsFullAnswer}
use Rattle.plain_store.specs.Counts.{SendsFew}
use Rattle.plain_store.proofs.Steps.{Happens, happens, moment_act}
use Rattle.plain_store.proofs.KeptLogs.{Kept, NewBegun, begun_cases}
use Rattle.plain_store.proofs.EveryStepKeeps.{kept_step, kept_at_first}
use Rattle.plain_store.proofs.FreshLogs.{Fresh}
use Rattle.plain_store.proofs.Fresh.{fresh_step, fresh_at_first}
use Rattle.plain_store.proofs.StepEffects.{turn_or_quiet, accepted_keys, collected_count, step_ignored}
use Rattle.plain_store.proofs.Owned.{Homed, homed_step, owned_by}
use Rattle.plain_store.proofs.Once.{Called, called_step, Staged, staged_step, staged_at_first, counts}
use Rattle.plain_store.proofs.Served.{Counted, LogsOf, logs_step, logs_at_first, Logged, logged_step, logged_at_first, TakenReplies, taken_step, step_answers}
use Rattle.plain_store.proofs.SearchesAsk.{Due, due_step}
use Rattle.plain_store.proofs.Searches.{FewTold, few_step, ToldOnce, once_step}
use Rattle.std.proofs.lemmas.Bool.{or_parts, ltb-false}
use Rattle.stamps.specs.Limits.{max_keys}
use Rattle.plain_store.proofs.Told.{step_told, step_full}
use Rattle.plain_store.proofs.Newest.{ReadWhole, whole_step, step_newest}
use Rattle.plain_store.proofs.Runs.{first_act, act_at}

-- a Get's keys pass the test
abbrev AcceptedKeys : History → Type 0
AcceptedKeys history = (transaction : Transaction) (keys : List Key) → transaction ∈ transactions history → transaction.request ≡ Gets keys → are_bad keys ≡ false

accepted_step : (setup : Setup) (older : History) (act : Act) → AcceptedKeys older → AcceptedKeys (moment_of setup older act ∷ older)
accepted_step setup older act accepted transaction keys own e = go (begun_cases (moment_of setup older act) older transaction own)
  where
    go : (transaction ∈ transactions older) ⊎ NewBegun older (moment_of setup older act) transaction → are_bad keys ≡ false
    go (inl was) = accepted transaction keys was e
    go (inr n) =
        let r : n.0.1 ≡ Gets keys = ap (λ (t : Transaction). t.request) (sym n.2) ∙ e in
        accepted_keys setup older act n.0.0 keys (n.1 ∙ ap (λ x. Some (n.0.0, x)) r)

-- they are no more than `max_keys`, and different
pub accepted_are : (keys : List Key) → are_bad keys ≡ false → (length keys ≤ max_keys) × (one_twice keys ≡ false)
accepted_are keys e =
    let parts = or_parts (nat_lt max_keys (length keys)) (one_twice keys) (or_parts (length keys == 0) (nat_lt max_keys (length keys) || one_twice keys) e).1 in
    (ltb-false max_keys (length keys) parts.0, parts.1)

-- all that is kept
pub record Known (setup : Setup) (history : History) : Type 0 where
  pub kept : Kept setup history
  pub fresh : Fresh setup history
  pub homed : Homed setup history
  pub staged : Staged setup history
  pub logs : LogsOf setup history
  pub logged : Logged setup history
  pub replied : TakenReplies history
  pub accepted : AcceptedKeys history
  pub due : Due setup history
  pub whole : ReadWhole history
  pub few_told : FewTold setup history
  pub told_once : ToldOnce history
  pub called : Called history

counted_step : (setup : Setup) (older : History) (act : Act) → Counted setup older (moment_of setup older act)
counted_step setup older act partition count a f = collected_count setup older act partition count a f

known_step : (setup : Setup) (older : History) (act : Act) → Happens setup older (moment_of setup older act) → Known setup older → Known setup (moment_of setup older act ∷ older)
known_step setup older act how known =
    let m = moment_of setup older act in
    let way = turn_or_quiet setup older act in
    let kept : Kept setup (m ∷ older) = kept_step setup older m known.kept how in
    record {
      kept = kept;
      fresh = fresh_step setup older m known.kept known.fresh how;
      homed = homed_step setup older m known.homed how way;
      staged = staged_step setup older m known.kept known.fresh (owned_by setup older known.kept known.homed)
          (record { called = known.called; logged = known.logged; replied = known.replied; once = known.told_once }) known.staged how way;
      logs = logs_step setup older m (counted_step setup older act) known.logs how;
      logged = logged_step setup older m known.logged how;
      replied = taken_step setup older m known.replied way;
      accepted = accepted_step setup older act known.accepted;
      due = due_step setup older m kept known.fresh known.due how way;
      whole = whole_step setup older m known.due way known.whole;
      few_told = few_step setup older m known.kept known.fresh (owned_by setup older known.kept known.homed) known.logged known.due known.few_told way;
      told_once = once_step setup older m known.kept known.fresh known.logged known.replied known.told_once way;
      called = called_step setup older m known.called how way;
    }

known_at_first : (setup : Setup) → Known setup []
known_at_first setup = record {
  kept = kept_at_first setup;
  fresh = fresh_at_first setup;
  homed = λ message h. absurd h;
  staged = staged_at_first setup;
  logs = logs_at_first setup;
  logged = logged_at_first setup;
  replied = λ message h. absurd h;
  accepted = λ transaction keys own e. absurd own;
  due = λ transaction message own h of. absurd own;
  whole = λ reader keys told asks. absurd told;
  few_told = λ client transaction tag r asks all. cc;
  told_once = λ transaction own partition. absurd own;
  called = λ message h. absurd h;
}

known_from : (setup : Setup) (history : History) (steps : List Act) → All IsAct steps → Known setup history → Known setup (run setup history steps)
known_from setup history [] valid known = known
known_from setup history (act ∷ steps) valid known =
    known_from setup (moment_of setup history act ∷ history) steps (All-tail IsAct act steps valid) (known_step setup history act (happens setup history act (first_act act steps valid)) known)

pub known_run : (setup : Setup) (steps : List Act) → All IsAct steps → Known setup (run setup [] steps)
known_run setup steps valid = known_from setup [] steps valid (known_at_first setup)

-- what holds of each moment, with what is known before it, holds of each step
each_moment : (P : Setup → History → Act → Answer → Type 0) (setup : Setup) (steps : List Act)
    → ((history : History) (act : Act) → Happens setup history (moment_of setup history act) → Known setup history → P setup history (moment_of setup history act).act (moment_of setup history act).answer)
    → EachStep (P setup) setup steps
unfolding answer_to
each_moment P setup steps holds valid n act at =
    let history = run setup [] (take n steps) in
    subst (λ a. P setup history a (moment_of setup history act).answer) (moment_act setup history act)
    (holds history act (happens setup history act (act_at steps n act valid at)) (known_run setup (take n steps) (All-take IsAct n steps valid)))

pub told : (setup : Setup) (steps : List Act) → EachStep (IsToldAnswer setup) setup steps
told setup steps =
    each_moment IsToldAnswer setup steps (λ history act how known. step_told setup history (moment_of setup history act) known.kept (owned_by setup history known.kept known.homed) known.logged known.replied (turn_or_quiet setup history act))

pub ignored_rightly : (setup : Setup) (steps : List Act) → EachStep IsIgnoredAnswer setup steps
ignored_rightly setup steps = each_moment (λ setup. IsIgnoredAnswer) setup steps (λ history act how known. step_ignored setup history act)

pub answered : (setup : Setup) (steps : List Act) → EachStep (IsPartitionsAnswer setup) setup steps
answered setup steps = each_moment IsPartitionsAnswer setup steps (λ history act how known. step_answers setup history (moment_of setup history act) (counted_step setup history act) known.logs how)

pub full : (setup : Setup) (steps : List Act) → EachStep (IsFullAnswer setup) setup steps
full setup steps =
    each_moment IsFullAnswer setup steps (λ history act how known. step_full setup history (moment_of setup history act) known.kept (owned_by setup history known.kept known.homed) known.logged known.replied how (turn_or_quiet setup history act))

pub newest : (setup : Setup) (steps : List Act) → EachStep IsNewestAnswer setup steps
newest setup steps = each_moment (λ setup. IsNewestAnswer) setup steps (λ history act how known. step_newest setup history (moment_of setup history act) known.fresh known.whole how)

pub logs : (setup : Setup) (steps : List Act) → LogsAreOfCalls setup steps
logs setup steps valid partition = let known : Known setup (run setup [] steps) = known_run setup steps valid in known.logs partition

-- ---- how many calls

pub few : (setup : Setup) (steps : List Act) → SendsFew setup steps
few setup steps valid transaction own once =
    let history = run setup [] steps in
    let known : Known setup history = known_run setup steps valid in
    counts setup history transaction transaction.request (taken_in history transaction) (known.staged transaction own once)
    (λ stamp items e. known.kept.distinct stamp items (transaction, own, e)) (λ keys e. (accepted_are keys (known.accepted transaction keys own e)).1)
