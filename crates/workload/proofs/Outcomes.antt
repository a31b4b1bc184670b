-- What a program comes to: for `run_program` and `run_words`.
use Rattle.std.proofs.Common.{◌≡◌, ◌⊎◌, ℕ, List, Option, Result, Ok, Err, refl, sym, subst, inl, inr, arith}
use Rattle.std.proofs.KnownBytes.{Keeps-refl}
use Rattle.line_runs.specs.declared.fault.End.{End}
use Rattle.line_runs.specs.declared.fault.End.TheVariants.{Whole, TooLong, Cut}
use Rattle.line_runs.specs.declared.fault.ProgramFault.{ProgramFault}
use Rattle.line_runs.specs.declared.fault.ProgramFault.TheVariants.{LineTooLong, Cut as CutOff, Settle, Options, OutOfMemory, Device}
use Rattle.workload.specs.Program.{HoldsOfServed, Runs, RunsLoad, ServesWords, ended_as}
use Rattle.line_runs.specs.declared.fault.RunFault.{RunFault}
use Rattle.line_runs.specs.declared.fault.RunFault.TheVariants.{Read, Write, ReadsUsed, OutOfMemory as NoMemory}
use Rattle.line_runs.specs.RunAnswers.{AnsweredPart, FailsSo}
use Rattle.line_runs.proofs.Faults.{so_far_is_part}
use Rattle.workload.specs.Serving.{RunsServer}
use Rattle.line_runs.specs.Statuses.{IsHelpStatus, exit_status, fault_of_run, status_of}
use Rattle.command_line.specs.Asked.{IsWordsFault}
use Rattle.command_line.specs.Words.{AsksForHelp, AsksForNothing, AsksForVersion}
use Rattle.command_line.proofs.WordsRead.{faultless_asks_for_nothing}

pub ends_so : (words : List (List ℕ)) (input old new : Option (List ℕ)) (end : End) → ServesWords words input old new end → Runs words input old new (ended_as end)
ends_so words input old new Whole serves = inr serves
ends_so words input old new TooLong serves = serves
ends_so words input old new Cut serves = serves

-- words at fault end the program before anything is written
pub words_fail : (words : List (List ℕ)) (input old : Option (List ℕ)) (fault : ProgramFault) → IsWordsFault (AsksForNothing words) fault → Runs words input old old (Err fault)
words_fail words input old fault (inl nothing) = subst (λ (f : ProgramFault). Runs words input old old (Err f)) (sym nothing.0) (nothing.1, Keeps-refl old)
words_fail words input old fault (inr memory) = subst (λ (f : ProgramFault). Runs words input old old (Err f)) (sym memory) (inl (Keeps-refl old))

-- words that something serves ask for no help
serves_no_help : (words : List (List ℕ)) (input old new : Option (List ℕ)) (end : End) → ServesWords words input old new end → AsksForHelp words → ⊥
serves_no_help words input old new end (inl cell) help = faultless_asks_for_nothing _ _ cell.3.0 help
serves_no_help words input old new end (inr store) help = faultless_asks_for_nothing _ _ store.3.0 help

-- nor for the version
serves_no_version : (words : List (List ℕ)) (input old new : Option (List ℕ)) (end : End) → ServesWords words input old new end → AsksForVersion words → ⊥
serves_no_version words input old new end (inl cell) version = faultless_asks_for_nothing _ _ cell.3.0 version
serves_no_version words input old new end (inr store) version = faultless_asks_for_nothing _ _ store.3.0 version

-- a program that serves nothing, though its words ask for something, has a status of help
told_text : (words : List (List ℕ)) (input old new : Option (List ℕ)) (ended : Result (Unit {0}) ProgramFault) → Runs words input old new ended
    → ((end : End) → ServesWords words input old new end → ⊥) → (AsksForNothing words → ⊥) → IsHelpStatus (exit_status ended)
told_text words input old new (Ok done) runs none some = inl refl
told_text words input old new (Err LineTooLong) runs none some = absurd (none TooLong runs)
told_text words input old new (Err CutOff) runs none some = absurd (none Cut runs)
told_text words input old new (Err Settle) runs none some = absurd runs
told_text words input old new (Err Options) runs none some = absurd (some runs.0)
told_text words input old new (Err OutOfMemory) runs none some = inr (inl refl)
told_text words input old new (Err Device) runs none some = inr (inr refl)

pub either_helped : (words : List (List ℕ)) (input old new : Option (List ℕ)) (ended : Result (Unit {0}) ProgramFault)
    → Runs words input old new ended ⊎ (RunsServer words old new ended ⊎ RunsLoad words old new ended) → AsksForHelp words → IsHelpStatus (exit_status ended)
either_helped words input old new ended (inl runs) help =
    told_text words input old new ended runs (λ end serves. serves_no_help words input old new end serves help) (λ nothing. nothing.no_help help)
either_helped words input old new ended (inr (inl server)) help = absurd (faultless_asks_for_nothing _ _ server.4.0 help)
either_helped words input old new ended (inr (inr load)) help = absurd (faultless_asks_for_nothing _ _ load.4.0 help)

pub either_told_version : (words : List (List ℕ)) (input old new : Option (List ℕ)) (ended : Result (Unit {0}) ProgramFault)
    → Runs words input old new ended ⊎ (RunsServer words old new ended ⊎ RunsLoad words old new ended) → AsksForVersion words → IsHelpStatus (exit_status ended)
either_told_version words input old new ended (inl runs) version =
    told_text words input old new ended runs (λ end serves. serves_no_version words input old new end serves version) (λ nothing. nothing.no_version version)
either_told_version words input old new ended (inr (inl server)) version = absurd (faultless_asks_for_nothing _ _ server.4.0 version)
either_told_version words input old new ended (inr (inr load)) version = absurd (faultless_asks_for_nothing _ _ load.4.0 version)

-- ---- a run that failed

served_so : (words : List (List ℕ)) (P Q : (List (List ℕ) → List ℕ → Type 0) → Type 0) → ((answers : List (List ℕ) → List ℕ → Type 0) → P answers → Q answers)
    → HoldsOfServed words P → HoldsOfServed words Q
served_so words P Q f (inl cell) = inl (cell.0, cell.1, cell.2, cell.3, f _ cell.4)
served_so words P Q f (inr store) = inr (store.0, store.1, store.2, store.3, f _ store.4)

-- what a program comes to whose run failed so
pub run_fails : (words : List (List ℕ)) (input left old new : Option (List ℕ)) (fault : RunFault)
    → HoldsOfServed words (λ answers. FailsSo answers input left old new fault) → Runs words input old new (Err (fault_of_run fault))
run_fails words input left old new Read h =
    inr (served_so words (λ answers. FailsSo answers input left old new Read) (λ answers. AnsweredPart answers input old new)
    (λ answers so. so_far_is_part answers input left old new so) h)
run_fails words input left old new ReadsUsed h =
    inr (served_so words (λ answers. FailsSo answers input left old new ReadsUsed) (λ answers. AnsweredPart answers input old new)
    (λ answers so. so_far_is_part answers input left old new so.0) h)
run_fails words input left old new Write h = inr h
run_fails words input left old new NoMemory h = inr h

-- no fault has the status of a run that went well
pub no_zero : (fault : ProgramFault) → status_of fault ≡ 0 → ⊥
no_zero LineTooLong is = absurd (omega (arith, is))
no_zero CutOff is = absurd (omega (arith, is))
no_zero Settle is = absurd (omega (arith, is))
no_zero Options is = absurd (omega (arith, is))
no_zero OutOfMemory is = absurd (omega (arith, is))
no_zero Device is = absurd (omega (arith, is))
