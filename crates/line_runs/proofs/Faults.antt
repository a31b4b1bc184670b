-- What was written where a run failed: for `run_lines`, `run_cell` and `run_sim`.
use Rattle.std.proofs.Common.{◌≡◌, ℕ, List, [], length, Option, Some, None, Result, Ok, Err, refl, sym, subst, inl, inr}
use Rattle.std.specs.Prelude.{◌⊎◌, IfErr, IsErrAnd}
use Rattle.std.proofs.Math.Seq.{take-length}
use Rattle.std.proofs.KnownBytes.{Appends-nil}
use Rattle.std.specs.Io.KnownBytes.{Appends}
use Rattle.line_protocol.specs.Stream.{lines_of}
use Rattle.line_runs.specs.declared.fault.RunFault.{RunFault}
use Rattle.line_runs.specs.declared.fault.RunFault.TheVariants.{Read, Write, ReadsUsed, OutOfMemory}
use Rattle.line_runs.specs.RunAnswers.{AnsweredFront, AnsweredPart, AnsweredSoFar, AnswersAll, AnswersSome, FailsSo, StopsAt}
use Rattle.line_runs.proofs.Fronts.{AnswersFront-refl, AnswersFront-some}
use Rattle.line_runs.proofs.Lines.{lines_of-none}

-- what stops behind a prefix of the lines has answered it
pub stopped : {S : Type 0} (replies : S → List (List ℕ) → List ℕ → Type 0) (none : (s : S) → replies s [] []) (first last : S) (input old new : Option (List ℕ))
    → StopsAt replies first last input old new → AnsweredFront (replies first) input old new
stopped replies none first last None old new stops = tt
stopped replies none first last (Some input) old new stops =
    (stops.0, AnswersFront-some replies none first last input stops.1 stops.0 stops.2, stops.3)

module _ (P Q : List (List ℕ) → List ℕ → Type 0) (follows : (lines : List (List ℕ)) (text : List ℕ) → P lines text → Q lines text) where
  some_follows : (stream text : List ℕ) → AnswersSome P stream text → AnswersSome Q stream text
  some_follows stream text h = (h.0, h.1, h.2, follows (lines_of h.0) text h.3)

  part_follows : (stream text : List ℕ) → AnswersSome P stream text ⊎ AnswersAll P stream text → AnswersSome Q stream text ⊎ AnswersAll Q stream text
  part_follows stream text (inl h) = inl (some_follows stream text h)
  part_follows stream text (inr h) = inr (h.0, follows (lines_of stream) h.0 h.1, h.2)

  so_far_follows : (input left old new : Option (List ℕ)) → AnsweredSoFar P input left old new → AnsweredSoFar Q input left old new
  so_far_follows None left old new h = tt
  so_far_follows (Some input) None old new h = h
  so_far_follows (Some input) (Some left) old new h = (h.0, h.1, h.2, follows (lines_of h.0) h.1 h.3, h.4)

  -- a run whose answers are others too fails so with these
  pub fails_so_follows : (input left old new : Option (List ℕ)) (fault : RunFault) → FailsSo P input left old new fault → FailsSo Q input left old new fault
  fails_so_follows input left old new Read h = so_far_follows input left old new h
  fails_so_follows input left old new ReadsUsed h = (so_far_follows input left old new h.0, h.1)
  fails_so_follows None left old new Write h = tt
  fails_so_follows (Some input) left old new Write h = (h.0, h.1, part_follows input h.0 h.2, h.3)
  fails_so_follows None left old new OutOfMemory h = tt
  fails_so_follows (Some input) left old new OutOfMemory h = (h.0, some_follows input h.0 h.1, h.2)

-- a run stops before its first line
pub stops_at_once : {S : Type 0} (replies : S → List (List ℕ) → List ℕ → Type 0) (first : S) (input writer : Option (List ℕ)) → StopsAt replies first first input writer writer
stops_at_once replies first None writer = tt
stops_at_once replies first (Some input) writer = ([], input, AnswersFront-refl replies first input, Appends-nil writer)

-- nothing was read and nothing written
pub fails_at_once : (P : List (List ℕ) → List ℕ → Type 0) → P [] [] → (input writer : Option (List ℕ)) → AnsweredFront P input writer writer
fails_at_once P none None writer = tt
fails_at_once P none (Some input) writer =
    ([], ([], input, refl, subst (λ (ls : List (List ℕ)). P ls []) (sym (lines_of-none [] tt)) none), Appends-nil writer)

-- what answers the lines of all that was read is a beginning of what answers them
pub so_far_is_part : (P : List (List ℕ) → List ℕ → Type 0) (input left old new : Option (List ℕ)) → AnsweredSoFar P input left old new → AnsweredPart P input old new
so_far_is_part P None left old new h = tt
so_far_is_part P (Some input) None old new h = absurd h
so_far_is_part P (Some input) (Some left) old new h =
    (h.1, length h.1, inl (h.0, left, h.2, h.3), subst (Appends old new) (sym (take-length h.1)) h.4)

-- ---- what is reported of a result that has a fault

-- what holds at a fault holds of the result that has it
pub at_fault : {T : Type 0} (result : Result T RunFault) (fault : RunFault) (P : RunFault → Type 0) → IsErrAnd result (λ e. e ≡ fault) → P fault → IfErr result P
at_fault (Ok x) fault P is h = tt
at_fault (Err e) fault P is h = subst P (sym is) h

-- what holds at every fault
pub at_any : {T : Type 0} (result : Result T RunFault) (P : RunFault → Type 0) → ((fault : RunFault) → P fault) → IfErr result P
at_any (Ok x) P h = tt
at_any (Err e) P h = h e

pub at_both : {T : Type 0} (result : Result T RunFault) (P Q R : RunFault → Type 0) → IfErr result P → IfErr result Q → ((fault : RunFault) → P fault → Q fault → R fault) → IfErr result R
at_both (Ok x) P Q R p q f = tt
at_both (Err e) P Q R p q f = f e p q
