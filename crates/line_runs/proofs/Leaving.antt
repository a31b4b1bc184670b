-- What a fault in a piece leaves, once what is gathered is written: for `run_lines`.
use Rattle.std.proofs.Common.{ℕ, ◌+◌, List, [], ◌++◌, length, take, Option, ap, subst, ◌∙◌}
use Rattle.std.proofs.Math.Seq.{take-nil}
use Rattle.std.proofs.KnownBytes.{Appends-trans}
use Rattle.std.proofs.lemmas.List.{append-nil}
use Rattle.std.specs.Io.KnownBytes.{Appends, Consumes}
use Rattle.line_runs.specs.declared.fault.RunFault.{RunFault}
use Rattle.line_runs.specs.declared.fault.RunFault.TheVariants.{Read, Write, ReadsUsed, OutOfMemory}
use Rattle.line_runs.specs.RunAnswers.{AnsweredPart, AnswersFront, FailsSo, LeavesOff, StopsAt}
use Rattle.line_runs.proofs.Faults.{stopped}
use Rattle.line_runs.proofs.Fronts.{begins_behind_text}
use Rattle.line_runs.proofs.Gathering.{Gathers-flush}
use Rattle.line_runs.proofs.Running.{IsRunning, begins_in_front, stops_in_front}

-- nothing was written behind
then_nothing : (a b c : Option (List ℕ)) (xs : List ℕ) → Appends a b xs → Appends b c [] → Appends a c xs
then_nothing a b c xs first second = subst (Appends a c) (append-nil xs) (Appends-trans a b c xs [] first second)

module _ {S : Type 0} (replies : S → List (List ℕ) → List ℕ → Type 0) where
  -- a prefix of the stream was answered, and a beginning of the text was written
  abbrev Begins : S → S → List ℕ → Option (List ℕ) → Option (List ℕ) → Type 0
  Begins now next stream old new = (text : List ℕ) × (left : List ℕ) × (n : ℕ) × AnswersFront replies now next stream left text × Appends old new (take n text)

  -- a beginning of what is gathered was written
  leaves_begun : (now next : S) (stream : List ℕ) (old new last : Option (List ℕ)) (after : List ℕ) (n : ℕ) (fault : RunFault)
      → LeavesOff replies now next stream old new [] after fault → Appends new last (take n after) → Begins now next stream old last
  leaves_begun now next stream old new last after n Read leaves adds = absurd leaves
  leaves_begun now next stream old new last after n ReadsUsed leaves adds = absurd leaves
  leaves_begun now next stream old new last after n OutOfMemory leaves adds =
      (leaves.0, leaves.1, length leaves.3.written + n, leaves.2, begins_behind_text old new last after leaves.0 n leaves.3 adds)
  leaves_begun now next stream old new last after n Write leaves adds =
      let nothing : Appends new last [] = subst (Appends new last) (ap (take n) leaves.5 ∙ take-nil n) adds in
      (leaves.0, leaves.1, leaves.3, leaves.2, then_nothing old new last (take leaves.3 leaves.0) leaves.4 nothing)

  -- a write failed after a fault
  pub begins_after_fault : (first now next : S) (none : (s : S) → replies s [] []) (held piece : List ℕ) (reads n : ℕ) (input left rest old new now_written last : Option (List ℕ)) (after : List ℕ) (fault : RunFault)
      → IsRunning replies first now held reads input left old new → Consumes left rest piece
      → LeavesOff replies now next (held ++ piece) new now_written [] after fault → Appends now_written last (take n after)
      → AnsweredPart (replies first) input old last
  begins_after_fault first now next none held piece reads n input left rest old new now_written last after fault run eats leaves adds =
      let begun = leaves_begun now next (held ++ piece) new now_written last after n fault leaves adds in
      begins_in_front replies first now next none held piece begun.1 reads begun.2 input left rest old new last begun.0 run eats begun.4 begun.3

  -- an allocation failed, and what is gathered was written
  pub stops_after_fault : (first now next : S) (held piece : List ℕ) (reads : ℕ) (input left rest old new now_written last : Option (List ℕ)) (after : List ℕ)
      → IsRunning replies first now held reads input left old new → Consumes left rest piece
      → LeavesOff replies now next (held ++ piece) new now_written [] after OutOfMemory → Appends now_written last after
      → StopsAt replies first next input old last
  stops_after_fault first now next held piece reads input left rest old new now_written last after run eats leaves adds =
      stops_in_front replies first now next held piece leaves.1 reads input left rest old new last leaves.0 run eats
      (Gathers-flush new now_written last after leaves.0 leaves.3 adds) leaves.2

  -- a fault came, and what is gathered was written
  pub fails_after_fault : (first now next : S) (none : (s : S) → replies s [] []) (held piece : List ℕ) (reads : ℕ) (input left rest old new now_written last : Option (List ℕ)) (after : List ℕ) (fault : RunFault)
      → IsRunning replies first now held reads input left old new → Consumes left rest piece
      → LeavesOff replies now next (held ++ piece) new now_written [] after fault → Appends now_written last after
      → FailsSo (replies first) input rest old last fault
  fails_after_fault first now next none held piece reads input left rest old new now_written last after Read run eats leaves adds = absurd leaves
  fails_after_fault first now next none held piece reads input left rest old new now_written last after ReadsUsed run eats leaves adds = absurd leaves
  fails_after_fault first now next none held piece reads input left rest old new now_written last after OutOfMemory run eats leaves adds =
      stopped replies none first next input old last
      (stops_after_fault first now next held piece reads input left rest old new now_written last after run eats leaves adds)
  fails_after_fault first now next none held piece reads input left rest old new now_written last after Write run eats leaves adds =
      let nothing : Appends now_written last [] = subst (Appends now_written last) leaves.5 adds in
      begins_in_front replies first now next none held piece leaves.1 reads leaves.3 input left rest old new last leaves.0 run eats
      (then_nothing new now_written last (take leaves.3 leaves.0) leaves.4 nothing) leaves.2
