-- The state of a run between two reads: for `run_lines`.
use Rattle.std.proofs.Common.{◌≡◌, ℕ, ◌+◌, ◌<◌, ◌≤◌, ◌^◌, List, [], ◌++◌, length, take, Option, Some, None, refl, sym, ap, subst, ◌∙◌, append_assoc, arith, inl, inr}
use Rattle.std.specs.Prelude.{⊤, IfSome}
use Rattle.std.proofs.KnownBytes.{Appends-nil, Appends-trans}
use Rattle.std.proofs.lemmas.List.{append-nil, length-append}
use Rattle.line_protocol.specs.Stream.{HasNoLineFeed}
use Rattle.line_runs.specs.declared.fault.End.{End}
use Rattle.std.specs.Io.KnownBytes.{Appends, Consumes, Keeps, IsAtEnd}
use Rattle.line_runs.specs.RunAnswers.{AnsweredPart, AnsweredSoFar, Answers, AnswersFront, Continues, StopsAt, end_of, text_at_end}
use Rattle.line_runs.proofs.Fronts.{AnswersFront-goes, AnswersFront-refl, AnswersFront-some, AnswersFront-trans, begins_behind}
use Rattle.line_runs.proofs.Steps.{Continues-trans, Answers-done}

module _ {S : Type 0} (replies : S → List (List ℕ) → List ℕ → Type 0) where
  -- Where the reader reports its bytes: what was written answers a prefix of them, the bytes held and those left follow it, and no read was for nothing.
  abbrev pub IsRunning : S → S → List ℕ → ℕ → Option (List ℕ) → Option (List ℕ) → Option (List ℕ) → Option (List ℕ) → Type 0
  IsRunning first now held reads None left old new = ⊤
  IsRunning first now held reads (Some input) None old new = ⊥
  IsRunning first now held reads (Some input) (Some left) old new =
      (written : List ℕ) × Appends old new written × AnswersFront replies first now input (held ++ left) written × (reads + length left ≤ length input)

  -- what is reported of the input at the end
  abbrev pub IsEnded : S → Option (List ℕ) → Option (List ℕ) → Option (List ℕ) → End → Type 0
  IsEnded first input old new end = IfSome input (λ stream. (written : List ℕ) × Answers replies first stream written end × Appends old new (written ++ text_at_end end))

  -- a run begins
  pub IsRunning-begins : (s : S) (input writer : Option (List ℕ)) → IsRunning s s [] 0 input input writer writer
  IsRunning-begins s None writer = tt
  IsRunning-begins s (Some input) writer = ([], Appends-nil writer, AnswersFront-refl replies s input, omega arith)

  -- the bytes held and a piece of those left are a prefix of both
  joined : (held piece left after : List ℕ) → left ≡ piece ++ after → held ++ left ≡ (held ++ piece) ++ after
  joined held piece left after eats = ap (λ (t : List ℕ). held ++ t) eats ∙ sym (append_assoc held piece after)

  -- no byte is held or left, where the input is at its end
  goes_to_end : (first now : S) (held input left after written : List ℕ) → left ≡ [] ++ after → after ≡ [] → AnswersFront replies first now input (held ++ left) written
      → Continues replies first now input held written
  goes_to_end first now held input left after written eats at front =
      subst (λ (x : List ℕ). Continues replies first now input x written) (ap (λ (t : List ℕ). held ++ t) (eats ∙ at) ∙ append-nil held)
      (AnswersFront-goes replies first now input (held ++ left) written front)

  -- a read at the end of the input
  pub ends_at_end : (first now : S) (none : (s : S) → replies s [] []) (held : List ℕ) (reads : ℕ) (input left after old new last : Option (List ℕ)) (end : End)
      → IsRunning first now held reads input left old new → Consumes left after [] → IsAtEnd after → HasNoLineFeed held → end_of held ≡ end → Appends new last (text_at_end end)
      → IsEnded first input old last end
  ends_at_end first now none held reads None left after old new last end run eats at open_ended ends adds = tt
  ends_at_end first now none held reads (Some input) None after old new last end run eats at open_ended ends adds = absurd run
  ends_at_end first now none held reads (Some input) (Some left) None old new last end run eats at open_ended ends adds = absurd eats
  ends_at_end first now none held reads (Some input) (Some left) (Some after) old new last end run eats at open_ended ends adds = (
    run.0,
    Answers-done replies first now input held run.0 end none (goes_to_end first now held input left after run.0 eats at run.2) open_ended ends,
    Appends-trans old new last run.0 (text_at_end end) run.1 adds,
  )

  -- the same where a write fails
  pub begins_at_end : (first now : S) (none : (s : S) → replies s [] []) (held : List ℕ) (reads n : ℕ) (input left after old new last : Option (List ℕ))
      → IsRunning first now held reads input left old new → Consumes left after [] → IsAtEnd after → HasNoLineFeed held → Appends new last (take n (text_at_end (end_of held)))
      → AnsweredPart (replies first) input old last
  begins_at_end first now none held reads n None left after old new last run eats at open_ended adds = tt
  begins_at_end first now none held reads n (Some input) None after old new last run eats at open_ended adds = absurd run
  begins_at_end first now none held reads n (Some input) (Some left) None old new last run eats at open_ended adds = absurd eats
  begins_at_end first now none held reads n (Some input) (Some left) (Some after) old new last run eats at open_ended adds =
      let done = Answers-done replies first now input held run.0 (end_of held) none (goes_to_end first now held input left after run.0 eats at run.2) open_ended refl in (
        run.0 ++ text_at_end (end_of held),
        length run.0 + n,
        inr (run.0, done.replies_to, ap (λ end. run.0 ++ text_at_end end) (sym done.ending)),
        begins_behind old new last run.0 (text_at_end (end_of held)) n run.1 adds,
      )

  -- a piece is answered
  pub runs_on : (first now next : S) (held more piece : List ℕ) (reads : ℕ) (input left after old new last : Option (List ℕ)) (text : List ℕ)
      → IsRunning first now held reads input left old new → Consumes left after piece → 0 < length piece
      → Appends new last text → AnswersFront replies now next (held ++ piece) more text
      → IsRunning first next more (reads + 1) input after old last
  runs_on first now next held more piece reads None left after old new last text run eats some adds front = tt
  runs_on first now next held more piece reads (Some input) None after old new last text run eats some adds front = absurd run
  runs_on first now next held more piece reads (Some input) (Some left) None old new last text run eats some adds front = absurd eats
  runs_on first now next held more piece reads (Some input) (Some left) (Some after) old new last text run eats some adds front =
      let size : length left ≡ length piece + length after = ap length eats ∙ length-append piece after in (
        run.0 ++ text,
        Appends-trans old new last run.0 text run.1 adds,
        AnswersFront-trans replies first now next input (held ++ left) (held ++ piece) more after run.0 text run.2 front (joined held piece left after eats),
        let fits = run.3 in omega (arith, size, some, fits),
      )

  -- no more is read
  pub answered_so_far : (first now : S) (none : (s : S) → replies s [] []) (held : List ℕ) (reads : ℕ) (input left after old new : Option (List ℕ))
      → IsRunning first now held reads input left old new → Keeps left after → HasNoLineFeed held → AnsweredSoFar (replies first) input after old new
  answered_so_far first now none held reads None left after old new run keeps open_ended = tt
  answered_so_far first now none held reads (Some input) None after old new run keeps open_ended = absurd run
  answered_so_far first now none held reads (Some input) (Some left) None old new run keeps open_ended = absurd keeps
  answered_so_far first now none held reads (Some input) (Some left) (Some after) old new run keeps open_ended =
      let front = run.2 in (
        front.front ++ held,
        run.0,
        front.whole ∙ sym (append_assoc front.front held left) ∙ ap (λ (t : List ℕ). (front.front ++ held) ++ t) (sym keeps),
        (Answers-done replies first now (front.front ++ held) held run.0 (end_of held) none (front.passes held) open_ended refl).replies_to,
        run.1,
      )

  -- the reads were no more than the bytes
  pub is_as_long : (first now : S) (held : List ℕ) (reads : ℕ) (input left old new : Option (List ℕ)) → IsRunning first now held reads input left old new
      → 2 ^ 62 ≤ reads → IfSome input (λ stream. 2 ^ 62 ≤ length stream)
  is_as_long first now held reads None left old new run all = tt
  is_as_long first now held reads (Some input) None old new run all = absurd run
  is_as_long first now held reads (Some input) (Some left) old new run all = let fits = run.3 in omega (arith, fits, all)

  -- in a piece a front was answered, and a fault came
  pub stops_in_front : (first now next : S) (held piece rest : List ℕ) (reads : ℕ) (input left after old new last : Option (List ℕ)) (text : List ℕ)
      → IsRunning first now held reads input left old new → Consumes left after piece
      → Appends new last text → AnswersFront replies now next (held ++ piece) rest text
      → StopsAt replies first next input old last
  stops_in_front first now next held piece rest reads None left after old new last text run eats adds front = tt
  stops_in_front first now next held piece rest reads (Some input) None after old new last text run eats adds front = absurd run
  stops_in_front first now next held piece rest reads (Some input) (Some left) None old new last text run eats adds front = absurd eats
  stops_in_front first now next held piece rest reads (Some input) (Some left) (Some after) old new last text run eats adds front = (
    run.0 ++ text,
    rest ++ after,
    AnswersFront-trans replies first now next input (held ++ left) (held ++ piece) rest after run.0 text run.2 front (joined held piece left after eats),
    Appends-trans old new last run.0 text run.1 adds,
  )

  -- in a piece a front was answered, and a beginning of the text was written
  pub begins_in_front : (first now next : S) (none : (s : S) → replies s [] []) (held piece rest : List ℕ) (reads n : ℕ) (input left after old new last : Option (List ℕ)) (text : List ℕ)
      → IsRunning first now held reads input left old new → Consumes left after piece
      → Appends new last (take n text) → AnswersFront replies now next (held ++ piece) rest text
      → AnsweredPart (replies first) input old last
  begins_in_front first now next none held piece rest reads n None left after old new last text run eats adds front = tt
  begins_in_front first now next none held piece rest reads n (Some input) None after old new last text run eats adds front = absurd run
  begins_in_front first now next none held piece rest reads n (Some input) (Some left) None old new last text run eats adds front = absurd eats
  begins_in_front first now next none held piece rest reads n (Some input) (Some left) (Some after) old new last text run eats adds front =
      let all = AnswersFront-trans replies first now next input (held ++ left) (held ++ piece) rest after run.0 text run.2 front (joined held piece left after eats) in (
        run.0 ++ text,
        length run.0 + n,
        inl (AnswersFront-some replies none first next input (rest ++ after) (run.0 ++ text) all),
        begins_behind old new last run.0 text n run.1 adds,
      )

  -- the run goes on in the piece to a line that is too long
  goes_in_piece : (first now next : S) (held more piece input left after written text : List ℕ) → left ≡ piece ++ after → AnswersFront replies first now input (held ++ left) written
      → ((rest : List ℕ) → Continues replies now next (held ++ piece ++ rest) more text) → Continues replies first next input more (written ++ text)
  goes_in_piece first now next held more piece input left after written text eats front goes =
      Continues-trans replies first now next input (held ++ piece ++ after) more written text
      (subst (λ (x : List ℕ). Continues replies first now input x written) (joined held piece left after eats) (AnswersFront-goes replies first now input (held ++ left) written front))
      (goes after)

  -- a line is too long
  pub stops_in_piece : (first now next : S) (none : (s : S) → replies s [] []) (held more piece : List ℕ) (reads : ℕ) (input left after old new last : Option (List ℕ)) (text : List ℕ) (end : End)
      → IsRunning first now held reads input left old new → Consumes left after piece
      → ((rest : List ℕ) → Continues replies now next (held ++ piece ++ rest) more text)
      → HasNoLineFeed more → end_of more ≡ end → Appends new last (text ++ text_at_end end) → IsEnded first input old last end
  stops_in_piece first now next none held more piece reads None left after old new last text end run eats goes open_ended ends adds = tt
  stops_in_piece first now next none held more piece reads (Some input) None after old new last text end run eats goes open_ended ends adds = absurd run
  stops_in_piece first now next none held more piece reads (Some input) (Some left) None old new last text end run eats goes open_ended ends adds = absurd eats
  stops_in_piece first now next none held more piece reads (Some input) (Some left) (Some after) old new last text end run eats goes open_ended ends adds = (
    run.0 ++ text,
    Answers-done replies first next input more (run.0 ++ text) end none (goes_in_piece first now next held more piece input left after run.0 text eats run.2 goes) open_ended ends,
    subst (Appends old last) (sym (append_assoc run.0 text (text_at_end end))) (Appends-trans old new last run.0 (text ++ text_at_end end) run.1 adds),
  )

  -- the same where a write fails
  pub begins_in_piece : (first now next : S) (none : (s : S) → replies s [] []) (held more piece : List ℕ) (reads n : ℕ) (input left after old new last : Option (List ℕ)) (text : List ℕ)
      → IsRunning first now held reads input left old new → Consumes left after piece
      → ((rest : List ℕ) → Continues replies now next (held ++ piece ++ rest) more text)
      → HasNoLineFeed more → Appends new last (take n (text ++ text_at_end (end_of more))) → AnsweredPart (replies first) input old last
  begins_in_piece first now next none held more piece reads n None left after old new last text run eats goes open_ended adds = tt
  begins_in_piece first now next none held more piece reads n (Some input) None after old new last text run eats goes open_ended adds = absurd run
  begins_in_piece first now next none held more piece reads n (Some input) (Some left) None old new last text run eats goes open_ended adds = absurd eats
  begins_in_piece first now next none held more piece reads n (Some input) (Some left) (Some after) old new last text run eats goes open_ended adds =
      let done = Answers-done replies first next input more (run.0 ++ text) (end_of more) none (goes_in_piece first now next held more piece input left after run.0 text eats run.2 goes) open_ended refl in
      let tail = text_at_end (end_of more) in (
        run.0 ++ (text ++ tail),
        length run.0 + n,
        inr (run.0 ++ text, done.replies_to, sym (append_assoc run.0 text tail) ∙ ap (λ end. (run.0 ++ text) ++ text_at_end end) (sym done.ending)),
        begins_behind old new last run.0 (text ++ tail) n run.1 adds,
      )
