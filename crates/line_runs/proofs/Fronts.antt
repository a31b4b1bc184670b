-- How a prefix of a stream is answered: for `run_lines`, `answer_piece` and `answer_waiting`.
use Rattle.std.proofs.Common.{◌≡◌, ℕ, ◌+◌, List, [], ◌∷◌, ◌++◌, length, take, drop, Option, refl, sym, ap, subst, ◌∙◌, append_assoc, take-append-drop}
use Rattle.std.proofs.Math.Seq.{take-append-add}
use Rattle.std.proofs.KnownBytes.{Appends-trans}
use Rattle.std.proofs.lemmas.List.{append-nil}
use Rattle.line_protocol.specs.Stream.{terminated, IsLine, lines_of}
use Rattle.std.specs.Io.KnownBytes.{Appends}
use Rattle.line_runs.specs.declared.fault.RunFault.{RunFault}
use Rattle.line_runs.specs.declared.fault.RunFault.TheVariants.{Read, Write, ReadsUsed, OutOfMemory}
use Rattle.line_runs.specs.RunAnswers.{AnswersFront, AnswersSome, Continues, Gathers, LeavesOff}
use Rattle.line_runs.proofs.Gathering.{Gathers-trans}
use Rattle.line_runs.proofs.Lines.{lines_of-none}
use Rattle.line_runs.proofs.Steps.{Continues-refl, Continues-trans, Continues-line}

-- a beginning of what comes second stands behind all of what comes first
pub begins_behind : (old mid new : Option (List ℕ)) (xs ys : List ℕ) (n : ℕ) → Appends old mid xs → Appends mid new (take n ys) → Appends old new (take (length xs + n) (xs ++ ys))
begins_behind old mid new xs ys n first second =
    subst (Appends old new) (sym (take-append-add xs ys n)) (Appends-trans old mid new xs (take n ys) first second)

-- where a prefix of what is gathered was written, a beginning of the rest stands behind it
pub begins_behind_gathered : (a b c : Option (List ℕ)) (before after text more : List ℕ) (n : ℕ) (h : Gathers a b before after text) → Appends b c (take n (after ++ more))
    → Appends a c (take (length h.written + n) (before ++ (text ++ more)))
begins_behind_gathered a b c before after text more n h adds =
    let same : h.written ++ (after ++ more) ≡ before ++ (text ++ more) =
    sym (append_assoc h.written after more) ∙ ap (λ (l : List ℕ). l ++ more) (sym h.whole) ∙ append_assoc before text more in
    subst (λ (l : List ℕ). Appends a c (take (length h.written + n) l)) same (begins_behind a b c h.written (after ++ more) n h.appends adds)

-- the same where nothing was gathered before, and nothing stands behind
pub begins_behind_text : (a b c : Option (List ℕ)) (after text : List ℕ) (n : ℕ) (h : Gathers a b [] after text) → Appends b c (take n after)
    → Appends a c (take (length h.written + n) text)
begins_behind_text a b c after text n h adds =
    subst (λ (l : List ℕ). Appends a c (take (length h.written + n) l)) (sym h.whole) (begins_behind a b c h.written after n h.appends adds)

-- what is fed of a piece, and the rest of it
pub fed_whole : (lines fed piece : List ℕ) (n : ℕ) → fed ≡ lines ++ take n piece → lines ++ piece ≡ fed ++ drop n piece
fed_whole lines fed piece n h =
    ap (λ (t : List ℕ). lines ++ t) (sym (take-append-drop n piece)) ∙ sym (append_assoc lines (take n piece) (drop n piece)) ∙ ap (λ (f : List ℕ). f ++ drop n piece) (sym h)

module _ {S : Type 0} (replies : S → List (List ℕ) → List ℕ → Type 0) where
  -- nothing is answered yet
  pub AnswersFront-refl : (s : S) (stream : List ℕ) → AnswersFront replies s s stream stream []
  AnswersFront-refl s stream = record { front = []; whole = refl; passes = λ more. Continues-refl replies s more }

  -- a service that stays answers nothing
  pub AnswersFront-stays : (old new : S) (stream : List ℕ) → ((lines : List (List ℕ)) (others : List ℕ) → replies new lines others → replies old lines others)
      → AnswersFront replies old new stream stream []
  AnswersFront-stays old new stream stays = record {
    front = [];
    whole = refl;
    passes = λ more. record { replies_to = λ text r. stays (lines_of more) text r; ending = refl };
  }

  -- a line that waits is answered
  pub AnswersFront-line : (old new : S) (line text : List ℕ) → IsLine line
      → ((lines : List (List ℕ)) (others : List ℕ) → replies new lines others → replies old (line ∷ lines) (text ++ others))
      → AnswersFront replies old new (terminated line) [] text
  AnswersFront-line old new line text is h = record {
    front = terminated line;
    whole = sym (append-nil (terminated line));
    passes = λ more. Continues-line replies old new line more text is h;
  }

  -- one front is answered, and then one of what is left and of what follows it
  pub AnswersFront-trans : (a b c : S) (stream mid held kept after w v : List ℕ) → AnswersFront replies a b stream mid w → AnswersFront replies b c held kept v
      → mid ≡ held ++ after → AnswersFront replies a c stream (kept ++ after) (w ++ v)
  AnswersFront-trans a b c stream mid held kept after w v h k is = record {
    front = h.front ++ k.front;
    whole = h.whole ∙ ap (λ (t : List ℕ). h.front ++ t) (is ∙ ap (λ (t : List ℕ). t ++ after) k.whole ∙ append_assoc k.front kept after)
        ∙ sym (append_assoc h.front k.front (kept ++ after));
    passes = λ more. subst (λ (x : List ℕ). Continues replies a c x more (w ++ v)) (sym (append_assoc h.front k.front more))
        (Continues-trans replies a b c (h.front ++ (k.front ++ more)) (k.front ++ more) more w v (h.passes (k.front ++ more)) (k.passes more));
  }

  -- a stream goes on behind what was read of it
  pub AnswersFront-more : (a b : S) (stream left more text : List ℕ) → AnswersFront replies a b stream left text → AnswersFront replies a b (stream ++ more) (left ++ more) text
  AnswersFront-more a b stream left more text h = record {
    front = h.front;
    whole = ap (λ (t : List ℕ). t ++ more) h.whole ∙ append_assoc h.front left more;
    passes = h.passes;
  }

  -- from the first state the stream goes on to the second, which has what is left still to answer
  pub AnswersFront-goes : (a b : S) (stream left text : List ℕ) → AnswersFront replies a b stream left text → Continues replies a b stream left text
  AnswersFront-goes a b stream left text h = subst (λ (x : List ℕ). Continues replies a b x left text) (sym h.whole) (h.passes left)

  -- the lines of the front are answered
  pub AnswersFront-some : (none : (s : S) → replies s [] []) (a b : S) (stream left text : List ℕ) → AnswersFront replies a b stream left text → AnswersSome (replies a) stream text
  AnswersFront-some none a b stream left text h =
      let last = (h.passes []).replies_to [] (subst (λ (ls : List (List ℕ)). replies b ls []) (sym (lines_of-none [] tt)) (none b)) in (
        h.front,
        left,
        h.whole,
        subst (replies a (lines_of h.front)) (append-nil text) (subst (λ (x : List ℕ). replies a (lines_of x) (text ++ [])) (append-nil h.front) last),
      )

  -- after a front a fault leaves what it leaves behind it
  pub LeavesOff-after : (first mid last : S) (stream left held after : List ℕ) (a b c : Option (List ℕ)) (x y z s : List ℕ) (fault : RunFault)
      → AnswersFront replies first mid stream left s → Gathers a b x y s → left ≡ held ++ after
      → LeavesOff replies mid last held b c y z fault → LeavesOff replies first last stream a c x z fault
  LeavesOff-after first mid last stream left held after a b c x y z s Read h k is leaves = absurd leaves
  LeavesOff-after first mid last stream left held after a b c x y z s ReadsUsed h k is leaves = absurd leaves
  LeavesOff-after first mid last stream left held after a b c x y z s OutOfMemory h k is leaves = (
    s ++ leaves.0,
    leaves.1 ++ after,
    AnswersFront-trans first mid last stream left held leaves.1 after s leaves.0 h leaves.2 is,
    Gathers-trans a b c x y z s leaves.0 k leaves.3,
  )
  LeavesOff-after first mid last stream left held after a b c x y z s Write h k is leaves = (
    s ++ leaves.0,
    leaves.1 ++ after,
    AnswersFront-trans first mid last stream left held leaves.1 after s leaves.0 h leaves.2 is,
    length k.written + leaves.3,
    begins_behind_gathered a b c x y s leaves.0 leaves.3 k leaves.4,
    leaves.5,
  )
