-- What a run over a byte stream answers.
use Rattle.std.specs.Prelude.{◌≡◌, ◌⊎◌, ⊤, ℕ, ◌+◌, ◌^◌, ◌≤◌, List, [], ◌∷◌, ◌++◌, length, take, nat_lt, ◌==◌}
use Rattle.std.specs.Prelude.{if◌then◌else◌, Option, Some, None, Result, IfSome, IfOk, IfErr, OnOk}
use Rattle.std.specs.Io.KnownBytes.{Appends}
use Rattle.line_protocol.specs.Stream.{line_limit, terminated, between_feeds, lines_of}
use Rattle.line_protocol.specs.Spelling.{refused_text}
use Rattle.line_runs.specs.declared.fault.End.{End}
use Rattle.line_runs.specs.declared.fault.End.TheVariants.{Whole, TooLong, Cut}
use Rattle.line_runs.specs.declared.fault.RunFault.{RunFault}
use Rattle.line_runs.specs.declared.fault.RunFault.TheVariants.{Read, Write, ReadsUsed, OutOfMemory}

-- how a stream of these parts ends
abbrev pub end_among : List (List ℕ) → End
end_among [] = Whole
end_among (rest ∷ []) = if length rest == 0 then Whole else (if nat_lt (length rest) line_limit then Cut else TooLong)
end_among (line ∷ part ∷ parts) = if nat_lt (length line) line_limit then end_among (part ∷ parts) else TooLong

unfoldable pub end_of : List ℕ → End
end_of stream = end_among (between_feeds stream)

-- what is written at the end of a stream
abbrev pub text_at_end : End → List ℕ
text_at_end Whole = []
text_at_end TooLong = terminated (refused_text 41)
text_at_end Cut = terminated (refused_text 42)

-- a text joined what was gathered, and a prefix of all that was written
pub record Gathers (old new : Option (List ℕ)) (before after text : List ℕ) : Type 0 where
  pub written : List ℕ
  pub appends : Appends old new written
  pub whole : before ++ text ≡ written ++ after

-- What was gathered is written. None of it is left, so there is room for as much, also where a write failed: then a beginning of it was
-- written.
pub record WritesOut (before after : List ℕ) (spare spare_after : ℕ) (old new : Option (List ℕ))
    (result : Result (Unit {0}) RunFault) : Type 0 where
  pub written : OnOk result (Appends old new before)
  pub empty : after ≡ []
  pub room : length before + spare ≤ spare_after
  pub error : IfErr result (λ fault. fault ≡ Write)
  pub begun : IfErr result (λ fault. (n : ℕ) × Appends old new (take n before))

-- What was gathered is written, and behind it what is said of the end of a stream that left these bytes. Where a write failed, a beginning
-- of that was written.
pub record WritesEnd (held before : List ℕ) (old new : Option (List ℕ)) (result : Result End RunFault) : Type 0 where
  pub end : IfOk result (λ ending. end_of held ≡ ending)
  pub written : IfOk result (λ ending. Appends old new (before ++ text_at_end ending))
  pub error : IfErr result (λ fault. fault ≡ Write)
  pub begun : IfErr result (λ fault. (n : ℕ) × Appends old new (take n (before ++ text_at_end (end_of held))))

module _ {S : Type 0} (replies : S → List (List ℕ) → List ℕ → Type 0) where
  -- from the first state the stream goes on to the second, which has the rest still to answer
  pub record Continues (first second : S) (stream rest written : List ℕ) : Type 0 where
    pub replies_to : (text : List ℕ) → replies second (lines_of rest) text
        → replies first (lines_of stream) (written ++ text)
    pub ending : end_of stream ≡ end_of rest

  -- the text answers the lines of the stream, which ends so
  pub record Answers (first : S) (stream written : List ℕ) (end : End) : Type 0 where
    pub replies_to : replies first (lines_of stream) written
    pub ending : end_of stream ≡ end

  -- The first state answers a stream that begins with these bytes by this text, and then as the second state answers
  -- what follows them.
  abbrev pub Passes : S → S → List ℕ → List ℕ → Type 0
  Passes first second bytes text = (more : List ℕ) → Continues first second (bytes ++ more) more text

  -- a prefix of the stream was answered by the text, and the rest is left
  pub record AnswersFront (first second : S) (stream left text : List ℕ) : Type 0 where
    pub front : List ℕ
    pub whole : stream ≡ front ++ left
    pub passes : Passes first second front text

  -- What a fault leaves, where a text was gathered before. Memory: a prefix of the stream was answered by a text that
  -- is written or gathered. A write: a beginning of what was gathered and of that text is written, and nothing is
  -- gathered.
  abbrev pub LeavesOff : S → S → List ℕ → Option (List ℕ) → Option (List ℕ) → List ℕ → List ℕ
      → RunFault → Type 0
  LeavesOff first second stream old new before after Read = ⊥
  LeavesOff first second stream old new before after ReadsUsed = ⊥
  LeavesOff first second stream old new before after OutOfMemory =
      (text : List ℕ) × (left : List ℕ) × AnswersFront first second stream left text × Gathers old new before after text
  LeavesOff first second stream old new before after Write =
      (text : List ℕ) × (left : List ℕ) × AnswersFront first second stream left text
      × (n : ℕ) × Appends old new (take n (before ++ text)) × (after ≡ [])

  -- Where the reader reports its bytes: a prefix of them was answered, and the service goes on behind it.
  abbrev pub StopsAt : S → S → Option (List ℕ) → Option (List ℕ) → Option (List ℕ) → Type 0
  StopsAt first second input old new = IfSome input (λ stream.
      (text : List ℕ) × (left : List ℕ) × AnswersFront first second stream left text × Appends old new text)

-- What was written where a run failed, over a reader and a writer that tell their bytes. Which text answers which
-- lines is any relation.
module _ (answers : List (List ℕ) → List ℕ → Type 0) where
  -- the text answers the lines of a prefix of the stream
  abbrev pub AnswersSome : List ℕ → List ℕ → Type 0
  AnswersSome stream text =
      (front : List ℕ) × (rest : List ℕ) × (stream ≡ front ++ rest) × answers (lines_of front) text

  -- the text answers all lines of the stream, and says how it ends
  abbrev pub AnswersAll : List ℕ → List ℕ → Type 0
  AnswersAll stream text =
      (written : List ℕ) × answers (lines_of stream) written × (text ≡ written ++ text_at_end (end_of stream))

  -- what was written answers the lines of the bytes that were read, and nothing else was written
  abbrev pub AnsweredSoFar : Option (List ℕ) → Option (List ℕ) → Option (List ℕ) → Option (List ℕ) → Type 0
  AnsweredSoFar None left old new = ⊤
  AnsweredSoFar (Some input) None old new = ⊥
  AnsweredSoFar (Some input) (Some left) old new =
      (taken : List ℕ) × (written : List ℕ) × (input ≡ taken ++ left) × answers (lines_of taken) written
      × Appends old new written

  -- what was written answers the lines of a prefix of the input
  abbrev pub AnsweredFront : Option (List ℕ) → Option (List ℕ) → Option (List ℕ) → Type 0
  AnsweredFront input old new =
      IfSome input (λ stream. (text : List ℕ) × AnswersSome stream text × Appends old new text)

  -- what was written is a beginning of what answers a prefix of the input, or all of it
  abbrev pub AnsweredPart : Option (List ℕ) → Option (List ℕ) → Option (List ℕ) → Type 0
  AnsweredPart input old new = IfSome input (λ stream.
      (text : List ℕ) × (n : ℕ) × (AnswersSome stream text ⊎ AnswersAll stream text) × Appends old new (take n text))

  -- What was written where a run failed so. At a read, and where the reads were used up, the lines of all that was
  -- read are answered, and reads are used up only by an input of as many bytes; at a write a beginning of the answers
  -- was written; at an allocation failure the lines before are answered.
  abbrev pub FailsSo : Option (List ℕ) → Option (List ℕ) → Option (List ℕ) → Option (List ℕ) → RunFault → Type 0
  FailsSo input left old new Read = AnsweredSoFar input left old new
  FailsSo input left old new ReadsUsed =
      AnsweredSoFar input left old new × IfSome input (λ stream. 2 ^ 62 ≤ length stream)
  FailsSo input left old new Write = AnsweredPart input old new
  FailsSo input left old new OutOfMemory = AnsweredFront input old new
