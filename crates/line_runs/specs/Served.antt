-- What a new cell and a new store answer in a run.
use Rattle.std.specs.Prelude.{◌≡◌, ℕ, List, [], ◌++◌, Option, IfSome}
use Rattle.std.specs.Io.KnownBytes.{Appends}
use Rattle.stamps.specs.declared.bounds.Limits.{Limits}
use Rattle.line_protocol.specs.Stream.{lines_of}
use Rattle.line_runs.specs.declared.fault.End.{End}
use Rattle.line_runs.specs.RunAnswers.{end_of, text_at_end}
use Rattle.line_runs.specs.CellAnswers.{AnswersLines}
use Rattle.line_runs.specs.SimAnswers.{IsStoreTranscript}

-- the text is what a new cell of this room answers to the lines
abbrev pub answers_of_cell : ℕ → ℕ → ℕ → List (List ℕ) → List ℕ → Type 0
answers_of_cell slots items clients lines text =
    AnswersLines (record { slots = slots; items = items; clients = clients }) [] lines text

-- The text is what a new store of so many partitions answers to the lines. It has a tenant for each of these limits,
-- which goes by the name at its place.
abbrev pub answers_of_store : ℕ → List Limits → List (List ℕ) → List (List ℕ) → List ℕ → Type 0
answers_of_store parts limits names lines text =
    IsStoreTranscript (record { parts = parts; limits = limits; names = names }) [] lines text

-- Where the reader and the writer tell their bytes: a new cell of this room was asked the lines of the input, which
-- ended so, and what was written answers them.
abbrev pub ServesCell : ℕ → ℕ → ℕ → Option (List ℕ) → Option (List ℕ) → Option (List ℕ) → End → Type 0
ServesCell slots items clients input old new end = IfSome input (λ stream.
    (end_of stream ≡ end) × ((text : List ℕ)
    × answers_of_cell slots items clients (lines_of stream) text
    × Appends old new (text ++ text_at_end end)))

-- The same of a new store of so many partitions, with a tenant for each of these limits and the name at its place.
abbrev pub ServesSim : ℕ → List Limits → List (List ℕ)
    → Option (List ℕ) → Option (List ℕ) → Option (List ℕ) → End → Type 0
ServesSim parts limits names input old new end = IfSome input (λ stream.
    (end_of stream ≡ end) × ((text : List ℕ)
    × answers_of_store parts limits names (lines_of stream) text
    × Appends old new (text ++ text_at_end end)))
