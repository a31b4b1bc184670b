-- What `Lines` holds: the bytes that it took and has not returned.
use Rattle.std.specs.Prelude.{◌≡◌, ◌≢◌, ◌⊎◌, ℕ, ◌+◌, ◌<◌, ◌≤◌, List, [], ◌++◌, length, take, Option, Some, None}
use Rattle.std.specs.Prelude.{Result, Ok, Err, ◌==◌, if◌then◌else◌, vec_capacity}
use Rattle.std.specs.Borrow.{Bor}
use Rattle.std.specs.List.{list_any}
use Rattle.std.specs.Io.BufRead.{take_through}
use Rattle.plain_store.specs.declared.refusal.Refusal.{Refusal}
use Rattle.plain_store.specs.declared.refusal.Refusal.TheVariants.{LineTooLong, Cut}
use Rattle.line_protocol.specs.declared.lines.LineState.{LineState}
use Rattle.line_protocol.specs.declared.lines.LineState.TheVariants.{Partial, Whole, Spent, TooLong}
use Rattle.line_protocol.specs.declared.lines.Lines.TheInside.{Inside}
use Rattle.line_protocol.specs.Stream.{line_feed, line_limit, terminated, HasNoLineFeed, IsLine, IsTooLong}

-- ---- what the calls do with the bytes held

-- what `feed` takes of a piece: the bytes up to and with its first LF, and none while a line waits
abbrev pub bytes_fed : List ℕ → List ℕ → List ℕ
bytes_fed held piece = if list_any (λ b. b == line_feed) held then [] else take_through line_feed piece

-- bytes that are taken stand behind those held before
abbrev pub JoinsHeld : List ℕ → List ℕ → List ℕ → Type 0
JoinsHeld old bytes new = new ≡ old ++ bytes

-- a line waits: it is held with its LF, and nothing else is
abbrev pub Waits : List ℕ → List ℕ → Type 0
Waits held line = (held ≡ terminated line) × IsLine line

-- a line that is returned is held no more
abbrev pub HandsOut : List ℕ → Option (Bor (List ℕ)) → List ℕ → Type 0
HandsOut old None new = new ≡ old
HandsOut old (Some line) new = new ≡ []

-- how a stream ends here: well where nothing is held or a line waits, cut where the beginning of a line is
-- held, and too long where what is held is too long for one
abbrev pub EndsAs : List ℕ → Result (Unit {0}) Refusal → Type 0
EndsAs held (Ok done) = (held ≡ []) ⊎ ((line : List ℕ) × IsLine line × (held ≡ terminated line))
EndsAs held (Err Cut) = HasNoLineFeed held × (held ≢ []) × (length held < line_limit)
EndsAs held (Err LineTooLong) = IsTooLong held
EndsAs held (Err e) = ⊥

-- ---- how `Lines` keeps them

-- the bytes held, by what the buffer's bytes are
abbrev pub at_stage : LineState → List ℕ → List ℕ
at_stage Partial bytes = bytes
at_stage Whole bytes = terminated bytes
at_stage Spent bytes = []
at_stage TooLong bytes = bytes

abbrev pub held_of : Inside → List ℕ
held_of l = at_stage l.stage l.bytes.items

-- the buffer's bytes are what the stage says
abbrev pub AreHeld : LineState → List ℕ → Type 0
AreHeld Partial bytes = HasNoLineFeed bytes × (length bytes < line_limit)
AreHeld Whole bytes = IsLine bytes
AreHeld Spent bytes = IsLine bytes
AreHeld TooLong bytes = HasNoLineFeed bytes × (length bytes ≡ line_limit)

-- the buffer has room for a line
pub record IsHeld (l : Inside) : Type 0 where
  pub room : line_limit ≤ vec_capacity l.bytes
  pub content : AreHeld l.stage l.bytes.items

-- no LF stands before the end, and one stands at the end if any byte does
pub record IsLineEnd (piece : List ℕ) (end : ℕ) : Type 0 where
  pub within : end ≤ length piece
  pub before : HasNoLineFeed (take end piece)
  pub there : end < length piece → take (end + 1) piece ≡ terminated (take end piece)

-- n bytes of the piece go on with the beginning of a line, which is then at this stage
abbrev pub GoesOnWith : List ℕ → List ℕ → LineState → ℕ → List ℕ → Type 0
GoesOnWith old piece TooLong n new = new ≡ take line_limit (old ++ piece)
GoesOnWith old piece stage n new =
    (at_stage stage new ≡ old ++ take_through line_feed piece) × (n ≡ length (take_through line_feed piece))
