-- A stream that comes in pieces, and the lines that are returned as it comes.
use Rattle.std.specs.Prelude.{◌≡◌, ℕ, List, [], ◌∷◌, ◌++◌}
use Rattle.line_protocol.specs.Stream.{HasNoLineFeed, lines_of}
use Rattle.line_protocol.specs.Held.{JoinsHeld, Waits}

-- a call that did something: `feed` took these bytes, or `next_line` handed this line out
pub data Transfer : Type 0 where
  Took : List ℕ → Transfer
  Gave : List ℕ → Transfer

-- what was held before a transfer, and what is held after it
abbrev pub IsTransfer : List ℕ → Transfer → List ℕ → Type 0
IsTransfer old (Took bytes) new = JoinsHeld old bytes new
IsTransfer old (Gave line) new = Waits old line × (new ≡ [])

-- the same of transfers one after the other
abbrev pub AreTransfers : List ℕ → List Transfer → List ℕ → Type 0
AreTransfers old [] new = new ≡ old
AreTransfers old (transfer ∷ transfers) new =
    (held : List ℕ) × IsTransfer old transfer held × AreTransfers held transfers new

-- the stream that the transfers took
abbrev pub stream_of : List Transfer → List ℕ
stream_of [] = []
stream_of (Took bytes ∷ transfers) = bytes ++ stream_of transfers
stream_of (Gave line ∷ transfers) = stream_of transfers

-- the lines that they returned
abbrev pub given_of : List Transfer → List (List ℕ)
given_of [] = []
given_of (Took bytes ∷ transfers) = given_of transfers
given_of (Gave line ∷ transfers) = line ∷ given_of transfers

-- The lines returned are the stream's first, in its order. Those that are still to come are the lines of
-- what is held and whatever follows, so that none is left where no LF is held.
pub record AreInOrder (transfers : List Transfer) (held : List ℕ) : Type 0 where
  pub first : (following : List ℕ)
      → lines_of (stream_of transfers ++ following) ≡ given_of transfers ++ lines_of (held ++ following)
  pub all : HasNoLineFeed held → lines_of (stream_of transfers) ≡ given_of transfers
