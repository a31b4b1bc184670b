-- The lines of a stream from its front, and turn by turn.
use Rattle.std.proofs.Common.{◌≡◌, ℕ, ◌<◌, Bool, true, false, cond, eqb, List, [], ◌∷◌, ◌++◌, length, refl, sym, ap, ◌∙◌, append_assoc}
use Rattle.std.specs.List.{onto_first}
use Rattle.std.proofs.lemmas.Bool.{lt-ltb}
use Rattle.std.proofs.lemmas.List.{append-nil}
use Rattle.std.proofs.lemmas.List.Elements.{All-from_recursion}
use Rattle.std.proofs.lemmas.List.Splits.{slice_split_none, slice_split_at}
use Rattle.line_protocol.specs.Stream.{line_limit, terminated, HasNoLineFeed, IsLine, between_feeds, lines_among, lines_of}
use Rattle.line_protocol.specs.Transfers.{Transfer, Took, Gave, AreTransfers, stream_of, given_of, AreInOrder}

-- a stream has a part at least
record HasFirst (parts : List (List ℕ)) : Type 0 where
  first : List ℕ
  others : List (List ℕ)
  is : parts ≡ first ∷ others

some_parts : (bytes : List ℕ) → HasFirst (between_feeds bytes)
some_parts [] = record { first = []; others = []; is = refl }
some_parts (b ∷ bytes) = go (eqb b 10) (some_parts bytes)
  where
    go : (feed : Bool) → HasFirst (between_feeds bytes) → HasFirst (cond feed ([] ∷ between_feeds bytes) (onto_first b (between_feeds bytes)))
    go true h = record { first = []; others = between_feeds bytes; is = refl }
    go false h = record { first = b ∷ h.first; others = h.others; is = ap (onto_first b) h.is }

parts-line : (line rest : List ℕ) → HasNoLineFeed line → between_feeds (line ++ 10 ∷ rest) ≡ line ∷ between_feeds rest
parts-line line rest h = slice_split_at (λ b. eqb b 10) line 10 rest (All-from_recursion (λ b. eqb b 10 ≡ false) line h) refl

lines_among-line : (line : List ℕ) (parts : List (List ℕ)) → length line < line_limit → HasFirst parts → lines_among (line ∷ parts) ≡ line ∷ lines_among parts
lines_among-line line parts short h = rw h.is (rw (lt-ltb (length line) line_limit short) refl)

pub lines_of-line : (line rest : List ℕ) → IsLine line → lines_of (terminated line ++ rest) ≡ line ∷ lines_of rest
unfolding lines_of
lines_of-line line rest h =
    ap (λ (t : List ℕ). lines_among (between_feeds t)) (append_assoc line (10 ∷ []) rest) ∙ ap lines_among (parts-line line rest h.one)
    ∙ lines_among-line line (between_feeds rest) h.short (some_parts rest)

pub lines_of-none : (bytes : List ℕ) → HasNoLineFeed bytes → lines_of bytes ≡ []
unfolding lines_of
lines_of-none bytes h = ap lines_among (slice_split_none (λ b. eqb b 10) bytes (All-from_recursion (λ b. eqb b 10 ≡ false) bytes h))

in_order : (old : List ℕ) (transfers : List Transfer) (held following : List ℕ) → AreTransfers old transfers held
    → lines_of (old ++ (stream_of transfers ++ following)) ≡ given_of transfers ++ lines_of (held ++ following)
in_order old [] held following h = ap (λ (t : List ℕ). lines_of (t ++ following)) (sym h)
in_order old (Took bytes ∷ transfers) held following h =
    ap (λ (t : List ℕ). lines_of (old ++ t)) (append_assoc bytes (stream_of transfers) following)
    ∙ ap lines_of (sym (append_assoc old bytes (stream_of transfers ++ following)))
    ∙ ap (λ (t : List ℕ). lines_of (t ++ (stream_of transfers ++ following))) (sym h.1)
    ∙ in_order h.0 transfers held following h.2
in_order old (Gave line ∷ transfers) held following h =
    ap (λ (t : List ℕ). lines_of (t ++ (stream_of transfers ++ following))) h.1.0.0
    ∙ lines_of-line line (stream_of transfers ++ following) h.1.0.1
    ∙ ap (λ (ls : List (List ℕ)). line ∷ ls) (ap (λ (t : List ℕ). lines_of (t ++ (stream_of transfers ++ following))) (sym h.1.1) ∙ in_order h.0 transfers held following h.2)

pub turns_in_order : (transfers : List Transfer) (held : List ℕ) → AreTransfers [] transfers held → AreInOrder transfers held
turns_in_order transfers held h = record {
  first = λ following. in_order [] transfers held following h;
  all = λ none.
      ap lines_of (sym (append-nil (stream_of transfers))) ∙ in_order [] transfers held [] h
      ∙ ap (λ (ls : List (List ℕ)). given_of transfers ++ ls) (ap lines_of (append-nil held) ∙ lines_of-none held none)
      ∙ append-nil (given_of transfers);
}
