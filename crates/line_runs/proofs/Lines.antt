-- The lines of a stream, from its front: for `run_lines` and `end_of`.
use Rattle.std.proofs.Common.{◌≡◌, ◌≢◌, ℕ, zero, suc, ◌<◌, ◌≤◌, Bool, true, false, cond, eqb, List, [], ◌∷◌, ◌++◌, length, take, refl, ap, ◌∙◌, append_assoc, arith}
use Rattle.std.specs.List.{onto_first}
use Rattle.std.proofs.lemmas.Bool.{lt-ltb, le-ltb, ne_eqb}
use Rattle.std.proofs.lemmas.List.Elements.{All-from_recursion}
use Rattle.std.proofs.lemmas.List.Splits.{slice_split_none, slice_split_at}
use Rattle.line_protocol.specs.Stream.{line_limit, terminated, HasNoLineFeed, IsLine, IsTooLong, between_feeds, lines_among, lines_of}
use Rattle.line_runs.specs.declared.fault.End.TheVariants.{Whole, TooLong, Cut}
use Rattle.line_runs.specs.RunAnswers.{end_among, end_of}

parts-none : (bytes : List ℕ) → HasNoLineFeed bytes → between_feeds bytes ≡ bytes ∷ []
parts-none bytes h = slice_split_none (λ b. eqb b 10) bytes (All-from_recursion (λ b. eqb b 10 ≡ false) bytes h)

parts-line : (line rest : List ℕ) → HasNoLineFeed line → between_feeds (line ++ 10 ∷ rest) ≡ line ∷ between_feeds rest
parts-line line rest h = slice_split_at (λ b. eqb b 10) line 10 rest (All-from_recursion (λ b. eqb b 10 ≡ false) line h) refl

-- these parts begin with one of at least so many bytes
record BeginsLong (n : ℕ) (parts : List (List ℕ)) : Type 0 where
  first : List ℕ
  others : List (List ℕ)
  is : parts ≡ first ∷ others
  long : n ≤ length first

onto_long : (n b : ℕ) (parts : List (List ℕ)) → BeginsLong n parts → BeginsLong (suc n) (onto_first b parts)
onto_long n b parts h = record { first = b ∷ h.first; others = h.others; is = ap (onto_first b) h.is; long = let long = h.long in omega arith }

some_parts : (bytes : List ℕ) → BeginsLong 0 (between_feeds bytes)
some_parts [] = record { first = []; others = []; is = refl; long = omega arith }
some_parts (b ∷ bytes) = go (eqb b 10) (some_parts bytes)
  where
    go : (feed : Bool) → BeginsLong 0 (between_feeds bytes) → BeginsLong 0 (cond feed ([] ∷ between_feeds bytes) (onto_first b (between_feeds bytes)))
    go true h = record { first = []; others = between_feeds bytes; is = refl; long = omega arith }
    go false h = let k = onto_long 0 b (between_feeds bytes) h in record { first = k.first; others = k.others; is = k.is; long = omega arith }

long_parts : (n : ℕ) (bytes : List ℕ) → HasNoLineFeed (take n bytes) → n ≤ length bytes → BeginsLong n (between_feeds bytes)
long_parts zero bytes h le = some_parts bytes
long_parts (suc n) [] h le = absurd (omega arith)
long_parts (suc n) (b ∷ bytes) h le = rw h.0 (onto_long n b (between_feeds bytes) (long_parts n bytes h.1 (omega arith)))

-- ---- how the lines go on after each beginning

lines_among-line : (line : List ℕ) (parts : List (List ℕ)) → length line < line_limit → BeginsLong 0 parts → (lines_among (line ∷ parts) ≡ line ∷ lines_among parts) × (end_among (line ∷ parts) ≡ end_among parts)
lines_among-line line parts short h = rw h.is (rw (lt-ltb (length line) line_limit short) (refl, refl))

pub lines_of-line : (line rest : List ℕ) → IsLine line → (lines_of (terminated line ++ rest) ≡ line ∷ lines_of rest) × (end_of (terminated line ++ rest) ≡ end_of rest)
unfolding lines_of end_of
lines_of-line line rest h =
    let e : between_feeds (terminated line ++ rest) ≡ line ∷ between_feeds rest = ap between_feeds (append_assoc line (10 ∷ []) rest) ∙ parts-line line rest h.one in
    rw e (lines_among-line line (between_feeds rest) h.short (some_parts rest))

pub lines_of-none : (bytes : List ℕ) → HasNoLineFeed bytes → lines_of bytes ≡ []
unfolding lines_of
lines_of-none bytes h = rw (parts-none bytes h) refl

long_among : (first : List ℕ) (others : List (List ℕ)) → line_limit ≤ length first → (lines_among (first ∷ others) ≡ []) × (end_among (first ∷ others) ≡ TooLong)
long_among first [] long = rw (ne_eqb (length first) 0 (λ e. omega (arith, e)), le-ltb (length first) line_limit long) (refl, refl)
long_among first (second ∷ others) long = rw (le-ltb (length first) line_limit long) (refl, refl)

pub lines_of-too_long : (bytes : List ℕ) → IsTooLong bytes → (lines_of bytes ≡ []) × (end_of bytes ≡ TooLong)
unfolding lines_of end_of
lines_of-too_long bytes h =
    let l = long_parts line_limit bytes h.endless h.long in
    rw l.is (long_among l.first l.others l.long)

pub end_of-nil : end_of [] ≡ Whole
unfolding end_of
end_of-nil = refl

pub end_of-cut : (bytes : List ℕ) → HasNoLineFeed bytes → bytes ≢ [] → length bytes < line_limit → end_of bytes ≡ Cut
unfolding end_of
end_of-cut [] h some short = absurd (some refl)
end_of-cut (b ∷ bytes) h some short =
    rw (parts-none (b ∷ bytes) h, ne_eqb (length (b ∷ bytes)) 0 (λ e. omega (arith, e)), lt-ltb (length (b ∷ bytes)) line_limit short) refl
