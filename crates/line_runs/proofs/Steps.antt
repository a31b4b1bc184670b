-- How a run goes on, and how it ends: for `run_lines`, `answer_piece` and `answer_waiting`.
use Rattle.std.proofs.Common.{◌≡◌, ℕ, List, [], ◌∷◌, ◌++◌, take, drop, refl, sym, ap, subst, ◌∙◌, append_assoc, arith}
use Rattle.std.proofs.lemmas.List.{append-nil, take-append-le, take-take, length-append, length-take, take-append-drop}
use Rattle.line_protocol.specs.Stream.{line_limit, terminated, HasNoLineFeed, IsLine, IsTooLong, lines_of}
use Rattle.line_runs.specs.declared.fault.End.{End}
use Rattle.line_runs.specs.RunAnswers.{end_of, Continues, Answers}
use Rattle.line_runs.proofs.Lines.{lines_of-line, lines_of-none, lines_of-too_long}

module _ {S : Type 0} (replies : S → List (List ℕ) → List ℕ → Type 0) where
  pub Continues-refl : (s : S) (stream : List ℕ) → Continues replies s s stream stream []
  Continues-refl s stream = record { replies_to = λ text h. h; ending = refl }

  pub Continues-trans : (a b c : S) (x y z w v : List ℕ) → Continues replies a b x y w → Continues replies b c y z v → Continues replies a c x z (w ++ v)
  Continues-trans a b c x y z w v h k = record {
    replies_to = λ text r. subst (replies a (lines_of x)) (sym (append_assoc w v text)) (h.replies_to (v ++ text) (k.replies_to text r));
    ending = h.ending ∙ k.ending;
  }

  -- a line is answered
  pub Continues-line : (old new : S) (line rest text : List ℕ) → IsLine line
      → ((lines : List (List ℕ)) (others : List ℕ) → replies new lines others → replies old (line ∷ lines) (text ++ others))
      → Continues replies old new (terminated line ++ rest) rest text
  Continues-line old new line rest text is h =
      let e = lines_of-line line rest is in
      record { replies_to = λ others r. subst (λ (ls : List (List ℕ)). replies old ls (text ++ others)) (sym e.0) (h (lines_of rest) others r); ending = e.1 }

  pub Continues-stops : (a b : S) (x y z w : List ℕ) → Continues replies a b x y w → IsTooLong y → IsTooLong z → Continues replies a b x z w
  Continues-stops a b x y z w h k l =
      let p = lines_of-too_long y k in let q = lines_of-too_long z l in
      record { replies_to = λ text r. h.replies_to text (subst (λ (ls : List (List ℕ)). replies b ls text) (q.0 ∙ sym p.0) r); ending = h.ending ∙ p.1 ∙ sym q.1 }

  -- what is left has no line
  pub Answers-done : (first last : S) (stream rest written : List ℕ) (end : End) → ((s : S) → replies s [] []) → Continues replies first last stream rest written → HasNoLineFeed rest → end_of rest ≡ end → Answers replies first stream written end
  Answers-done first last stream rest written end none h open_ended ends = record {
    replies_to = subst (replies first (lines_of stream)) (append-nil written) (h.replies_to [] (subst (λ (ls : List (List ℕ)). replies last ls []) (sym (lines_of-none rest open_ended)) (none last)));
    ending = h.ending ∙ ends;
  }

pub IsTooLong-append : (x more : List ℕ) → IsTooLong x → IsTooLong (x ++ more)
IsTooLong-append x more h = record {
  endless = subst HasNoLineFeed (sym (take-append-le line_limit x more h.long)) h.endless;
  long = let long = h.long in omega (arith, length-append x more);
}

pub IsTooLong-take : (x : List ℕ) → IsTooLong x → IsTooLong (take line_limit x)
IsTooLong-take x h = record {
  endless = subst HasNoLineFeed (sym (take-take line_limit line_limit x (omega arith))) h.endless;
  long = let long = h.long in omega (arith, length-take line_limit x);
}

-- a piece is fed in two parts
pub fed_on : (lines fed piece more : List ℕ) (n : ℕ) → fed ≡ lines ++ take n piece → fed ++ (drop n piece ++ more) ≡ lines ++ (piece ++ more)
fed_on lines fed piece more n h =
    ap (λ (f : List ℕ). f ++ (drop n piece ++ more)) h ∙ append_assoc lines (take n piece) (drop n piece ++ more)
    ∙ ap (λ (t : List ℕ). lines ++ t) (sym (append_assoc (take n piece) (drop n piece) more) ∙ ap (λ (t : List ℕ). t ++ more) (take-append-drop n piece))
