-- What the bytes that are held say of the end of the stream: for `end_of` and `run_lines`.
use Rattle.std.proofs.Common.{◌≡◌, ℕ, List, [], ◌∷◌, Result, Ok, Err, refl, ap, subst, ◌∙◌, inl, inr}
use Rattle.std.specs.Prelude.{IfOk}
use Rattle.plain_store.specs.declared.refusal.Refusal.{Refusal}
use Rattle.plain_store.specs.declared.refusal.Refusal.TheVariants.{LineTooLong, Cut as CutOff}
use Rattle.line_protocol.specs.Stream.{terminated, HasNoLineFeed, IsTooLong}
use Rattle.line_protocol.specs.Held.{EndsAs}
use Rattle.line_runs.specs.declared.fault.End.{End}
use Rattle.line_runs.specs.declared.fault.End.TheVariants.{Whole, TooLong, Cut}
use Rattle.line_runs.specs.RunAnswers.{end_of}
use Rattle.line_runs.proofs.Lines.{end_of-nil, end_of-cut, lines_of-too_long}

not_terminated : (line : List ℕ) → HasNoLineFeed (terminated line) → ⊥
not_terminated [] h = let e = h.0 in cc
not_terminated (b ∷ line) h = not_terminated line h.1

pub ends_whole : (held : List ℕ) (done : Unit {0}) → HasNoLineFeed held → EndsAs held (Ok done) → end_of held ≡ Whole
ends_whole held done none (inl h) = ap end_of h ∙ end_of-nil
ends_whole held done none (inr h) = absurd (not_terminated h.0 (subst HasNoLineFeed h.2 none))

pub ends_too_long : (held : List ℕ) → IsTooLong held → end_of held ≡ TooLong
ends_too_long held h = (lines_of-too_long held h).1

pub ends_cut : (held : List ℕ) (e : Refusal) → (e ≡ LineTooLong → ⊥) → EndsAs held (Err e) → end_of held ≡ Cut
ends_cut held CutOff not h = end_of-cut held h.0 h.1 h.2
ends_cut held LineTooLong not h = absurd (not refl)
ends_cut held e not h = absurd h

pub IfOk_both : {E : Type 0} (r : Result End E) (P Q R : End → Type 0) → IfOk r P → IfOk r Q → ((end : End) → P end → Q end → R end) → IfOk r R
IfOk_both (Ok end) P Q R p q f = f end p q
IfOk_both (Err e) P Q R p q f = tt
