-- Texts are gathered, and written together: for `run_lines`, `answer_piece` and `answer_waiting`.
use Rattle.std.proofs.Common.{◌≡◌, ℕ, List, [], ◌++◌, Option, sym, ap, ◌∙◌, append_assoc, subst}
use Rattle.std.specs.Io.KnownBytes.{Appends}
use Rattle.std.proofs.KnownBytes.{Appends-nil, Appends-trans}
use Rattle.std.proofs.lemmas.List.{append-nil}
use Rattle.line_runs.specs.RunAnswers.{Gathers}

pub Gathers-none : (writer : Option (List ℕ)) (before : List ℕ) → Gathers writer writer before before []
Gathers-none writer before = record { written = []; appends = Appends-nil writer; whole = append-nil before }

-- a text is gathered, and nothing is written
pub Gathers-text : (writer : Option (List ℕ)) (before after text : List ℕ) → after ≡ before ++ text → Gathers writer writer before after text
Gathers-text writer before after text is = record { written = []; appends = Appends-nil writer; whole = sym is }

-- all is written
pub Gathers-written : (old new : Option (List ℕ)) (before full after text : List ℕ) → full ≡ before ++ text → Appends old new full → after ≡ [] → Gathers old new before after text
Gathers-written old new before full after text is adds none =
    record { written = full; appends = adds; whole = sym is ∙ sym (append-nil full) ∙ ap (λ (x : List ℕ). full ++ x) (sym none) }

pub Gathers-trans : (a b c : Option (List ℕ)) (x y z s t : List ℕ) → Gathers a b x y s → Gathers b c y z t → Gathers a c x z (s ++ t)
Gathers-trans a b c x y z s t h k = record {
  written = h.written ++ k.written;
  appends = Appends-trans a b c h.written k.written h.appends k.appends;
  whole = sym (append_assoc x s t) ∙ ap (λ (l : List ℕ). l ++ t) h.whole ∙ append_assoc h.written y t
      ∙ ap (λ (l : List ℕ). h.written ++ l) k.whole ∙ sym (append_assoc h.written k.written z);
}

-- what is gathered is written, and more after it
pub Gathers-end : (a b c : Option (List ℕ)) (gathered text more : List ℕ) → Gathers a b [] gathered text → Appends b c (gathered ++ more) → Appends a c (text ++ more)
Gathers-end a b c gathered text more h adds =
    let same : h.written ++ (gathered ++ more) ≡ text ++ more = sym (append_assoc h.written gathered more) ∙ ap (λ (l : List ℕ). l ++ more) (sym h.whole) in
    subst (Appends a c) same (Appends-trans a b c h.written (gathered ++ more) h.appends adds)

-- what is gathered is written
pub Gathers-flush : (a b c : Option (List ℕ)) (gathered text : List ℕ) → Gathers a b [] gathered text → Appends b c gathered → Appends a c text
Gathers-flush a b c gathered text h adds =
    subst (Appends a c) (append-nil text) (Gathers-end a b c gathered text [] h (subst (Appends b c) (sym (append-nil gathered)) adds))
