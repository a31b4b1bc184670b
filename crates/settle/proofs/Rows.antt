-- Lists of rows.
use Rattle.std.proofs.Common.{◌≡◌, ◌≢◌, ℕ, zero, suc, List, [], ◌∷◌, ◌++◌, inl, inr, set, slice_get, Some, refl, ap, ◌∙◌}
use Rattle.std.specs.Global.{Vec}
use Rattle.std.proofs.lemmas.Option.{slice_get_within}
use Rattle.world.proofs.Results.{after_set}
use Rattle.settle.specs.Standing.{IsPushed}

-- what was set at a place leaves every other one
pub slice_get-others : {X : Type 0} (xs : List X) (place k : ℕ) (x : X) → k ≢ place → slice_get (set xs place x) k ≡ slice_get xs k
slice_get-others [] place k x apart = refl
slice_get-others (y ∷ ys) zero zero x apart = absurd (apart refl)
slice_get-others (y ∷ ys) zero (suc k) x apart = refl
slice_get-others (y ∷ ys) (suc place) zero x apart = refl
slice_get-others (y ∷ ys) (suc place) (suc k) x apart = slice_get-others ys place k x (λ e. apart (ap suc e))

pub pushed : (old : List (Vec ℕ)) (place : ℕ) (before after : Vec ℕ) (more : List ℕ) → slice_get old place ≡ Some before → after.items ≡ before.items ++ more → IsPushed old (set old place after) place more
pushed old place before after more there is = record {
  here = λ rows at. elim (after_set old place after place rows (slice_get_within old place before there) at) [
    | inl h ↦ (before, there, ap (λ (v : Vec ℕ). v.items) h.1 ∙ is)
    | inr h ↦ absurd (h.0 refl)
  ];
  others = λ k apart. slice_get-others old place k after apart;
}
