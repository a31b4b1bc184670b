-- For `ChainList`. A chain among others that lie packed side by side.
use Rattle.std.proofs.Common.{◌≡◌, ℕ, ◌+◌, ◌-◌, ◌<◌, ◌≤◌, List, [], length, get_or, take, drop, Result, Ok, Err, sym, ◌∙◌, length-take-le, arith}
use Rattle.std.specs.Prelude.{OnOk}
use Rattle.std.proofs.lemmas.List.{length-drop}
use Rattle.packed.specs.Cuts.{IsCut, pieces, start_of}
use Rattle.packed.proofs.Pieces.{ends_within, piece_there}
use Rattle.version_chain.specs.declared.version.Version.{Version}

pub on_ok : {A E : Type 0} {P Q : Type 0} → (P → Q) → (r : Result A E) → OnOk r P → OnOk r Q
on_ok f (Ok x) h = f h
on_ok f (Err e) h = tt

module _ (versions : List Version) (ends : List ℕ) (cut : IsCut 0 ends (length versions)) (at : ℕ) (place : at < length ends)
    (start count : ℕ) (begins : start ≡ start_of 0 ends at) (stops : start + count ≡ get_or ends at 0) where
  pub part_within : start + count ≤ length versions
  part_within = (let fits = ends_within 0 ends (length versions) at cut place in omega (arith, stops, fits))

  pub part_long : length (take count (drop start versions)) ≡ count
  part_long = length-take-le count (drop start versions) (omega (arith, length-drop start versions, part_within))

  pub chain_is : get_or (pieces versions 0 ends) at [] ≡ take count (drop start versions)
  chain_is =
      let many : get_or ends at 0 - start_of 0 ends at ≡ count = omega (arith, begins, stops) in
      piece_there versions 0 ends at place ∙ (λ i. take (many i) (drop (sym begins i) versions))
