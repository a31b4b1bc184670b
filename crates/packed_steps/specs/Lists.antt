-- How lists are packed, and what is read of them.
use Rattle.std.specs.Prelude.{ℕ, zero, suc, List, [], ◌∷◌, ◌++◌, length, Option, Some}
use Rattle.std.specs.List.{flat_map}
use Rattle.packed.specs.Packing.{packed_number}
use Rattle.packed.specs.Reading.{◌>>=◌}

-- the count, and each of them
abbrev pub packed_list : {X : Type 0} → (X → List ℕ) → List X → List ℕ
packed_list packed xs = packed_number (length xs) ++ flat_map packed xs

-- so many of them, each as it is read
unfoldable pub many_at : {X : Type 0} → (List ℕ → Option (X × List ℕ)) → ℕ → List ℕ → Option (List X × List ℕ)
many_at read zero bytes = Some ([], bytes)
many_at read (suc n) bytes = do
  one ← read bytes
  more ← many_at read n one.1
  Some (one.0 ∷ more.0, more.1)
