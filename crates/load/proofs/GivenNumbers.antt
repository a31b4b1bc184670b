-- The numbers of epochs that count up.
use Rattle.std.proofs.Common.{◌≡◌, ◌+◌, ◌<◌, ℕ, List, length, get_or, sym, arith, ◌∙◌}
use Rattle.std.specs.List.{range_with_len}
use Rattle.std.proofs.lemmas.List.{ext_get_or}
use Rattle.std.proofs.lemmas.List.FromFn.{get_or-range_with_len, length-range_with_len}

-- so many numbers, each the one after its place, are those from 1 on
pub counted : (numbers : List ℕ) (many : ℕ) → length numbers ≡ many → ((i : ℕ) → i < length numbers → get_or numbers i 0 ≡ i + 1) → numbers ≡ range_with_len 1 many
counted numbers many long each =
    ext_get_or 0 numbers (range_with_len 1 many) (long ∙ sym (length-range_with_len 1 many))
    (λ i within. let one : get_or (range_with_len 1 many) i 0 ≡ 1 + i = get_or-range_with_len 1 many i 0 (omega (arith, within, long)) in omega (arith, each i within, one))
