-- The numbers of slots and states give these back. No public clause cites this module.
use Rattle.std.specs.Prelude.{◌≡◌, ℕ, zero, suc, ◌%◌, ◌/◌, ◌==◌, Bool, true, false, if◌then◌else◌, refl}
use Rattle.std.proofs.Common.{arith}
use Rattle.std.proofs.Math.Nat.{div-add-mod}
use Rattle.std.proofs.lemmas.Bool.{eqb-true, eqb-false}
use Rattle.version_arena.specs.CellState.{Free, Live}
use Rattle.version_arena.specs.Numbers.{slot_of, number_of, state_of, code_of}

pub number_of-slot_of : (number : ℕ) → number_of (slot_of number) ≡ number
number_of-slot_of zero = refl
number_of-slot_of (suc slot) = refl

pub code_of-state_of : (code : ℕ) → code_of (state_of code) ≡ code
code_of-state_of code = by (code % 2 == 1) refl
  where
    by : (odd : Bool) → (code % 2 == 1) ≡ odd → code_of (if odd then Live (slot_of (code / 2)) else Free (slot_of (code / 2))) ≡ code
    by true is = omega (arith, eqb-true (code % 2) 1 is, number_of-slot_of (code / 2), div-add-mod code 2)
    by false is = omega (arith, eqb-false (code % 2) 1 is, number_of-slot_of (code / 2), div-add-mod code 2)
