-- N1 and N2: document 01's step is the sheet's, in binary from every start, in BCD from four decimal digits, of which alone the sheets
-- speak. Assumes nothing.
use Prim.Native.Nat.{ℕ, zero, suc, ◌<◌}
use mathlib.Core.Path.{◌≡◌, refl}
use native.Mathlib.Omega.{arith}
use Rattle.numbers.specs.Digits.{GoodDigits}
use Rattle.count.specs.Step.{binary_step, decimal_step}
use Rattle.count.proofs.Weight.{decimal-one}
use Rattle.sheet.specs.Counting.{binary_next, decimal_next}

pub binary-agrees : (e : ℕ) → e < 65536 → binary_step e ≡ binary_next e
binary-agrees zero h = refl
binary-agrees (suc e) h = omega arith

pub decimal-agrees : (e : ℕ) → e < 65536 → GoodDigits e → decimal_step e ≡ decimal_next e
decimal-agrees e h g = decimal-one e h g
