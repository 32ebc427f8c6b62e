-- S4: on the 8254 the high half of an even count has the values of the next odd one, and of an odd count, till its last tick, those of the even one below. Numbers alone.
-- Assumes nothing.
use Prim.Native.Nat.{ℕ, suc, ◌-◌, ◌*◌, ◌%◌, ◌<◌}
use mathlib.Core.Bool.{true}
use mathlib.Core.Path.{◌≡◌, sym, ◌∙◌}
use native.Mathlib.Nat.{mod-eq_of_lt}
use native.Mathlib.Omega.{arith}
use borrow.Author.Tests.{ltb-true}
use Rattle.sheet.specs.Ticking.{chip8254, high_ticks, square_high}
use Rattle.agreement.proofs.SquarePlace.{Stands}
use Rattle.agreement.proofs.SquareValue.{half_value, value-even, value-odd}

-- in the high half the tick of the period is the tick of the half
pub high-stands : (n j : ℕ) → j < n → square_high n j ≡ true → Stands n j true j
high-stands n j inside high =
    let same : j % n ≡ j = mod-eq_of_lt inside in
    let below : j % n < high_ticks n = ltb-true (j % n) (high_ticks n) high in
    record { in-period = same; in-half = omega arith }

pub longer-stands : (n j : ℕ) → j < n → square_high n j ≡ true → Stands (suc n) j true j
longer-stands n j inside high =
    let below : j < high_ticks n = (high-stands n j inside high).in-half in
    record { in-period = mod-eq_of_lt (omega arith); in-half = omega arith }

pub shorter-stands : (n j : ℕ) → n % 2 ≡ 1 → suc j < high_ticks n → Stands (n - 1) j true j
shorter-stands n j odd more = record { in-period = mod-eq_of_lt (omega arith); in-half = omega arith }

pub longer-value : (n j : ℕ) → n % 2 ≡ 0 → half_value chip8254 n true j ≡ half_value chip8254 (suc n) true j
longer-value n j even = value-even chip8254 n true j even ∙ (let e : n - 2 * j ≡ suc n - 1 - 2 * j = omega arith in e) ∙ sym (value-odd chip8254 (suc n) true j (omega arith))

pub shorter-value : (n j : ℕ) → n % 2 ≡ 1 → half_value chip8254 n true j ≡ half_value chip8254 (n - 1) true j
shorter-value n j odd = value-odd chip8254 n true j odd ∙ sym (value-even chip8254 (n - 1) true j (omega arith))
