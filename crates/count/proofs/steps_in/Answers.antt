-- What `wrapping_sub` leaves is one number, and that many steps come to it.
use Rattle.std.proofs.Common.{◌≡◌, ℕ, ◌<◌, sym, ◌∙◌, arith}
use Rattle.numbers.specs.Modulo.{minus_mod}
use Rattle.numbers.specs.Times.{times}
use Rattle.count.specs.Step.{binary_step}
use Rattle.count.proofs.Repeated.{binary-times}
use Rattle.count.proofs.steps_in.Goals as goal

stepped : (n e r : ℕ) → e < 65536 → r ≡ minus_mod 65536 e n → r ≡ times n binary_step e
stepped n e r h is = is ∙ sym (binary-times n e h)

pub returns-else-bcd : goal.returns-else-bcd
returns-else-bcd c = simp c.if-bcd.false (stepped c.args.number c.args.element _ (omega arith) (omega arith))
