-- What is left of v after n counts: the counting element after n steps, and different for different n below the modulus. Assumes nothing.
use Prim.Native.Nat.{ℕ, ◌+◌, ◌/◌, ◌%◌, ◌<◌}
use mathlib.Core.Bool.{Bool, true, false, false≢true}
use mathlib.Core.Path.{◌≡◌, refl, sym, ap, ◌∙◌}
use native.Mathlib.Omega.{arith}
use Rattle.numbers.specs.Modulo.{minus_mod}
use Rattle.numbers.specs.Digits.{GoodDigits, weight, packed}
use Rattle.numbers.specs.Times.{times}
use Rattle.numbers.specs.Radix.{radix_counts}
use Rattle.numbers.proofs.Modulo.{below, again, apart}
use Rattle.numbers.proofs.Digits.{weight-packed, packed-below, good-packed}
use Rattle.count.specs.Step.{step_in}
use Rattle.count.proofs.Repeated.{binary-times, decimal-times}
use Rattle.refusal.specs.Reply.{Reply, accepted}
use Rattle.latch.specs.declared.label.Label.{Label}
use Rattle.board.specs.declared.PortRead.{PortRead}
use Rattle.board.specs.Outcome.{Value, byte}
use Rattle.reading.specs.Spelling.{remaining, Says, Gives, Spells}

pub steps-left : (bcd : Bool) (n v : ℕ) → v < 65536 → (bcd ≡ true → GoodDigits v) → times n (step_in bcd) v ≡ remaining bcd v n
steps-left false n v h good = binary-times n v h
steps-left true n v h good = decimal-times n v h (good refl)

-- what is left is a count in the same radix, and from it k more counts leave what n + k leave
pub left_below : (bcd : Bool) (v n : ℕ) → remaining bcd v n < 65536
left_below false v n = below 65536 v n (omega arith)
left_below true v n = packed-below (minus_mod 10000 (weight v) n)

pub left-good : (bcd : Bool) (v n : ℕ) → bcd ≡ true → GoodDigits (remaining bcd v n)
left-good false v n is = absurd (false≢true is)
left-good true v n is = good-packed (minus_mod 10000 (weight v) n)

pub left-again : (bcd : Bool) (v n k : ℕ) → remaining bcd (remaining bcd v n) k ≡ remaining bcd v (n + k)
left-again false v n k = again 65536 v n k (omega arith)
left-again true v n k =
    rw (weight-packed (minus_mod 10000 (weight v) n) (below 10000 (weight v) n (omega arith)))
    (ap packed (again 10000 (weight v) n k (omega arith)))

pub left-apart : (bcd : Bool) (v n k : ℕ) → n < radix_counts bcd → k < radix_counts bcd → remaining bcd v n ≡ remaining bcd v k → n ≡ k
left-apart false v n k hn hk e = apart 65536 v n k hn hk e
left-apart true v n k hn hk e =
    apart 10000 (weight v) n k hn hk
    (sym (weight-packed (minus_mod 10000 (weight v) n) (below 10000 (weight v) n (omega arith)))
    ∙ ap weight e
    ∙ weight-packed (minus_mod 10000 (weight v) k) (below 10000 (weight v) k (omega arith)))

-- two reads that answer the same gave the same byte and said the same of it
pub same_read : (r s : PortRead) → ◌≡◌ {A = Reply Value} (accepted (byte r)) (accepted (byte s)) → r ≡ s
same_read r s e = cc

same_byte : (x y : ℕ) (l m : Label) (reply : Reply Value) → Says x l reply → Says y m reply → x ≡ y
same_byte x y l m reply p q = ap (λ (r : PortRead). r.byte) (same_read _ _ (sym p ∙ q))

-- two bytes spell one word
pub spelled-once : (w u : ℕ) (first second third fourth : Reply Value) → Spells w first second → Spells u third fourth
    → (x y : ℕ) → Gives x first → Gives y second → Gives x third → Gives y fourth → w ≡ u
spelled-once w u first second third fourth p q x y low high low' high' =
    let w-low : w % 256 ≡ x = same_byte _ _ _ _ first p.0 low.1 in
    let w-high : w / 256 ≡ y = same_byte _ _ _ _ second p.1 high.1 in
    let u-low : u % 256 ≡ x = same_byte _ _ _ _ third q.0 low'.1 in
    let u-high : u / 256 ≡ y = same_byte _ _ _ _ fourth q.1 high'.1 in
    omega arith
