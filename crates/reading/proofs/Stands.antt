-- A record whose counting element stands at e in a radix: counts take from it, and neither a latch nor a read touches it. Assumes nothing.
use Prim.Native.Nat.{ℕ, ◌<◌}
use mathlib.Core.Bool.{Bool, true}
use mathlib.Core.Path.{◌≡◌, ap, ◌∙◌}
use Rattle.numbers.specs.Digits.{GoodDigits}
use Rattle.channel.specs.declared.Channel.{Channel}
use Rattle.channel.specs.declared.ControlWord.{ControlWord}
use Rattle.channel.specs.declared.Counter.{Counter}
use Rattle.latch.specs.Latching.{latch_count}
use Rattle.latch.specs.Reading.{read_byte}
use Rattle.latch.proofs.Words.{read-control, read-counter}
use Rattle.reading.specs.Spelling.{remaining}
use Rattle.reading.proofs.Counted.{Counted}
use Rattle.reading.proofs.Spelling.{steps-left}

pub record Stands (bcd : Bool) (e : ℕ) (c : Channel) : Type 0 where
  pub in-radix : c.control.bcd_mode ≡ bcd
  pub at : c.counter.counting_element ≡ e

pub counted-stands : {A : Type 0} (k : ℕ) {c d : Channel} {bcd : Bool} {e : ℕ} → e < 65536 → (bcd ≡ true → GoodDigits e) → Counted A k c d → A
    → Stands bcd e c
    → Stands bcd (remaining bcd e k) d
counted-stands k {c} {d} {bcd} {e} h good p unloaded s =
    record {
      in-radix = ap (λ (w : ControlWord). w.bcd_mode) p.undisturbed.same-control ∙ s.in-radix;
      at = p.stepped unloaded ∙ rw (s.in-radix, s.at) (steps-left bcd k e h good);
    }

pub latch-stands : {c : Channel} {bcd : Bool} {e : ℕ} → Stands bcd e c → Stands bcd e (latch_count c)
unfolding latch_count
latch-stands s = record { in-radix = s.in-radix; at = s.at }

pub read-stands : (c : Channel) {bcd : Bool} {e : ℕ} → Stands bcd e c → Stands bcd e (read_byte c).channel
read-stands c s =
    record {
      in-radix = ap (λ (w : ControlWord). w.bcd_mode) (read-control c) ∙ s.in-radix;
      at = ap (λ (k : Counter). k.counting_element) (read-counter c) ∙ s.at;
    }
