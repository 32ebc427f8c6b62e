-- What is in a status byte: each part keeps to its bits, so that no byte is 0, and bit 6 is the null-count mark. Assumes nothing.
use Prim.Native.Nat.{ℕ, ◌+◌, ◌*◌, ◌/◌, ◌%◌, ◌≤◌}
use mathlib.Core.Bool.{Bool, true, false}
use mathlib.Core.Path.{◌≡◌, refl, sym, ◌∙◌}
use native.Mathlib.Omega.{arith}
use borrow.Author.Tests.{ne_eqb}
use lib.Dec.{eqb}
use Rattle.numbers.specs.Flags.{flag_number}
use Rattle.channel.specs.declared.Channel.{Channel}
use Rattle.channel.specs.declared.ChannelMode.{ChannelMode}
use Rattle.channel.specs.declared.RwMode.{RwMode}
use Rattle.channel.specs.declared.RwMode.TheVariants.{Lsb, Msb, LsbMsb}
use Rattle.channel.specs.Modes.{mode_number}
use Rattle.channel.proofs.Modes.{every-mode}
use Rattle.latch.specs.Status.{access_number, status_byte}

pub flag-below : (b : Bool) → flag_number b ≤ 1
flag-below true = omega arith
flag-below false = omega arith

pub access-from : (a : RwMode) → (1 ≤ access_number a) × (access_number a ≤ 3)
access-from Lsb = (omega arith, omega arith)
access-from Msb = (omega arith, omega arith)
access-from LsbMsb = (omega arith, omega arith)

pub mode-below : (m : ChannelMode) → mode_number m ≤ 5
mode-below =
    every-mode (λ (m : ChannelMode). mode_number m ≤ 5) (omega arith) (omega arith) (omega arith) (omega arith) (omega arith) (omega arith)

module _ (c : Channel) where
  pub status-from : 1 ≤ status_byte c
  unfolding status_byte
  status-from = let a = (access-from c.control.rw_mode).0 in omega arith

  -- a held status is held: its byte is none that stands for no status
  pub status-never-0 : eqb (status_byte c) 0 ≡ false
  status-never-0 = let h = status-from in ne_eqb _ _ (λ (e : status_byte c ≡ 0). omega arith)

-- bit 6 is the null-count mark
six-in : (o n a m b : ℕ) → o ≤ 1 → n ≤ 1 → a ≤ 3 → m ≤ 5 → b ≤ 1 → (o * 128 + n * 64 + a * 16 + m * 2 + b) / 64 % 2 ≡ n
six-in o n a m b o1 n1 a3 m5 b1 = omega arith

null-bit : (c : Channel) → status_byte c / 64 % 2 ≡ flag_number c.status.null_count
unfolding status_byte
null-bit c =
    six-in (flag_number c.pins.output) (flag_number c.status.null_count) (access_number c.control.rw_mode) (mode_number c.control.mode)
    (flag_number c.control.bcd_mode) (flag-below c.pins.output) (flag-below c.status.null_count) (access-from c.control.rw_mode).1
    (mode-below c.control.mode) (flag-below c.control.bcd_mode)

unmarked : (b : Bool) → flag_number b ≡ 0 → b ≡ false
unmarked true e = absurd (omega arith)
unmarked false e = refl

pub null-shown : (c : Channel) → status_byte c / 64 % 2 ≡ 0 → c.status.null_count ≡ false
null-shown c e = unmarked c.status.null_count (sym (null-bit c) ∙ e)
