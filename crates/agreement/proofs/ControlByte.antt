-- C1, C2, C3: the command for a control byte is what the sheet reads off its bits. Select 3 is no counter: on the 8253 it is nothing (docs/DIFFERENCES.md, C1), on the 8254 the
-- read-back, whose bits RB1 names. Assumes nothing.
use Prim.Native.Nat.{ℕ, zero, suc, ◌/◌, ◌%◌, ◌<◌}
use mathlib.Core.Path.{◌≡◌, refl, sym, ◌∙◌}
use mathlib.Core.Bool.{Bool, true, false, cond}
use native.Mathlib.Omega.{arith}
use native.Mathlib.Nat.{div-one}
use lib.Dec.{eqb}
use borrow.Author.Tests.{eq-eqb, ne_eqb, eqb-true, eqb-false}
use Rattle.channel.specs.declared.ControlWord.{ControlWord}
use Rattle.channel.specs.declared.RwMode.TheVariants.{Lsb, Msb, LsbMsb}
use Rattle.channel.specs.declared.PitType.{PitType}
use Rattle.channel.specs.declared.PitType.TheVariants.{Model8253, Model8254}
use Rattle.channel.specs.Modes.{mode_number}
use Rattle.control.specs.declared.ReadBackWord.{ReadBackWord}
use Rattle.control.specs.declared.Command.{Command}
use Rattle.control.specs.declared.Command.TheVariants.{Nothing, LatchCount, SetMode, ReadBack}
use Rattle.control.specs.Control.{channel_bits, access_bits, mode_bits, mode_of, read_back_of, names, channel_three, command_of}
use Rattle.sheet.specs.ControlByte as sheet
use Rattle.sheet.specs.ReadBack.{is_read_back, latches_counts, latches_status, names_counter}
use Rattle.numbers.proofs.Below.{equal-below}
use Rattle.agreement.specs.Words.{sheet_access, sheet_request}

-- a command, in the sheet's words, goes by the same tests
by_tests : (k : Command) → sheet_request k ≡ sheet.no_counter → (none latch : Bool) (n : ℕ) (w : ControlWord)
    → sheet_request (cond none k (cond latch (LatchCount n) (SetMode n w)))
    ≡ cond none sheet.no_counter
    (cond latch (sheet.latch_counter n) (sheet.program n (sheet_access w.rw_mode) (mode_number w.mode) w.bcd_mode))
by_tests k three true latch n w = three
by_tests k three false true n w = refl
by_tests k three false false n w = refl

no-counter-in : (odd : Bool) (byte : ℕ) → sheet_request (cond odd Nothing (ReadBack (read_back_of byte))) ≡ sheet.no_counter
no-counter-in true byte = refl
no-counter-in false byte = refl

three-asks : (model : PitType) (byte : ℕ) → sheet_request (channel_three model byte) ≡ sheet.no_counter
three-asks Model8253 byte = refl
three-asks Model8254 byte = no-counter-in (eqb (byte % 2) 1) byte

access-by-tests : (low high : Bool)
    → sheet_access (cond low Lsb (cond high Msb LsbMsb)) ≡ cond low sheet.low_byte (cond high sheet.high_byte sheet.low_then_high)
access-by-tests true high = refl
access-by-tests false true = refl
access-by-tests false false = refl

-- the three mode bits: one test over all eight
mode-agrees : (n : ℕ) → n < 8 → mode_number (mode_of n) ≡ sheet.mode_named (n / 4) (n / 2 % 2) (n % 2)
mode-agrees = equal-below (λ n. mode_number (mode_of n)) (λ n. sheet.mode_named (n / 4) (n / 2 % 2) (n % 2)) 8 tt

select_agrees : (byte : ℕ) → byte < 256 → sheet.select byte ≡ channel_bits byte
select_agrees byte h = omega arith

access-agrees : (byte : ℕ) → sheet.access byte ≡ access_bits byte
access-agrees byte = omega arith

-- the 192 bytes that select a counter, and with `no_counter` for nothing and the read-back the other 64 too
pub control-agrees : (model : PitType) (byte : ℕ) → byte < 256 → sheet_request (command_of model byte) ≡ sheet.request_of byte
unfolding command_of
control-agrees model byte h =
    let n : mode_bits byte < 8 = omega arith in
    let b3 : mode_bits byte / 4 ≡ byte / 8 % 2 = omega arith in
    let b2 : mode_bits byte / 2 % 2 ≡ byte / 4 % 2 = omega arith in
    let b1 : mode_bits byte % 2 ≡ byte / 2 % 2 = omega arith in
    simp (by_tests (channel_three model byte) (three-asks model byte), access-by-tests, mode-agrees (mode_bits byte) n, b3, b2, b1, select_agrees byte h, access-agrees byte, div-one)

-- "On the 8253 all of these still do nothing."
pub no-counter : (byte : ℕ) → byte < 256 → sheet.select byte ≡ 3 → command_of Model8253 byte ≡ Nothing
unfolding command_of
no-counter byte h e = simp (eq-eqb (channel_bits byte) 3 (omega arith))

-- RB1: on the 8254 a byte that the sheet calls a read-back is one, for what its bits ask of the counters that they name; another with select 3 is nothing
module _ (byte : ℕ) (h : byte < 256) (e : sheet.select byte ≡ 3) where
  three-8254 : command_of Model8254 byte ≡ channel_three Model8254 byte
  unfolding command_of
  three-8254 = simp (eq-eqb (channel_bits byte) 3 (omega arith))

  by-bit-0 : is_read_back byte ≡ eqb (sheet.bit 0 byte) 0
  by-bit-0 = simp (eq-eqb (sheet.select byte) 3 e)

  pub read-back-agrees : is_read_back byte ≡ true → (w : ReadBackWord) × (command_of Model8254 byte ≡ ReadBack w)
      × (w.counts ≡ latches_counts byte) × (w.status ≡ latches_status byte)
      × ((n : ℕ) → n < 3 → names w n ≡ names_counter byte n)
  read-back-agrees is =
      let clear : sheet.bit 0 byte ≡ 0 = eqb-true (sheet.bit 0 byte) 0 (sym by-bit-0 ∙ is) in
      let even : byte % 2 ≡ 1 → ⊥ = λ odd. omega (arith, odd) in
      (read_back_of byte, three-8254 ∙ simp (ne_eqb (byte % 2) 1 even), refl, refl, named)
    where
      named : (n : ℕ) → n < 3 → names (read_back_of byte) n ≡ names_counter byte n
      named zero on = refl
      named (suc zero) on = refl
      named (suc (suc zero)) on = refl
      named (suc (suc (suc n))) on = absurd (omega arith)

  pub odd-nothing : is_read_back byte ≡ false → command_of Model8254 byte ≡ Nothing
  odd-nothing isnt =
      let set : sheet.bit 0 byte ≡ 0 → ⊥ = eqb-false (sheet.bit 0 byte) 0 (sym by-bit-0 ∙ isnt) in
      let odd : byte % 2 ≡ 1 = omega (arith, set) in
      three-8254 ∙ simp (eq-eqb (byte % 2) 1 odd)
