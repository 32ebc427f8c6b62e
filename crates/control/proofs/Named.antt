-- A command names one of the three channels. Assumes nothing.
use Prim.Native.Nat.{ℕ, zero, suc, ◌*◌, ◌%◌, ◌<◌}
use mathlib.Core.Bool.{Bool, true, false, cond}
use mathlib.Core.Path.{◌≡◌, refl, subst}
use native.Mathlib.Omega.{arith}
use lib.Dec.{eqb}
use borrow.Author.Tests.{eqb-false}
use Rattle.channel.specs.declared.PitType.{PitType}
use Rattle.channel.specs.declared.PitType.TheVariants.{Model8253, Model8254}
use Rattle.control.specs.declared.Command.{Command}
use Rattle.control.specs.declared.Command.TheVariants.{Nothing, LatchCount, SetMode, ReadBack}
use Rattle.control.specs.Control.{channel_bits, access_bits, control_word, read_back_of, channel_three, command_of}

-- the channel that a command names, if it names one, is on the board
abbrev pub OnBoard : Command → Type 0
OnBoard Nothing = Unit
OnBoard (LatchCount n) = n < 3
OnBoard (SetMode n word) = n < 3
OnBoard (ReadBack word) = Unit

three-named : (odd : Bool) (byte : ℕ) → OnBoard (cond odd Nothing (ReadBack (read_back_of byte)))
three-named true byte = tt
three-named false byte = tt

by-model : (model : PitType) (byte : ℕ) → OnBoard (channel_three model byte)
by-model Model8253 byte = tt
by-model Model8254 byte = three-named (eqb (byte % 2) 1) byte

by_tests : (model : PitType) (byte : ℕ) → byte < 256 → (three latch : Bool) → eqb (channel_bits byte) 3 ≡ three
    → OnBoard (cond three (channel_three model byte) (cond latch (LatchCount (channel_bits byte)) (SetMode (channel_bits byte) (control_word byte))))
by_tests model byte h true latch e = by-model model byte
by_tests model byte h false true e = let n : channel_bits byte ≡ 3 → ⊥ = eqb-false _ _ e in omega arith
by_tests model byte h false false e = let n : channel_bits byte ≡ 3 → ⊥ = eqb-false _ _ e in omega arith

-- for the command that a byte was found to be
pub named-below : (model : PitType) (byte : ℕ) → byte < 256 → (command : Command) → command_of model byte ≡ command → OnBoard command
unfolding command_of
named-below model byte h command e =
    subst OnBoard e (by_tests model byte h (eqb (channel_bits byte) 3) (eqb (access_bits byte) 0) refl)

-- the plain latch command of each channel
pub latch-byte : (model : PitType) (n : ℕ) → n < 3 → command_of model (n * 64) ≡ LatchCount n
unfolding command_of
latch-byte model zero on = refl
latch-byte model (suc zero) on = refl
latch-byte model (suc (suc zero)) on = refl
latch-byte model (suc (suc (suc n))) on = absurd (omega arith)
