-- A text put at the front of lent bytes that have the room it asks for. Assumes nothing.
use Prim.Native.Nat.{ℕ, ◌≤◌}
use mathlib.Core.List.{List}
use mathlib.Core.Path.{◌≡◌}
use native.Mathlib.Omega.{arith}
use lib.ListN.{length}
use Rattle.text.proofs.Puts.{wrote}
use Rattle.std.specs.Prelude.{Ok}
use Rattle.runner.specs.Lent.{in_room, replayed}
use Rattle.runner.specs.Inner.{Puts}
use Rattle.runner.proofs.Whole.{prints}
use Rattle.runner.proofs.Lent.{in-room}

pub front : (text : List ℕ) (room : ℕ) (bytes : List ℕ) (n : ℕ) (after : List ℕ) → Puts text room bytes 0 n after → room ≤ length bytes
    → replayed (Ok n) after ≡ in_room room text bytes
front text room bytes n after p h = in-room room text bytes n after h (prints (wrote text bytes 0 n after p.told) (omega (arith, p.short, h)))
