-- A step made m + n times is made n times and then m times more. Assumes nothing.
use Prim.Native.Nat.{ℕ, zero, suc, ◌+◌}
use mathlib.Core.Path.{◌≡◌, refl, ap}
use native.Mathlib.Nat.{zero-add, suc-add}
use Rattle.numbers.specs.Times.{times}

pub times-add : {A : Type 0} (m n : ℕ) (f : A → A) (x : A) → times (m + n) f x ≡ times m f (times n f x)
times-add zero n f x = rw (zero-add n) refl
times-add (suc m) n f x = rw (suc-add m n) (ap f (times-add m n f x))
