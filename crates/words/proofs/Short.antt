-- How long the words of a choice are at most. Assumes nothing.
use Prim.Native.Nat.{ℕ, ◌≤◌}
use mathlib.Core.Bool.{Bool, true, false, cond}
use mathlib.Core.List.{List, []}
use native.Mathlib.Omega.{arith}
use lib.ListN.{length}

pub if-short : (said : Bool) (words : List ℕ) → length (cond said words []) ≤ length words
if-short true words = omega arith
if-short false words = omega arith
