-- The bytes at a place, written one after the other. Assumes nothing.
use Prim.Native.Nat.{ℕ, zero, suc, ◌+◌, ◌≤◌, ◌<◌}
use mathlib.Core.Path.{◌≡◌, refl}
use mathlib.Core.List.{List, [], ◌∷◌}
use native.Mathlib.Omega.{arith}
use lib.ListN.{length, get_or, take, drop}
use lib.Seq.{drop-cons}
use Rattle.numbers.specs.Little.{four_bytes}
use Rattle.numbers.specs.Number.{number_at}
use Rattle.numbers.proofs.Little.{four-of}

abbrev pub spelled : List ℕ → ℕ → ℕ → List ℕ
spelled bytes place zero = []
spelled bytes place (suc n) = get_or bytes place 0 ∷ spelled bytes (suc place) n

pub spelled-part : (bytes : List ℕ) (place n : ℕ) → place + n ≤ length bytes → spelled bytes place n ≡ take n (drop place bytes)
spelled-part bytes place zero room = refl
spelled-part bytes place (suc n) room =
    rw (drop-cons bytes place 0 (omega arith)) (rw (spelled-part bytes (suc place) n (omega arith)))

pub four : (bytes : List ℕ) (p : ℕ) → get_or bytes p 0 < 256 → get_or bytes (p + 1) 0 < 256 → get_or bytes (p + 2) 0 < 256 → get_or bytes (p + 2 + 1) 0 < 256
    → four_bytes (number_at bytes p) ≡ get_or bytes p 0 ∷ get_or bytes (p + 1) 0 ∷ get_or bytes (p + 2) 0 ∷ get_or bytes (p + 2 + 1) 0 ∷ []
unfolding number_at
four bytes p = four-of _ _ _ _
