-- Subtraction that goes round, for every modulus m above 0. `minus_mod m v n` is the one number below m that n more bring back to v, mod m.
-- To take none changes nothing, to take n and then k is to take n + k, and different counts below m never read alike. Assumes nothing.
use Prim.Native.Nat.{ℕ, ◌+◌, ◌-◌, ◌%◌, ◌<◌}
use mathlib.Core.Path.{◌≡◌, sym, ◌∙◌}
use native.Mathlib.Nat.{add_comm, sub-zero, zero-mod, mod-lt, mod-eq_of_lt, mod-add-mod, add-mod-mod, add-mod_right}
use native.Mathlib.Omega.{arith}
use Rattle.numbers.specs.Modulo.{minus_mod}

-- what `minus_mod` adds to take n off, and n itself, come to m: the law that `back` and `undo` share
cancel : (m v n : ℕ) → 0 < m → (v + (m - n % m) + n) % m ≡ v % m
cancel m v n pos =
    let l : n % m < m = mod-lt n pos in
    let s : v + (m - n % m) + n % m ≡ v + m = omega arith in
    rw (← add-mod-mod (v + (m - n % m)) n m, s) (add-mod_right v m)

pub below : (m v n : ℕ) → 0 < m → minus_mod m v n < m
below m v n pos = mod-lt _ pos

pub back : (m v n : ℕ) → 0 < m → (minus_mod m v n + n) % m ≡ v % m
back m v n pos = rw mod-add-mod (cancel m v n pos)

-- n more and n taken off leave a number below m as it was
undo : (m x n : ℕ) → x < m → minus_mod m ((x + n) % m) n ≡ x
undo m x n h =
    let s : x + n + (m - n % m) ≡ x + (m - n % m) + n = omega arith in
    rw (mod-add-mod, s, cancel m x n (omega arith)) (mod-eq_of_lt h)

-- so `below` and `back` leave one number
pub only : (m x y n : ℕ) → x < m → y < m → (x + n) % m ≡ (y + n) % m → x ≡ y
only m x y n hx hy e = rw e at (sym (undo m x n hx)) ∙ undo m y n hy

pub none : (m v : ℕ) → v < m → minus_mod m v 0 ≡ v
none m v h = simp (zero-mod, sub-zero, add-mod_right) (mod-eq_of_lt h)

-- k more and then n more bring the left side back to v, and `only` does the rest
pub again : (m v n k : ℕ) → 0 < m → minus_mod m (minus_mod m v n) k ≡ minus_mod m v (n + k)
again m v n k pos =
    let x : ℕ = minus_mod m v n in
    let y : ℕ = minus_mod m x k in
    let s : y + (n + k) ≡ y + k + n = omega arith in
    let b : (y + (n + k)) % m ≡ v % m = rw (s, ← mod-add-mod (y + k) m n, back m x k pos, mod-add-mod x m n) (back m v n pos) in
    only m y (minus_mod m v (n + k)) (n + k) (below m x k pos) (below m v (n + k) pos) (b ∙ sym (back m v (n + k) pos))

-- n and k bring one number back to v, so `only` makes them one
pub apart : (m v n k : ℕ) → n < m → k < m → minus_mod m v n ≡ minus_mod m v k → n ≡ k
apart m v n k hn hk e =
    let x : ℕ = minus_mod m v n in
    let pos : 0 < m = omega arith in
    let b : (x + k) % m ≡ v % m = rw e (back m v k pos) in
    only m n k x hn hk (rw (add_comm n x, add_comm k x) (back m v n pos ∙ sym b))
