-- Many counts at once, digit by digit, are as many single counts, from any four digits. One count more reaches each digit or does not, and one law
-- says what it then does to a digit that lent. Assumes nothing.
use Rattle.std.proofs.Common.{◌≡◌, ℕ, zero, suc, ◌+◌, ◌-◌, ◌/◌, ◌%◌, ◌<◌, ◌≤◌, Bool, true, false, cond, ◌&&◌, eqb, ltb, refl, ap, ◌∙◌, arith, ltb-false, ltb-true, le-ltb, lt-ltb, eqb-true}
use native.Mathlib.Nat.{sub-zero}
use borrow.Author.Tests.{eqb-false}
use Rattle.numbers.specs.Times.{times}
use Rattle.numbers.proofs.Digits.{whole}
use Rattle.count.specs.declared.digits.Digits.{Digits}
use Rattle.count.specs.Step.{decimal_step}
use Rattle.count.specs.Borrow.{digits_of, element_of, after_borrow, one_less}
use Rattle.count.specs.Lending.{left_of, borrows_of, by_tens, by_hundreds, by_thousands, many_less}
use Rattle.count.specs.ManyCounts.{SameLess, SameCounts}
use Rattle.count.specs.Inner.{FourBits}
use Rattle.count.proofs.Borrow.{of-bits, less-bits}
use Rattle.count.proofs.StepByRows.{less-element}

-- what a digit has and what it is asked for
few : (d n : ℕ) → n ≤ d → (left_of d n ≡ d - n) × (borrows_of d n ≡ 0)
few d n h = (simp (le-ltb _ _ h), simp (le-ltb _ _ h))

many : (d n : ℕ) → d < n → (left_of d n ≡ 9 - (n - d - 1) % 10) × (borrows_of d n ≡ 1 + (n - d - 1) / 10)
many d n h = (simp (lt-ltb _ _ h), simp (lt-ltb _ _ h))

-- beyond the first borrow: one more, where a ten is full and where it is not
ten-over : (m : ℕ) → m % 10 ≡ 9 → (9 - suc m % 10 ≡ 9) × (1 + suc m / 10 ≡ suc (1 + m / 10))
ten-over m last = (omega arith, omega arith)

within-ten : (m : ℕ) → m % 10 < 9 → (9 - suc m % 10 ≡ 9 - m % 10 - 1) × (1 + suc m / 10 ≡ 1 + m / 10)
within-ten m not_last = (omega arith, omega arith)

-- a digit that lends once more: an empty one borrows and is 9, any other becomes one less
pub record OnceMore (d n : ℕ) (empty : Bool) : Type 0 where
  pub left-more : left_of d (suc n) ≡ cond empty 9 (left_of d n - 1)
  pub borrows-more : borrows_of d (suc n) ≡ cond empty (suc (borrows_of d n)) (borrows_of d n)

once-more-by : (d n : ℕ) (asked empty : Bool) → ltb d n ≡ asked → eqb (left_of d n) 0 ≡ empty → OnceMore d n empty
once-more-by d n false true a e =
    let h : n ≤ d = ltb-false d n a in
    let f = few d n h in
    let z : left_of d n ≡ 0 = eqb-true _ _ e in
    let is : n ≡ d = omega (arith, f.0, z) in
    let m = many d (suc n) (omega (arith, is)) in
    record { left-more = omega (arith, m.0, is); borrows-more = omega (arith, m.1, f.1, is) }
once-more-by d n false false a e =
    let h : n ≤ d = ltb-false d n a in
    let f = few d n h in
    let less : n < d = omega (arith, f.0, eqb-false (left_of d n) 0 e) in
    let g = few d (suc n) (omega (arith, less)) in
    record { left-more = omega (arith, f.0, g.0); borrows-more = omega (arith, f.1, g.1) }
once-more-by d n true true a e =
    let h : d < n = ltb-true d n a in
    let f = many d n h in
    let z : left_of d n ≡ 0 = eqb-true _ _ e in
    let last : (n - d - 1) % 10 ≡ 9 = omega (arith, f.0, z) in
    let m = many d (suc n) (omega (arith, h)) in
    let on : suc n - d - 1 ≡ suc (n - d - 1) = omega (arith, h) in
    let t = ten-over (n - d - 1) last in
    record { left-more = m.0 ∙ rw on t.0; borrows-more = m.1 ∙ rw (on, f.1) t.1 }
once-more-by d n true false a e =
    let h : d < n = ltb-true d n a in
    let f = many d n h in
    let not_last : (n - d - 1) % 10 < 9 = omega (arith, f.0, eqb-false (left_of d n) 0 e) in
    let m = many d (suc n) (omega (arith, h)) in
    let on : suc n - d - 1 ≡ suc (n - d - 1) = omega (arith, h) in
    let t = within-ten (n - d - 1) not_last in
    record { left-more = m.0 ∙ rw (on, f.0) t.0; borrows-more = m.1 ∙ rw (on, f.1) t.1 }

-- .. where it is asked once more, or is not
pub record Borrowed (d n : ℕ) (asked : Bool) : Type 0 where
  pub left : left_of d (cond asked (suc n) n) ≡ after_borrow asked (left_of d n)
  pub borrows : borrows_of d (cond asked (suc n) n) ≡ cond (asked && eqb (left_of d n) 0) (suc (borrows_of d n)) (borrows_of d n)

borrowed : (d n : ℕ) (asked : Bool) → Borrowed d n asked
borrowed d n true =
    let more = once-more-by d n (ltb d n) (eqb (left_of d n) 0) refl refl in record { left = more.left-more; borrows = more.borrows-more }
borrowed d n false = record { left = refl; borrows = refl }

-- one count more
more-less : (n : ℕ) (d : Digits) → many_less (suc n) d ≡ one_less (many_less n d)
unfolding many_less one_less
more-less n d =
    let o = borrowed d.ones n true in
    let t = borrowed d.tens (by_tens n d) (eqb (left_of d.ones n) 0) in
    let h = borrowed d.hundreds (by_hundreds n d) (eqb (left_of d.ones n) 0 && eqb (left_of d.tens (by_tens n d)) 0) in
    let k = borrowed d.thousands (by_thousands n d) (eqb (left_of d.ones n) 0 && eqb (left_of d.tens (by_tens n d)) 0 && eqb (left_of d.hundreds (by_hundreds n d)) 0) in
    simp (o.left, o.borrows, t.left, t.borrows, h.left, h.borrows, k.left)

-- none leave each digit as it is, and borrow nothing
none : (d : ℕ) → (left_of d 0 ≡ d) × (borrows_of d 0 ≡ 0)
none d = let f = few d 0 (omega arith) in (f.0 ∙ sub-zero d, f.1)

none-less : (d : Digits) → many_less 0 d ≡ d
unfolding many_less
none-less d =
    simp
    ((none d.ones).0, (none d.ones).1, (none d.tens).0, (none d.tens).1, (none d.hundreds).0, (none d.hundreds).1, (none d.thousands).0)

pub same-less : SameLess
same-less zero d = none-less d
same-less (suc n) d = more-less n d ∙ ap one_less (same-less n d)

-- as many steps of the number that has these digits
module _ (d : Digits) (f : FourBits d) where
  pub many-bits : (n : ℕ) → FourBits (times n one_less d)
  many-bits zero = f
  many-bits (suc n) = less-bits (times n one_less d) (many-bits n)

  pub many-element : (n : ℕ) → element_of (times n one_less d) ≡ times n decimal_step (element_of d)
  many-element zero = refl
  many-element (suc n) = less-element (times n one_less d) (many-bits n) ∙ ap decimal_step (many-element n)

-- what many counts leave of a number's digits has four bits for each
pub less-many-bits : (n e : ℕ) → FourBits (many_less n (digits_of e))
less-many-bits n e = rw (same-less n (digits_of e)) (many-bits (digits_of e) (of-bits e) n)

pub same-counts : SameCounts
same-counts n e h =
    ap element_of (same-less n (digits_of e)) ∙ many-element (digits_of e) (of-bits e) n ∙ ap (times n decimal_step) (whole e h)
