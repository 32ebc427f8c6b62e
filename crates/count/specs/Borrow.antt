-- Request L4: the decimal count "works on four digits with a borrow". The other words quoted are those of docs/DIGITS.md, the school's page.
-- The code follows this way; document 01's own is in Step.antt, and SameStep.antt says that they come to the same.
use Rattle.std.specs.Prelude.{ℕ, ◌-◌, Bool, cond, ◌&&◌, ◌==◌}
use Rattle.numbers.specs.Digits.{ones, tens, hundreds, thousands, pack}
use Rattle.count.specs.declared.digits.Digits.{Digits}

-- the four digits of a 16-bit number
abbrev pub digits_of : ℕ → Digits
digits_of e = record { thousands = thousands e; hundreds = hundreds e; tens = tens e; ones = ones e }

-- the number that has these digits
abbrev pub element_of : Digits → ℕ
element_of d = pack d.thousands d.hundreds d.tens d.ones

-- "A digit above 0 that lends becomes one less"; "A 0 that lends becomes 9"
abbrev pub after_lending : ℕ → ℕ
after_lending digit = cond (digit == 0) 9 (digit - 1)

-- "A digit from which nothing is borrowed stays as it is"
abbrev pub after_borrow : Bool → ℕ → ℕ
after_borrow borrow digit = cond borrow (after_lending digit) digit

-- Whether one is borrowed from the tens, the hundreds, the thousands: a 0 that lends "borrows from the next digit up", and at a digit above 0
-- "the borrow ends".
abbrev pub from_tens : Digits → Bool
from_tens d = d.ones == 0

abbrev pub from_hundreds : Digits → Bool
from_hundreds d = from_tens d && d.tens == 0

abbrev pub from_thousands : Digits → Bool
from_thousands d = from_hundreds d && d.hundreds == 0

-- "The ones lend one", and the borrow walks up
unfoldable pub one_less : Digits → Digits
one_less d =
    record {
      ones = after_lending d.ones;
      tens = after_borrow (from_tens d) d.tens;
      hundreds = after_borrow (from_hundreds d) d.hundreds;
      thousands = after_borrow (from_thousands d) d.thousands;
    }

-- one decimal count, digit by digit
abbrev pub digits_step : ℕ → ℕ
digits_step e = element_of (one_less (digits_of e))
