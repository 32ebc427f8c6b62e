-- Request L6: "reach the end value without stepping". Many counts at once, digit by digit; the words quoted are those of docs/DIGITS.md. It holds
-- for every start, digits above 9 too, and ManyCounts.antt says that it comes to as many single counts.
use Rattle.std.specs.Prelude.{ℕ, ◌+◌, ◌-◌, ◌/◌, ◌%◌, cond, nat_lt}
use Rattle.count.specs.declared.digits.Digits.{Digits}
use Rattle.count.specs.declared.lending.Lent.{Lent}

-- How often a digit is still to lend when it is empty and has borrowed for the first time
abbrev beyond : ℕ → ℕ → ℕ
beyond digit number = number - digit - 1

-- "A digit that lends no more than it has becomes so much less. One that lends more is emptied and goes down from 9, round and round"
abbrev pub left_of : ℕ → ℕ → ℕ
left_of digit number = cond (nat_lt digit number) (9 - beyond digit number % 10) (digit - number)

-- "It borrows once when it is empty, and once more after each ten"
abbrev pub borrows_of : ℕ → ℕ → ℕ
borrows_of digit number = cond (nat_lt digit number) (1 + beyond digit number / 10) 0

-- both
abbrev pub lends : ℕ → ℕ → Lent
lends digit number = record { left = left_of digit number; borrows = borrows_of digit number }

-- "As often as a digit borrows, the next digit up lends": how often the tens lend, the hundreds, the thousands
abbrev pub by_tens : ℕ → Digits → ℕ
by_tens number d = borrows_of d.ones number

abbrev pub by_hundreds : ℕ → Digits → ℕ
by_hundreds number d = borrows_of d.tens (by_tens number d)

abbrev pub by_thousands : ℕ → Digits → ℕ
by_thousands number d = borrows_of d.hundreds (by_hundreds number d)

-- that many counts: "The ones lend as often as is counted"
unfoldable pub many_less : ℕ → Digits → Digits
many_less number d =
    record {
      ones = left_of d.ones number;
      tens = left_of d.tens (by_tens number d);
      hundreds = left_of d.hundreds (by_hundreds number d);
      thousands = left_of d.thousands (by_thousands number d);
    }
