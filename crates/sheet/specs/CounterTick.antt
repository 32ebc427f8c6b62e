-- The sheets' counter and its clock: what a tick does to it. Lines N1 to N4, M0 to M5 and G0 to G5 of docs/SHEETS.md.
use Rattle.std.specs.Prelude.{ℕ, suc, Bool, true, false, not, cond, ◌&&◌, ◌||◌, [], ◌∷◌, eqb, ltb, get_or}
use Rattle.numbers.specs.Digits.{ones, tens, hundreds, thousands, weight}
use Rattle.sheet.specs.Gate.{fall_effect}
use Rattle.sheet.specs.Ticking.{Chip, high_ticks, value_after, output_after, smallest}
use Rattle.sheet.specs.Counter.{Fixed, left_open, fixed_at, Phase, awaits_count, awaits_trigger, loading, counting, lost, Counter, standing}

-- N2: "The sheets speak of decimal digits only"
abbrev pub decimal_digits : ℕ → Bool
decimal_digits w = ltb (ones w) 10 && ltb (tens w) 10 && ltb (hundreds w) 10 && ltb (thousands w) 10

-- N3: "0 is the largest count that can be written"
abbrev pub or_largest : ℕ → ℕ → ℕ
or_largest largest n = cond (eqb n 0) largest n

-- N1, N2: the count that 16 bits write
abbrev pub number_written : Bool → ℕ → Fixed ℕ
number_written false w = fixed_at (or_largest 65536 w)
number_written true w = cond (decimal_digits w) (fixed_at (or_largest 10000 (weight w))) left_open

-- N3-8254: smaller counts are not legal, and what they do is open
abbrev pub legal : ℕ → Fixed ℕ → Fixed ℕ
legal mode left_open = left_open
legal mode (fixed_at n) = cond (ltb n (smallest mode)) left_open (fixed_at n)

abbrev pub number_of : Bool → Fixed ℕ → Fixed ℕ
number_of bcd left_open = left_open
number_of bcd (fixed_at w) = number_written bcd w

-- what a load moves: "Loading is the move of the count register to the counting element"
abbrev pub to_load : Counter → Fixed ℕ
to_load k = legal k.mode (number_of k.bcd k.count)

-- the counter at tick j of the count n
abbrev pub at : Chip → Counter → ℕ → ℕ → Counter
at chip k n j =
    standing k (counting n j) (fixed_at (output_after k.mode n j)) (fixed_at (value_after chip k.bcd k.mode n j))

abbrev pub nowhere : Counter → Counter
nowhere k = standing k lost left_open left_open

-- a load, at the beginning of a period or, in mode 3, of its low half
abbrev pub load_half : Chip → Bool → Fixed ℕ → Counter → Counter
load_half chip low left_open k = nowhere k
load_half chip low (fixed_at n) k = at chip k n (cond low (high_ticks n) 0)

abbrev pub load : Chip → Bool → Counter → Counter
load chip low k = load_half chip low (to_load k) k

-- M3: the low half begins with this tick
abbrev pub begins_low : ℕ → ℕ → ℕ → Bool
begins_low mode n j = eqb mode 3 && eqb j (high_ticks n)

-- M2: "the next tick reloads"; M3-8253, M3-8254: with the output's change the element is loaded. So with the last tick of a period, in mode 3 of each half. "A count
-- written meanwhile is used at the next load". N4: the other modes do not reload
abbrev pub reloads : ℕ → ℕ → ℕ → Bool
reloads mode n j = ((eqb mode 2 || eqb mode 3) && eqb j n) || begins_low mode n j

-- a tick that counts, to tick j of n
abbrev pub count_to : Chip → ℕ → ℕ → Counter → Counter
count_to chip n j k = cond (reloads k.mode n j) (load chip (begins_low k.mode n j) k) (at chip k n j)

-- M2, M4, M5: the output is low "for the one tick", whatever the next one does
abbrev pub pulse : ℕ → Bool
pulse mode = get_or (false ∷ false ∷ true ∷ false ∷ true ∷ true ∷ []) mode false

abbrev pub rested : ℕ → Fixed Bool → Fixed Bool
rested mode output = cond (pulse mode) (fixed_at true) output

-- a tick that neither loads nor counts
abbrev pub rest : Counter → Counter
rest k = standing k k.phase (rested k.mode k.output) k.value

-- G0, G2, G3, G4: "stops counting"; G1, G5: the level is nothing
abbrev pub counts : Counter → Bool
counts k = not (fall_effect k.mode).stops || k.gate

abbrev pub tick_in : Phase → Chip → Counter → Counter
tick_in awaits_count chip k = rest k
tick_in awaits_trigger chip k = rest k
tick_in loading chip k = load chip false k
tick_in (counting n j) chip k = cond (counts k) (count_to chip n (suc j) k) (rest k)
tick_in lost chip k = nowhere k

abbrev pub tick : Chip → Counter → Counter
tick chip k = tick_in k.phase chip k
