-- Not for readers: bounds on parts of a text.
use Rattle.std.specs.Prelude.{ℕ}

-- the bytes of the ten digits of a number of 32 bits
abbrev pub number_room : ℕ
number_room = 10

-- the bytes of the channels that a read-back names: ` of channels 0 1 2`
abbrev pub named_room : ℕ
named_room = 18

-- the bytes of what a written byte asks for: the longest is ` ; read back count and status of channels 0 1 2`
abbrev pub asked_room : ℕ
asked_room = 47

-- the bytes of which operation a fault stands in: `operation `, ten digits and `, `
abbrev pub which_room : ℕ
which_room = 22

-- the bytes of where a fault stands: which operation, `byte `, twenty digits and `: `
abbrev pub where_room : ℕ
where_room = 49

-- the bytes of what stands there: `; here it is ` and ten digits, or `; the first is ` and three
abbrev pub there_room : ℕ
there_room = 23
