-- Not for readers: bounds on parts of a line.
use Rattle.std.specs.Prelude.{ℕ}

-- what an operation answers: at most `made ` and ten digits, then three times ` out 255 255`
abbrev pub answer_room : ℕ
answer_room = 51

-- ` out 255 255`
abbrev pub event_room : ℕ
event_room = 12

-- ` operation ` and ten digits
abbrev pub within_room : ℕ
within_room = 21
