-- How many bytes a line has. What a line says is its text; that zeros stand behind it is said of every text in a room (crate text).
use Rattle.std.specs.Prelude.{ℕ}

-- room for every line: an operation's has at most 63 bytes, whatever its index, and so has a fault's, whatever its place and index
abbrev pub line_room : ℕ
line_room = 64
