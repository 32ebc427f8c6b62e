-- The null count: line RB3 of docs/SHEETS.md. "Null count is 1 after a mode set and after a count is written (for two bytes: after the second), and 0 once that count has been
-- loaded into the element."
use Rattle.std.specs.Prelude.{ℕ, Bool, true, false, List, [], ◌∷◌}
use Rattle.sheet.specs.Counter.{Fixed, left_open, fixed_at}

-- what happens to a counter that RB3 speaks of
pub data Happening : Type 0 where
  -- a mode set
  programmed : Happening
  -- a whole count is written
  written : (count : ℕ) → Happening
  -- the element takes a value
  loaded : (value : ℕ) → Happening

-- RB3, of all that happened, the latest first. Of a counter to which nothing has happened the sheets say nothing (C5), and it is 0
abbrev pub null_count : List Happening → Bool
null_count [] = false
null_count (programmed ∷ earlier) = true
null_count (written count ∷ earlier) = true
null_count (loaded value ∷ earlier) = false

-- the count written last since the mode set; open where there is none
abbrev pub last_written : List Happening → Fixed ℕ
last_written [] = left_open
last_written (programmed ∷ earlier) = left_open
last_written (written count ∷ earlier) = fixed_at count
last_written (loaded value ∷ earlier) = last_written earlier
