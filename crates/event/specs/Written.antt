-- Document 01, "Output events", byte by byte: what the lent bytes are once an event is written.
use Rattle.std.specs.Prelude.{ℕ, ◌+◌, ◌<◌, ◌≤◌, Bool, List, ◌⊎◌, ◌≡◌, length, get_or}
use Rattle.numbers.specs.Flags.{flag_number}

-- "two bytes, the channel's place on the board (0 to 2) then level (0 or 1), ... from the given place on"; "No other byte changes."
pub record Written (before after : List ℕ) (place channel : ℕ) (level : Bool) : Type 0 where
  pub room : place + 2 ≤ length before
  pub same_length : length after ≡ length before
  pub channel-byte : get_or after place 0 ≡ channel
  pub level-byte : get_or after (place + 1) 0 ≡ flag_number level
  pub others-kept : (i : ℕ) → (i < place) ⊎ (place + 2 ≤ i) → get_or after i 0 ≡ get_or before i 0
