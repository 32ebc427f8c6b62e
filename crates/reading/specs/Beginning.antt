-- Demand 3, where a reading begins: "A channel read low byte then high, not latched, no word half read, counting element v (in BCD four
-- decimal digits)".
use Rattle.std.specs.Prelude.{ℕ, ◌<◌, Bool, true, false, cond, ◌≡◌, length}
use Rattle.numbers.specs.Digits.{GoodDigits}
use Rattle.channel.specs.declared.Channel.{Channel}
use Rattle.latch.specs.Status.{no_status}
use Rattle.latch.specs.Reading.{starts_word}
use Rattle.board.specs.declared.Board.{Board}
use Rattle.board.specs.Board.{channel_at}

-- "A channel read low byte then high, not latched, no word half read": the next read starts a word. 02, L5: "Demand 3 now starts with no status held"
abbrev pub may_begin : Channel → Bool
may_begin c =
    cond (no_status c) (cond c.latch.count_is_latched false (starts_word c.latch.read_state c.control.rw_mode)) false

-- channel i of board b, in BCD or not, at counting element v
pub record Begins (b : Board) (i : ℕ) (bcd : Bool) (v : ℕ) : Type 0 where
  pub on-board : i < 3
  pub may : may_begin (channel_at b i) ≡ true
  pub radix : (channel_at b i).control.bcd_mode ≡ bcd
  pub element : (channel_at b i).counter.counting_element ≡ v
  pub four-digits : bcd ≡ true → GoodDigits v
  -- what every board of the code has: three channels, and a counting element of 16 bits
  pub three-channels : length b.channels ≡ 3
  pub sixteen-bits : v < 65536
