-- What document 01 says of the output's level after a data write and after a gate level, in one place and apart from the rules that make up a
-- step; proofs/Levels.antt ties the two. After a mode set it is that rule's own row, `output_after`.
use Rattle.std.specs.Prelude.{ℕ, Bool, true, false, cond}
use Rattle.channel.specs.declared.Channel.{Channel}
use Rattle.channel.specs.Modes.{by_mode}
use Rattle.channel.specs.Shared.{waits_for_reload}
use Rattle.load.specs.Write.{begins_word}
use Rattle.board.specs.declared.Board.{Board}
use Rattle.board.specs.Board.{channel_at}

-- the output level of a channel of the board
abbrev pub level_at : Board → ℕ → Bool
level_at b n = (channel_at b n).pins.output

-- "In mode 0 the low byte of a two-byte load drops the output"; no other byte moves it
abbrev pub level_after_write : Channel → Bool
level_after_write c =
    cond (by_mode (begins_word c.control.rw_mode c.load.load_state) false false false false false c.control.mode) false
    c.pins.output

-- an edge from high to low
abbrev pub falls : Bool → Bool → Bool
falls true false = true
falls true true = false
falls false level = false

-- "Gate edges act unless the state is `WaitingForReload`. ... Falling, ... in 2 and 3 output high."
abbrev pub level_after_gate : Channel → Bool → Bool
level_after_gate c level =
    cond (waits_for_reload c.counter.channel_state) c.pins.output
    (cond (falls c.pins.gate level) (by_mode c.pins.output c.pins.output true true c.pins.output c.pins.output c.control.mode)
    c.pins.output)
