-- Document 01, "Loads and gates": a byte written to a channel's data port.
use Rattle.std.specs.Prelude.{ℕ, ◌+◌, ◌*◌, ◌%◌, Bool, true, false, cond}
use Rattle.channel.specs.declared.Channel.{Channel}
use Rattle.channel.specs.declared.ChannelMode.{ChannelMode}
use Rattle.channel.specs.declared.ChannelState.TheVariants.{WaitingForReload}
use Rattle.channel.specs.declared.RwMode.{RwMode}
use Rattle.channel.specs.declared.RwMode.TheVariants.{Lsb, Msb, LsbMsb}
use Rattle.channel.specs.declared.LoadState.{LoadState}
use Rattle.channel.specs.declared.LoadState.TheVariants.{WaitingForLsb, WaitingForMsb}
use Rattle.channel.specs.Record.{with_load}
use Rattle.channel.specs.Modes.{by_mode}
use Rattle.channel.specs.Shared.{change_channel_state, change_output_state}
use Rattle.load.specs.Finalize.{finalize_load}

-- the count register with a value, and the byte that the load then waits for
unfoldable pub put_register : Channel → ℕ → LoadState → Channel
put_register c value s =
    with_load c
    (record {
      count_register = value;
      reload_value = c.load.reload_value;
      load_state = s;
      load_type = c.load.load_type;
      armed = c.load.armed;
    })

-- "In mode 0 the low byte of a two-byte load drops the output and stops the channel (`WaitingForReload`)."
abbrev pub stops_on_low_byte : ChannelMode → Bool
stops_on_low_byte = by_mode true false false false false false

abbrev pub stopped : Channel → Channel
stopped c = change_channel_state (change_output_state c false) WaitingForReload

-- a channel whose two-byte load has begun
abbrev pub begun : Channel → Channel
begun c = cond (stops_on_low_byte c.control.mode) (stopped c) c

-- "the low byte alone sets the other half to 0"
abbrev pub write_low : Channel → ℕ → Channel
write_low c byte = begun (put_register c byte WaitingForMsb)

-- "Low or high access: one byte completes the load ... Both: low, then high": whether the byte is the first of two
abbrev pub begins_word : RwMode → LoadState → Bool
begins_word Lsb s = false
begins_word Msb s = false
begins_word LsbMsb WaitingForLsb = true
begins_word LsbMsb WaitingForMsb = false

-- "one byte completes the load, the other half 0. Both: low, then high": the count register that a byte completes
abbrev pub word_in : RwMode → ℕ → ℕ → ℕ
word_in Lsb register byte = byte
word_in Msb register byte = byte * 256
word_in LsbMsb register byte = register % 256 + byte * 256

-- the byte that is waited for after a complete load; where one byte completes it, nothing changes
abbrev pub state_in : RwMode → LoadState → LoadState
state_in Lsb s = s
state_in Msb s = s
state_in LsbMsb s = WaitingForLsb

-- the first of two bytes, or one that completes the load
abbrev pub write_at : RwMode → LoadState → Channel → ℕ → Bool → Channel
write_at a s c byte defer =
    cond (begins_word a s) (write_low c byte)
    (finalize_load (put_register c (word_in a c.load.count_register byte) (state_in a s)) defer)

unfoldable pub write_byte : Channel → ℕ → Bool → Channel
write_byte c byte defer = write_at c.control.rw_mode c.load.load_state c byte defer
