-- Document 01, "Loads and gates": the added load cycle; what it moves is document 02's, request L2.
use Rattle.std.specs.Prelude.{ℕ, false}
use Rattle.std.specs.Int.Bits.{bit_and}
use Rattle.channel.specs.declared.Channel.{Channel}
use Rattle.channel.specs.declared.ChannelMode.{ChannelMode}
use Rattle.channel.specs.declared.ChannelState.{ChannelState}
use Rattle.channel.specs.declared.ChannelState.TheVariants.{WaitingForReload, WaitingForGate, DeferLoadCycle, WaitingForLoadCycle, WaitingForLoadTrigger, Counting}
use Rattle.channel.specs.declared.ReloadFlag.TheVariants.{Normal}
use Rattle.channel.specs.Modes.{by_mode}
use Rattle.channel.specs.Shared.{change_channel_state, put_element, with_null_count}

-- L2: "From now on it masks only in mode 3.": a value as a mode loads it
abbrev pub masked_in : ChannelMode → ℕ → ℕ → ℕ
masked_in m value mask = by_mode value value value (bit_and value mask) value value m

-- "the reload value": what every load moves to the counting element, made by hand or by a tick. The mode is the stored one, and the mask is the record's,
-- which "keeps following the Rust": one that an earlier mode 3 left stands there, and no load of the other modes looks at it
unfoldable pub load_value : Channel → ℕ
load_value c = masked_in c.control.mode c.load.reload_value c.reloading.load_mask

-- the value moves: "moves the reload value ... to the counting element, copies it to the output latch unless latched, and becomes `Counting(Normal)`"; the null-count
-- mark is "cleared when a load cycle moves the value" (L5). So does a tick that loads
abbrev pub moved : Channel → Channel
moved c = with_null_count (change_channel_state (put_element c (load_value c)) (Counting Normal)) false

-- "`DeferLoadCycle` becomes `WaitingForLoadCycle`; `WaitingForLoadCycle` moves the reload value ... Other states: no change."
abbrev pub cycle_in : ChannelState → Channel → Channel
cycle_in WaitingForReload c = c
cycle_in WaitingForGate c = c
cycle_in DeferLoadCycle c = change_channel_state c WaitingForLoadCycle
cycle_in WaitingForLoadCycle c = moved c
cycle_in WaitingForLoadTrigger c = c
cycle_in (Counting f) c = c

unfoldable pub load_cycle : Channel → Channel
load_cycle c = cycle_in c.counter.channel_state c
