-- What several rules of documents 01 and 02 do to a channel's record: enter a state, change the output, give the counting element a value, set the null-count mark.
use Rattle.std.specs.Prelude.{ℕ, Bool, true, false, cond}
use Rattle.channel.specs.declared.Channel.{Channel}
use Rattle.channel.specs.declared.Latch.{Latch}
use Rattle.channel.specs.declared.ChannelState.{ChannelState}
use Rattle.channel.specs.declared.ChannelState.TheVariants.{WaitingForReload, WaitingForGate, DeferLoadCycle, WaitingForLoadCycle, WaitingForLoadTrigger, Counting}
use Rattle.channel.specs.Record.{with_counter, with_latch, with_pins, with_status, with_dirty}

-- `Counting`, with either reload flag
abbrev pub is_counting : ChannelState → Bool
is_counting WaitingForReload = false
is_counting WaitingForGate = false
is_counting DeferLoadCycle = false
is_counting WaitingForLoadCycle = false
is_counting WaitingForLoadTrigger = false
is_counting (Counting f) = true

-- `WaitingForReload`: a mode set, and no count since
abbrev pub waits_for_reload : ChannelState → Bool
waits_for_reload WaitingForReload = true
waits_for_reload WaitingForGate = false
waits_for_reload DeferLoadCycle = false
waits_for_reload WaitingForLoadCycle = false
waits_for_reload WaitingForLoadTrigger = false
waits_for_reload (Counting f) = false

-- `WaitingForLoadCycle`: the next load cycle loads
abbrev pub waits_for_cycle : ChannelState → Bool
waits_for_cycle WaitingForReload = false
waits_for_cycle WaitingForGate = false
waits_for_cycle DeferLoadCycle = false
waits_for_cycle WaitingForLoadCycle = true
waits_for_cycle WaitingForLoadTrigger = false
waits_for_cycle (Counting f) = false

-- "becomes `Counting(Normal)`, which sets dirty"; in the Rust's text, only where it was not counting before
abbrev pub starts_counting : ChannelState → ChannelState → Bool
starts_counting old new = cond (is_counting old) false (is_counting new)

-- "Every entry into a channel state, the same one included, sets cycles in state to 0."
unfoldable pub change_channel_state : Channel → ChannelState → Channel
change_channel_state c s =
    with_dirty
    (with_counter c
    (record {
      channel_state = s;
      cycles_in_state = 0;
      counting_element = c.counter.counting_element;
      ticked = c.counter.ticked;
    }))
    (cond (starts_counting c.counter.channel_state s) true c.dirty)

-- the output at a level; that a level already set is no event is the board's to say
unfoldable pub change_output_state : Channel → Bool → Channel
change_output_state c level = with_pins c (record { gate = c.pins.gate; output = level })

-- "The output latch follows unless latched"
abbrev pub followed : Latch → ℕ → Latch
followed l e =
    cond l.count_is_latched l
    (record { output_latch = e; count_is_latched = l.count_is_latched; read_state = l.read_state })

-- the counting element with a new value, the output latch behind it
unfoldable pub put_element : Channel → ℕ → Channel
put_element c e =
    with_latch
    (with_counter c
    (record {
      channel_state = c.counter.channel_state;
      cycles_in_state = c.counter.cycles_in_state;
      counting_element = e;
      ticked = c.counter.ticked;
    }))
    (followed c.latch e)

-- L5: "the null-count mark: set by a mode set and a completed load, cleared when a load cycle moves the value"
abbrev pub with_null_count : Channel → Bool → Channel
with_null_count c null = with_status c (record { status_latch = c.status.status_latch; null_count = null })
