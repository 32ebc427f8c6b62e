-- One tick of one channel: docs/TICK.md, table B. It starts "from the state that document 01's loads and gates leave" (02, L1).
use Rattle.std.specs.Prelude.{ℕ, ◌+◌, ◌-◌, ◌%◌, Bool, true, false, not, cond, ◌&&◌, eqb, ltb}
use Rattle.numbers.specs.Times.{times}
use Rattle.channel.specs.declared.Channel.{Channel}
use Rattle.channel.specs.declared.ChannelMode.{ChannelMode}
use Rattle.channel.specs.declared.ChannelState.TheVariants.{WaitingForLoadCycle, Counting}
use Rattle.channel.specs.declared.PitType.{PitType}
use Rattle.channel.specs.declared.PitType.TheVariants.{Model8253, Model8254}
use Rattle.channel.specs.declared.ReloadFlag.TheVariants.{Normal, ReloadNextCycle}
use Rattle.channel.specs.Record.{with_load, with_counter}
use Rattle.channel.specs.Modes.{by_mode}
use Rattle.channel.specs.Shared.{is_counting, change_channel_state, change_output_state}
use Rattle.channel.specs.Queries.{does_retrigger}
use Rattle.count.specs.Count.{count}
use Rattle.load.specs.Cycle.{moved}
use Rattle.tick.specs.declared.due.Kind.{Kind}
use Rattle.tick.specs.declared.due.Kind.TheVariants.{Idle, Deferred, Load, Reload, Count}
use Rattle.tick.specs.Due.{due}
use Rattle.tick.specs.Taken.{takes}
use Rattle.tick.specs.Level.{rest_level, load_level, reload_level, strobes, count_level}

-- T1: cycles in state go up by one a tick, and stay at 4,294,967,295
abbrev pub older : ℕ → ℕ → ℕ
older ticks cycles = cond (ltb (4294967295 - cycles) ticks) 4294967295 (cycles + ticks)

unfoldable pub aged_by : ℕ → Channel → Channel
aged_by ticks c =
    with_counter c
    (record {
      channel_state = c.counter.channel_state;
      cycles_in_state = older ticks c.counter.cycles_in_state;
      counting_element = c.counter.counting_element;
      ticked = c.counter.ticked;
    })

-- the output where a tick that neither loads nor counts leaves it
abbrev pub rested : Channel → Channel
rested c = change_output_state c (rest_level c.control.mode c.pins.output)

unfoldable pub idle : Channel → Channel
idle c = rested (aged_by 1 c)

-- "`DeferLoadCycle` becomes `WaitingForLoadCycle`" (01)
unfoldable pub deferred : Channel → Channel
deferred c = rested (change_channel_state c WaitingForLoadCycle)

-- "A count of 1 in mode 2 or 3 is never loaded by a tick": the count as written (T8)
abbrev pub never_loaded : Channel → Bool
never_loaded c = does_retrigger c.control.mode && eqb c.load.reload_value 1

-- "the channel stays in, or returns to, `WaitingForLoadCycle` with output high"
unfoldable pub sent_back : Channel → Channel
sent_back c = change_output_state (change_channel_state c WaitingForLoadCycle) true

-- T9: whether the next zero strobes
unfoldable pub with_armed : Channel → Bool → Channel
with_armed c armed =
    with_load c
    (record {
      count_register = c.load.count_register;
      reload_value = c.load.reload_value;
      load_state = c.load.load_state;
      load_type = c.load.load_type;
      armed = armed;
    })

-- the value moves, as in a load cycle by hand, with the output at a level; "A tick that makes a load cycle makes no count"
unfoldable pub loaded : Bool → Channel → Channel
loaded level c = with_armed (change_output_state (moved c) level) true

unfoldable pub load_at : Bool → Channel → Channel
load_at level c = cond (never_loaded c) (sent_back c) (loaded level c)

-- mode 3 at zero
abbrev pub ends_half : ChannelMode → ℕ → Bool
ends_half m e = by_mode false false false (eqb e 0) false false m

-- M3-8254: "Odd: with the output high, one tick passes after zero before the output falls"; odd as written (T11)
abbrev pub lingers_on : PitType → Bool
lingers_on Model8253 = false
lingers_on Model8254 = true

abbrev pub lingers : PitType → Channel → Bool
lingers model c = lingers_on model && (c.pins.output && eqb (c.load.reload_value % 2) 1)

-- M3-8253: "At zero the output changes and the element is loaded again, in that same tick"
unfoldable pub half_over : PitType → Channel → Channel
half_over model c = cond (lingers model c) (change_channel_state c (Counting ReloadNextCycle)) (load_at (not c.pins.output) c)

-- T6: a channel that waited for its gate counts on
unfoldable pub counting_on : Channel → Channel
counting_on c = cond (is_counting c.counter.channel_state) (aged_by 1 c) (change_channel_state c (Counting Normal))

-- the output after a count, and armed spent by a strobe
unfoldable pub marked : Channel → Channel
marked c =
    with_armed
    (change_output_state c (count_level c.control.mode c.pins.output c.load.armed c.counter.counting_element))
    (c.load.armed && not (strobes c.control.mode c.load.armed c.counter.counting_element))

-- what follows the counts of a tick
unfoldable pub after_counts : PitType → Channel → Channel
after_counts model c =
    cond (ends_half c.control.mode c.counter.counting_element) (half_over model c) (counting_on (marked c))

-- table B
abbrev pub tick_by : Kind → PitType → Channel → Channel
tick_by Idle model c = idle c
tick_by Deferred model c = deferred c
tick_by Load model c = load_at (load_level c.control.mode) c
tick_by Reload model c = load_at (reload_level c.control.mode c.pins.output) c
tick_by Count model c = after_counts model (times (takes c) count c)

unfoldable pub tick : PitType → Channel → Channel
tick model c = tick_by (due c) model c
