-- Not for readers: how many next ticks are all alike, and what that many do (docs/TICK.md, "Many ticks at once"). It says nothing new of the tick: `skip-is-ticks`
-- (proofs/ManyTicks.antt) finds that many ticks to be the same.
use Rattle.std.specs.Prelude.{ℕ, ◌-◌, ◌*◌, ◌/◌, ◌%◌, Bool, cond, ◌&&◌, eqb}
use Rattle.numbers.specs.Digits.{weight}
use Rattle.numbers.specs.Radix.{radix_counts}
use Rattle.numbers.specs.Times.{times}
use Rattle.channel.specs.declared.Channel.{Channel}
use Rattle.channel.specs.declared.ChannelMode.{ChannelMode}
use Rattle.channel.specs.Modes.{by_mode}
use Rattle.channel.specs.Shared.{is_counting, waits_for_cycle}
use Rattle.count.specs.Count.{count}
use Rattle.tick.specs.declared.due.Kind.{Kind}
use Rattle.tick.specs.declared.due.Kind.TheVariants.{Idle, Deferred, Load, Reload, Count}
use Rattle.tick.specs.Due.{due}
use Rattle.tick.specs.Taken.{takes}
use Rattle.tick.specs.Level.{rests_at}
use Rattle.tick.specs.Tick.{aged_by, never_loaded}
use Rattle.channel.specs.Record.{with_counter, with_latch}

-- the counts to zero: the element, in BCD its weight, "and for 0 the whole round"
abbrev pub counts_to_zero : Bool → ℕ → ℕ
counts_to_zero bcd e = cond (eqb e 0) (radix_counts bcd) (cond bcd (weight e) e)

unfoldable pub to_zero : Channel → ℕ
to_zero c = counts_to_zero c.control.bcd_mode c.counter.counting_element

-- "no end": as many as one call may ask for
abbrev pub no_end : ℕ
no_end = 65536

-- "load that meets a count of 1", and has met it before: there is nothing left to change
abbrev pub met_already : Channel → Bool
met_already c =
    never_loaded c && (waits_for_cycle c.counter.channel_state && (c.pins.output && eqb c.counter.cycles_in_state 0))

-- modes 0, 1: "output high", "output low"
abbrev pub until_high : Bool → ℕ → ℕ
until_high level zeroIn = cond level no_end (zeroIn - 1)

-- mode 2: "output high"
abbrev pub until_low : Bool → ℕ → ℕ
until_low level zeroIn = cond level (zeroIn - 2) 0

-- mode 3: "element even"
abbrev pub until_half : ℕ → ℕ → ℕ
until_half e zeroIn = cond (eqb (e % 2) 0) (zeroIn / 2 - 1) 0

-- modes 4, 5: "output high, armed", "output high, not armed"
abbrev pub until_strobe : Bool → Bool → ℕ → ℕ
until_strobe level armed zeroIn = cond level (cond armed (zeroIn - 1) no_end) 0

-- a channel that counts, by its mode; the element is zeroIn counts from zero
abbrev pub quiet_for : ChannelMode → Bool → Bool → ℕ → ℕ → ℕ
quiet_for m level armed e zeroIn =
    by_mode (until_high level zeroIn) (until_high level zeroIn) (until_low level zeroIn) (until_half e zeroIn) (until_strobe level armed zeroIn)
    (until_strobe level armed zeroIn) m

-- a count that comes from `WaitingForGate` enters a state
abbrev pub quiet_counting : Channel → ℕ
quiet_counting c =
    cond (is_counting c.counter.channel_state)
    (quiet_for c.control.mode c.pins.output c.load.armed c.counter.counting_element (to_zero c)) 0

abbrev pub quiet_if : Bool → ℕ
quiet_if alike = cond alike no_end 0

-- how many next ticks are all alike, "with no event, no load and no state entered"
abbrev pub quiet_by : Kind → Channel → ℕ
-- idle: "output high, or mode 0, 1, 3"
quiet_by Idle c = quiet_if (rests_at c.control.mode c.pins.output)
quiet_by Deferred c = 0
quiet_by Load c = quiet_if (met_already c)
quiet_by Reload c = 0
quiet_by Count c = quiet_counting c

unfoldable pub quiet : Channel → ℕ
quiet c = quiet_by (due c) c

-- the channel "after k of them", for k at most `quiet`
abbrev pub skip_by : Kind → ℕ → Channel → Channel
skip_by Idle ticks c = aged_by ticks c
skip_by Deferred ticks c = c
skip_by Load ticks c = c
skip_by Reload ticks c = c
skip_by Count ticks c = aged_by ticks (times (ticks * takes c) count c)

unfoldable pub skip : ℕ → Channel → Channel
skip ticks c = skip_by (due c) ticks c

-- the four fields that such ticks can move
pub record Moved : Type 0 where
  pub cycles_in_state : ℕ
  pub counting_element : ℕ
  pub ticked : Bool
  pub output_latch : ℕ

-- the record with them
abbrev pub with_skipped : Channel → Moved → Channel
with_skipped c s =
    with_latch
    (with_counter c
    (record {
      channel_state = c.counter.channel_state;
      cycles_in_state = s.cycles_in_state;
      counting_element = s.counting_element;
      ticked = s.ticked;
    }))
    (record {
      output_latch = s.output_latch;
      count_is_latched = c.latch.count_is_latched;
      read_state = c.latch.read_state;
    })

-- the fields as they stand, but for the cycles in state
abbrev pub standing : Channel → ℕ → Moved
standing c cycles =
    record {
      cycles_in_state = cycles;
      counting_element = c.counter.counting_element;
      ticked = c.counter.ticked;
      output_latch = c.latch.output_latch;
    }
