-- The rules of a channel but loads and ticks leave its numbers in their fields: a fresh channel, a mode set, a gate level, counts, a latch, a read-back and a read. Assumes nothing.
use Prim.Native.Nat.{ℕ, zero, suc, ◌<◌}
use mathlib.Core.Bool.{Bool, true, false}
use native.Mathlib.Omega.{arith}
use Rattle.numbers.specs.Times.{times}
use Rattle.channel.specs.declared.Channel.{Channel}
use Rattle.channel.specs.declared.ChannelMode.{ChannelMode}
use Rattle.channel.specs.declared.ChannelState.TheVariants.{WaitingForGate, WaitingForLoadCycle}
use Rattle.channel.specs.declared.ControlWord.{ControlWord}
use Rattle.channel.specs.declared.Latch.{Latch}
use Rattle.channel.specs.declared.PitType.{PitType}
use Rattle.channel.specs.declared.PitType.TheVariants.{Model8253, Model8254}
use Rattle.channel.specs.Fresh.{fresh_at}
use Rattle.channel.specs.Shared.{waits_for_reload}
use Rattle.channel.proofs.Modes.{every-mode}
use Rattle.channel.proofs.Pick.{pick-holds}
use Rattle.encoding.specs.Range.{InRange}
use Rattle.count.specs.Count.{next_element, count}
use Rattle.quiet.proofs.Rounds.{below_step}
use Rattle.gate.specs.Gate.{loads_on_rise, rising, stops_on_fall, stopping, high_on_fall, raising, edge, after_edge, set_gate}
use Rattle.latch.specs.declared.reading.ByteRead.{ByteRead}
use Rattle.latch.specs.Latching.{latch_count}
use Rattle.latch.specs.Status.{no_status, status_byte}
use Rattle.latch.specs.ReadBack.{count_held, status_held, read_back}
use Rattle.latch.specs.Reading.{starts_word, after_read, count_read, status_read, read_byte}
use Rattle.latch.proofs.StatusByte.{flag-below, access-from, mode-below}
use Rattle.mode.specs.Mode.{square_mask, load_mask, set_mode}
use Rattle.ranges.proofs.Parts.{counter-in-range, latch-in-range, pins-in-range, status-in-range, dirty-in-range, state-in-range, output-in-range, element-in-range}

pub fresh-at-in-range : (level : Bool) → InRange (fresh_at level)
unfolding fresh_at
fresh-at-in-range level = omega arith

-- "Only mode 3 sets the load mask: 0xFFFF on the 8253, 0xFFFE on the 8254."
square-fits : (model : PitType) → square_mask model < 65536
square-fits Model8253 = omega arith
square-fits Model8254 = omega arith

mask_fits : (model : PitType) (was : ℕ) → was < 65536 → (m : ChannelMode) → load_mask model was m < 65536
mask_fits model was fits = every-mode (λ (m : ChannelMode). load_mask model was m < 65536) fits fits fits (square-fits model) fits fits

module _ (c : Channel) (r : InRange c) where
  pub mode-in-range : (word : ControlWord) (model : PitType) → InRange (set_mode c word model)
  unfolding set_mode
  mode-in-range word model = let mask = mask_fits model c.reloading.load_mask r.mask word.mode in omega arith

  -- a level at the gate
  rising-in-range : InRange (rising c)
  rising-in-range = pick-holds InRange (loads_on_rise c.control.mode) _ c (state-in-range c r WaitingForLoadCycle) r

  stopping-in-range : InRange (stopping c)
  stopping-in-range = pick-holds InRange (stops_on_fall c.control.mode) _ c (state-in-range c r WaitingForGate) r

  raising-in-range : InRange (raising c)
  raising-in-range = pick-holds InRange (high_on_fall c.control.mode) _ c (output-in-range c r true) r

edge-in-range : (was level : Bool) (c : Channel) → InRange c → InRange (edge was level c)
edge-in-range false false c r = r
edge-in-range false true c r = rising-in-range c r
edge-in-range true false c r = raising-in-range (stopping c) (stopping-in-range c r)
edge-in-range true true c r = r

-- the status byte is one
status-fits : (c : Channel) → status_byte c < 256
unfolding status_byte
status-fits c =
    omega (
      arith,
      flag-below c.pins.output,
      flag-below c.status.null_count,
      (access-from c.control.rw_mode).1,
      mode-below c.control.mode,
      flag-below c.control.bcd_mode,
    )

count-held : (asked : Bool) (c : Channel) → InRange c → InRange (latch_count c) → InRange (count_held asked c)
count-held asked c r latched = pick-holds InRange asked _ c (pick-holds InRange c.latch.count_is_latched c (latch_count c) r latched) r

status-held : (asked : Bool) (c : Channel) → InRange c → InRange (status_held asked c)
status-held asked c r = pick-holds InRange asked _ c (pick-holds InRange (no_status c) _ c (status-in-range c r _ (status-fits c)) r) r

module _ (c : Channel) (r : InRange c) where
  pub gate-in-range : (level : Bool) → InRange (set_gate c level)
  unfolding set_gate
  gate-in-range level =
      pins-in-range (after_edge c level)
      (pick-holds InRange (waits_for_reload c.counter.channel_state) c _ r (edge-in-range c.pins.gate level c r)) _

  count-in-range : InRange (count c)
  unfolding count
  count-in-range =
      let put = element-in-range c r (next_element c) (below_step c.control.bcd_mode c.counter.counting_element r.element) in
      counter-in-range _ put _ put.cycles put.element

  pub latch-count-in-range : InRange (latch_count c)
  unfolding latch_count
  latch-count-in-range = dirty-in-range _ (latch-in-range c r _ r.element) true

  pub read-in-range : InRange (read_byte c).channel
  unfolding read_byte
  read-in-range =
      pick-holds (λ (x : ByteRead). InRange x.channel) (no_status c) (count_read c) (status_read c)
      (latch-in-range c r (after_read c.latch c.control.rw_mode)
      (pick-holds (λ (l : Latch). l.output_latch < 65536) (starts_word c.latch.read_state c.control.rw_mode) _ _ r.held r.held))
      (status-in-range c r _ (omega arith))

pub counts-in-range : (n : ℕ) (c : Channel) → InRange c → InRange (times n count c)
counts-in-range zero c r = r
counts-in-range (suc n) c r = count-in-range (times n count c) (counts-in-range n c r)

pub back-in-range : (counts status : Bool) (c : Channel) → InRange c → InRange (read_back counts status c)
unfolding read_back
back-in-range counts status c r = status-held status (count_held counts c) (count-held counts c r (latch-count-in-range c r))
