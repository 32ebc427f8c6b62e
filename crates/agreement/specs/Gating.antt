-- Demand 2 for the gate and the ticks: the table G0 to G5 of docs/SHEETS.md, and the tick of the record.
use Rattle.std.specs.Prelude.{ℕ, suc, Bool, true, false, not, ◌≡◌}
use Rattle.numbers.specs.Times.{times}
use Rattle.channel.specs.declared.Channel.{Channel}
use Rattle.channel.specs.declared.ChannelMode.TheVariants.{InterruptOnTerminalCount, SoftwareTriggeredStrobe}
use Rattle.channel.specs.declared.ChannelState.{ChannelState}
use Rattle.channel.specs.declared.ChannelState.TheVariants.{WaitingForReload, WaitingForGate, DeferLoadCycle, WaitingForLoadCycle, WaitingForLoadTrigger, Counting}
use Rattle.channel.specs.declared.PitType.{PitType}
use Rattle.channel.specs.declared.ReloadFlag.TheVariants.{Normal, ReloadNextCycle}
use Rattle.channel.specs.Kept.{Kept}
use Rattle.channel.specs.Modes.{mode_number}
use Rattle.channel.specs.Shared.{waits_for_reload}
use Rattle.count.specs.Count.{count}
use Rattle.gate.specs.Gate.{with_gate, set_gate}
use Rattle.load.specs.Cycle.{load_value}
use Rattle.tick.specs.declared.due.Kind.TheVariants.{Load}
use Rattle.tick.specs.Due.{due}
use Rattle.tick.specs.Taken.{taken}
use Rattle.tick.specs.Tick.{never_loaded, tick}
use Rattle.sheet.specs.Gate.{Effect, fall_effect, rise_effect, high_counts}

-- a channel that has a count underway: it counts, or a gate that fell holds it
abbrev pub underway : ChannelState → Bool
underway WaitingForReload = false
underway WaitingForGate = true
underway DeferLoadCycle = false
underway WaitingForLoadCycle = false
underway WaitingForLoadTrigger = false
underway (Counting f) = true

-- .. and no load is put off to its next tick (M3-8254: "one tick passes after zero")
abbrev pub goes_on : ChannelState → Bool
goes_on WaitingForReload = false
goes_on WaitingForGate = true
goes_on DeferLoadCycle = false
goes_on WaitingForLoadCycle = false
goes_on WaitingForLoadTrigger = false
goes_on (Counting Normal) = true
goes_on (Counting ReloadNextCycle) = false

-- what the table says of a channel's mode: its columns "low or going low", "rising" and "high"
abbrev pub low : Channel → Effect
low c = fall_effect (mode_number c.control.mode)

abbrev pub rise : Channel → Effect
rise c = rise_effect (mode_number c.control.mode)

abbrev pub high : Channel → Bool
high c = high_counts (mode_number c.control.mode)

-- "load on the next tick", and the output that this leaves: low where the table says so, else high. A count of 1 in modes 2 and 3 is not loaded, and the
-- output is high then too
pub record LoadsOnRise (model : PitType) (c : Channel) : Type 0 where
  pub load-due : due (set_gate c true) ≡ Load
  pub level-then : (tick model (set_gate c true)).pins.output ≡ not (rise c).lowers
  pub value-then : never_loaded c ≡ false → (tick model (set_gate c true)).counter.counting_element ≡ load_value c
  pub counting-then : never_loaded c ≡ false → (tick model (set_gate c true)).counter.channel_state ≡ Counting Normal

-- the three columns. "Stops counting" is: any number of ticks leaves the count and what is read, and no tick takes one while the gate is low. "Nothing" is: the
-- level is stored, and that is all
pub record GateAgrees (model : PitType) (c : Channel) : Type 0 where
  -- G0, G2, G3, G4, low or going low: "stops counting"
  pub low-stops : (low c).stops ≡ true → underway c.counter.channel_state ≡ true
      → (j : ℕ) → Kept c (times j (tick model) (set_gate c false))
  pub low-takes-nothing : (low c).stops ≡ true → c.pins.gate ≡ false → taken c ≡ 0
  -- G2, G3, going low: "output high at once", and for as long as the gate is low
  pub low-raises : (low c).raises ≡ true → c.pins.gate ≡ true → (j : ℕ) → (times j (tick model) (set_gate c false)).pins.output ≡ true
  -- G0, G1, G4, G5 have no word of the output: nothing at once
  pub low-leaves : (low c).raises ≡ false → (set_gate c false).pins.output ≡ c.pins.output
  -- G0, M0: counting is all that stops; "high at zero, and it stays high", low before
  pub low_stands : c.control.mode ≡ InterruptOnTerminalCount → underway c.counter.channel_state ≡ true
      → (j : ℕ) → (times j (tick model) (set_gate c false)).pins.output ≡ c.pins.output
  -- G4, M4: "low for the one tick at zero, then high", whatever the gate
  pub low-strobes-once : c.control.mode ≡ SoftwareTriggeredStrobe → underway c.counter.channel_state ≡ true
      → (j : ℕ) → (times (suc j) (tick model) (set_gate c false)).pins.output ≡ true
  -- G1, G5, low or going low: nothing
  pub low-nothing : (low c).stops ≡ false → tick model (set_gate c false) ≡ with_gate (tick model c) false
  -- G1, G2, G3, G5, rising: "load on the next tick"; G0, G4: nothing, and a count underway goes on
  pub rising-loads : (rise c).loads ≡ true → c.pins.gate ≡ false → LoadsOnRise model c
  pub rising-nothing : (rise c).loads ≡ false → set_gate c true ≡ with_gate c true
  pub risen-counts : (rise c).loads ≡ false → goes_on c.counter.channel_state ≡ true
      → (tick model (set_gate c true)).counter.counting_element ≡ (count c).counter.counting_element
  -- G1, G5, high: nothing
  pub high-nothing : high c ≡ false → tick model (with_gate c true) ≡ with_gate (tick model c) true

-- the table holds of every channel on either model, but of one that waits for a reload: there an edge is ignored (docs/DIFFERENCES.md, B2)
abbrev pub GatesAgree : Type 0
GatesAgree = (model : PitType) (c : Channel) → waits_for_reload c.counter.channel_state ≡ false → GateAgrees model c
