-- What a level at the gate leaves of a record: the level, a state and an output. Assumes nothing.
use Prim.Native.Nat.{ℕ}
use mathlib.Core.Bool.{Bool, true, false, cond}
use mathlib.Core.Path.{◌≡◌, refl, sym, ap, ◌∙◌, subst}
use Rattle.channel.specs.declared.Channel.{Channel}
use Rattle.channel.specs.declared.ChannelState.{ChannelState}
use Rattle.channel.specs.declared.ChannelState.TheVariants.{WaitingForGate, WaitingForLoadCycle}
use Rattle.channel.specs.declared.ControlWord.{ControlWord}
use Rattle.channel.specs.declared.Load.{Load}
use Rattle.channel.specs.declared.PitType.{PitType}
use Rattle.channel.specs.Shared.{waits_for_reload, change_channel_state, change_output_state}
use Rattle.channel.proofs.Pick.{pick_same}
use Rattle.gate.specs.Gate as gate
use Rattle.gate.proofs.Keeps.{gate-keeps}
use Rattle.sheet.specs.Counter.{Fixed, Phase}
use Rattle.agreement.specs.Watching.{watching, IsFixed, HoldsValue}
use Rattle.agreement.proofs.Tracking.{Core, core_of, view, Halved, Rules, PhaseAt, Tracks, tracked}
use Rattle.agreement.proofs.GateTables.{gate-load}

-- a record with its gate at a level, in a state, with its output at a level
abbrev pub gated_core : Bool → ChannelState → Bool → Core → Core
gated_core level s output c =
    record {
      control = c.control;
      reloading = c.reloading;
      load = c.load;
      state = s;
      element = c.element;
      pins = record { gate = level; output = output };
    }

-- the state that 01's falling edge enters in modes 2, 3, 4
abbrev pub fall_state : Bool → ChannelState → ChannelState
fall_state stops s = cond stops WaitingForGate s

pub no_edge : (level : Bool) (c : Channel) → gate.edge level level c ≡ c
no_edge true c = refl
no_edge false c = refl

module _ (c : Channel) where
  pub level-core : (level : Bool) → waits_for_reload c.counter.channel_state ≡ true
      → core_of (gate.set_gate c level) ≡ gated_core level c.counter.channel_state c.pins.output (core_of c)
  unfolding gate.set_gate
  level-core level waits = simp waits

  pub own-level : core_of (gate.set_gate c c.pins.gate) ≡ core_of c
  unfolding gate.set_gate
  own-level = simp (no_edge c.pins.gate c, pick_same)

  pub same-core : (level : Bool) → c.pins.gate ≡ level → core_of (gate.set_gate c level) ≡ core_of c
  same-core level is = subst (λ (l : Bool). core_of (gate.set_gate c l) ≡ core_of c) is own-level

  pub rise-core : (loads : Bool) → waits_for_reload c.counter.channel_state ≡ false → c.pins.gate ≡ false → gate.loads_on_rise c.control.mode ≡ loads
      → core_of (gate.set_gate c true) ≡ gated_core true (cond loads WaitingForLoadCycle c.counter.channel_state) c.pins.output (core_of c)
  unfolding gate.set_gate change_channel_state
  rise-core true acts low loads = simp (acts, low, loads)
  rise-core false acts low loads = simp (acts, low, loads)

  pub fall-core : (stops raises : Bool) → waits_for_reload c.counter.channel_state ≡ false → c.pins.gate ≡ true
      → gate.stops_on_fall c.control.mode ≡ stops → gate.high_on_fall c.control.mode ≡ raises
      → core_of (gate.set_gate c false) ≡ gated_core false (fall_state stops c.counter.channel_state) (cond raises true c.pins.output) (core_of c)
  unfolding gate.set_gate change_channel_state change_output_state
  fall-core true true acts high stops raises = simp (acts, high, stops, raises)
  fall-core true false acts high stops raises = simp (acts, high, stops, raises)
  fall-core false true acts high stops raises = simp (acts, high, stops, raises)
  fall-core false false acts high stops raises = simp (acts, high, stops, raises)

module _ (model : PitType) (one : Fixed Bool) (v : Fixed ℕ) (c : Channel) (rules : Rules model one (core_of c))
    (value-is : HoldsValue v c.control.bcd_mode c.counter.counting_element) where
  pub half-gated : (level : Bool) → Halved (core_of (gate.set_gate c level))
  half-gated level both zero waits =
      let is =
      rules.half (ap (λ (w : ControlWord). w.rw_mode) (sym (gate-keeps c level).control-kept) ∙ both)
      (ap (λ (w : ControlWord). w.mode) (sym (gate-keeps c level).control-kept) ∙ zero)
      (ap (λ (l : Load). l.load_state) (sym (gate-load c level)) ∙ waits) in
      let core = level-core c level (ap waits_for_reload is.0) in
      (ap (λ (d : Core). d.state) core ∙ is.0, ap (λ (d : Core). d.pins.output) core ∙ is.1)

  -- the record with another level, state and output
  pub lands : (level : Bool) (s : ChannelState) (output : Bool) (q : Phase) (o : Fixed Bool) (late : Bool)
      → PhaseAt q late model (gated_core level s output (core_of c)) → IsFixed o output → core_of (gate.set_gate c level) ≡ gated_core level s output (core_of c)
      → Tracks model (watching (view (gated_core level s output (core_of c)) q o v) late one) (core_of (gate.set_gate c level))
  lands level s output q o late there output-is is =
      subst (Tracks model (watching (view (gated_core level s output (core_of c)) q o v) late one)) (sym is)
      (tracked q o v late one refl
      (record {
        rules = record { masked = rules.masked; one-is = rules.one-is; rule-is = rules.rule-is; sixteen = rules.sixteen; half = subst Halved is (half-gated level) };
        phase-is = there;
        output-is = output-is;
        value-is = value-is;
      }))
