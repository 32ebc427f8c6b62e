-- Calls of which a channel hears nothing but its pins, over a list: the sheets' counter makes of them what it makes of the pulses. Assumes nothing.
use Prim.Native.Nat.{ℕ, zero, suc, ◌+◌}
use mathlib.Core.Bool.{Bool, true, false, true≢false, cond}
use mathlib.Core.List.{List, [], ◌∷◌, ◌++◌}
use mathlib.Core.Path.{◌≡◌, refl, sym, ap, ◌∙◌}
use lib.Dec.{eqb}
use Rattle.numbers.specs.Times.{times}
use Rattle.refusal.specs.Reply.{Reply}
use Rattle.channel.specs.declared.PitType.{PitType}
use Rattle.board.specs.declared.Board.{Board}
use Rattle.board.specs.Outcome.{Value}
use Rattle.step.specs.Operation.{Operation, WritePort, ReadPort, SetChannelGate, Counts, LoadCycle, CatchUp, Run, Reset, GetOutputState, GetChannelCount, DoesChannelRetrigger, IsDirty, GetTimerAccum, WorkOff}
use Rattle.step.specs.Owed.{made_by}
use Rattle.step.specs.Accepted.{unless_refused}
use Rattle.step.specs.Step.{step}
use Rattle.step.proofs.Accepted.{by-reply}
use Rattle.step.proofs.Kept.{settings-kept}
use Rattle.sheet.specs.ControlByte.{Request, no_counter, latch_counter, program, request_of}
use Rattle.sheet.specs.Ticking.{Chip}
use Rattle.sheet.specs.Counter.{Fixed, left_open, fixed_at}
use Rattle.agreement.specs.Words.{sheet_chip}
use Rattle.agreement.specs.Watching.{Watch, watch_program, watch_tick, watch_gate, watch_write, watch_counts, watch_cycle}
use Rattle.waveform.specs.Heard.{heard_control, heard_of, hears, defers_after, watch_over}
use Rattle.waveform.specs.Pins.{Pulse, gate_at, clock, clocks, no_pulse, control_pins, pins_of, joined, pins_over, pulsed}
use Rattle.waveform.proofs.Stages.{times-first}

-- what is fixed, taken out
abbrev list_of : Fixed (List Pulse) → List Pulse
list_of left_open = []
list_of (fixed_at ps) = ps

abbrev is_open : Fixed (List Pulse) → Bool
is_open left_open = true
is_open (fixed_at ps) = false

open-not : (ps : List Pulse) → left_open ≡ fixed_at ps → ⊥
open-not ps is = true≢false (ap is_open is)

pub pulsed-both : (chip : Chip) (ps qs : List Pulse) (w : Watch) → pulsed chip w (ps ++ qs) ≡ pulsed chip (pulsed chip w ps) qs
pulsed-both chip [] qs w = refl
pulsed-both chip (gate_at level ∷ ps) qs w = pulsed-both chip ps qs (watch_gate w level)
pulsed-both chip (clock ∷ ps) qs w = pulsed-both chip ps qs (watch_tick chip w)

clocked : (chip : Chip) (k : ℕ) (w : Watch) → times k (watch_tick chip) w ≡ pulsed chip w (clocks k)
clocked chip zero w = refl
clocked chip (suc k) w = times-first k (watch_tick chip) w ∙ clocked chip k (watch_tick chip w)

module _ (i : ℕ) (b : Board) (defers : Bool) (w : Watch) (ps : List Pulse) where
  abbrev chip : Chip
  chip = sheet_chip b.model

  -- nothing is heard_of, and nothing done to the pins
  quiet : no_pulse ≡ fixed_at ps → w ≡ pulsed chip w ps
  quiet is = ap (λ (x : Fixed (List Pulse)). pulsed chip w (list_of x)) is

  one_of : (same : Bool) (other : Watch) → cond same left_open no_pulse ≡ fixed_at ps → cond same other w ≡ pulsed chip w ps
  one_of true other is = absurd (open-not ps is)
  one_of false other is = quiet is

  control-pins : (r : Request) → control_pins i r ≡ fixed_at ps → heard_control i r w ≡ pulsed chip w ps
  control-pins no_counter is = quiet is
  control-pins (latch_counter n) is = quiet is
  control-pins (program n access mode bcd) is = one_of (eqb n i) (watch_program w access mode bcd) is

  byte-pins : (own command : Bool) (written : Watch) (r : Request) → cond own left_open (cond command (control_pins i r) no_pulse) ≡ fixed_at ps
      → cond own written (cond command (heard_control i r w) w) ≡ pulsed chip w ps
  byte-pins true command written r is = absurd (open-not ps is)
  byte-pins false true written r is = control-pins r is
  byte-pins false false written r is = quiet is

  gate-pins : (same level : Bool) → cond same (fixed_at (gate_at level ∷ [])) no_pulse ≡ fixed_at ps → cond same (watch_gate w level) w ≡ pulsed chip w ps
  gate-pins true level is = ap (λ (x : Fixed (List Pulse)). pulsed chip w (list_of x)) is
  gate-pins false level is = quiet is

  heard-pins : (o : Operation) → pins_of i b o ≡ fixed_at ps → heard_of i b defers o w ≡ pulsed chip w ps
  heard-pins (WritePort port byte events place) is =
      byte-pins (eqb port (0x40 + i)) (eqb port 0x43) (watch_write chip defers w byte) (request_of byte) is
  heard-pins (ReadPort port) is = quiet is
  heard-pins (SetChannelGate n level events place) is = gate-pins (eqb n i) level is
  heard-pins (Counts n number) is = one_of (eqb n i) (watch_counts w number) is
  heard-pins (LoadCycle n) is = one_of (eqb n i) (watch_cycle w) is
  heard-pins (CatchUp given) is = quiet is
  heard-pins (Run given) is = quiet is
  heard-pins Reset is = absurd (open-not ps is)
  heard-pins (GetOutputState n) is = quiet is
  heard-pins (GetChannelCount n) is = quiet is
  heard-pins (DoesChannelRetrigger n) is = quiet is
  heard-pins (IsDirty n) is = quiet is
  heard-pins GetTimerAccum is = quiet is
  heard-pins (WorkOff stated events place) is =
      clocked chip (made_by (step b (WorkOff stated events place)).reply) w ∙ ap (λ (x : Fixed (List Pulse)). pulsed chip w (list_of x)) is

  hears-pins : (o : Operation) → unless_refused (step b o).reply no_pulse (pins_of i b o) ≡ fixed_at ps → hears i b defers o w ≡ pulsed chip w ps
  hears-pins o =
      by-reply b o (λ (reply : Reply Value). unless_refused reply no_pulse (pins_of i b o) ≡ fixed_at ps → unless_refused reply w (heard_of i b defers o w) ≡ pulsed chip w ps)
      (λ number e is. quiet is)
      (λ value e is. heard-pins o is)

-- two lists in one
pub record Parted (a b : Fixed (List Pulse)) (ps : List Pulse) : Type 0 where
  pub first : List Pulse
  pub then : List Pulse
  pub first-is : a ≡ fixed_at first
  pub then_is : b ≡ fixed_at then
  pub both-are : first ++ then ≡ ps

parted : (a b : Fixed (List Pulse)) (ps : List Pulse) → joined a b ≡ fixed_at ps → Parted a b ps
parted left_open b ps is = absurd (open-not ps is)
parted (fixed_at qs) left_open ps is = absurd (open-not ps is)
parted (fixed_at qs) (fixed_at rs) ps is = record { first = qs; then = rs; first-is = refl; then_is = refl; both-are = ap list_of is }

pub over-pins : (i : ℕ) (b : Board) (os : List Operation) (ps : List Pulse) → pins_over i b os ≡ fixed_at ps → (defers : Bool) (w : Watch)
    → watch_over i b os defers w ≡ pulsed (sheet_chip b.model) w ps
over-pins i b [] ps is defers w = ap (λ (x : Fixed (List Pulse)). pulsed (sheet_chip b.model) w (list_of x)) is
over-pins i b (o ∷ os) ps is defers w =
    let p = parted (unless_refused (step b o).reply no_pulse (pins_of i b o)) (pins_over i (step b o).board os) ps is in
    over-pins i (step b o).board os p.then p.then_is (defers_after b o defers) (hears i b defers o w)
    ∙ ap (λ (model : PitType). pulsed (sheet_chip model) (hears i b defers o w) p.then) (settings-kept b o).0
    ∙ ap (λ (x : Watch). pulsed (sheet_chip b.model) x p.then) (hears-pins i b defers w p.first o p.first-is)
    ∙ sym (pulsed-both (sheet_chip b.model) p.first p.then w)
    ∙ ap (pulsed (sheet_chip b.model) w) p.both-are
