-- What calls of the board do to the pins of a channel, its gate and its clock.
use Rattle.std.specs.Prelude.{ℕ, zero, suc, ◌+◌, Bool, true, false, cond, List, [], ◌∷◌, ◌++◌, ◌≡◌, eqb}
use Rattle.board.specs.declared.Board.{Board}
use Rattle.step.specs.Operation.{Operation, WritePort, ReadPort, SetChannelGate, Counts, LoadCycle, CatchUp, Run, Reset, GetOutputState, GetChannelCount, DoesChannelRetrigger, IsDirty, GetTimerAccum, WorkOff}
use Rattle.step.specs.Owed.{made_by}
use Rattle.step.specs.Accepted.{unless_refused}
use Rattle.step.specs.Step.{step}
use Rattle.sheet.specs.ControlByte.{Request, no_counter, latch_counter, program, request_of}
use Rattle.sheet.specs.Ticking.{Chip}
use Rattle.sheet.specs.Counter.{Fixed, left_open, fixed_at}
use Rattle.agreement.specs.Watching.{Watch, watch_tick, watch_gate}

pub data Pulse : Type 0 where
  gate_at : Bool → Pulse
  clock : Pulse

-- so many ticks
abbrev pub clocks : ℕ → List Pulse
clocks zero = []
clocks (suc k) = clock ∷ clocks k

abbrev pub no_pulse : Fixed (List Pulse)
no_pulse = fixed_at []

-- What an accepted call does to the pins of channel i. It is open where the call does something else to the channel: a byte or a mode set for it, counts or a load
-- cycle by hand, a reset
abbrev pub control_pins : ℕ → Request → Fixed (List Pulse)
control_pins i no_counter = no_pulse
control_pins i (latch_counter n) = no_pulse
control_pins i (program n access mode bcd) = cond (eqb n i) left_open no_pulse

abbrev pub pins_of : ℕ → Board → Operation → Fixed (List Pulse)
pins_of i b (WritePort port byte events place) = cond (eqb port (0x40 + i)) left_open (cond (eqb port 0x43) (control_pins i (request_of byte)) no_pulse)
pins_of i b (ReadPort port) = no_pulse
pins_of i b (SetChannelGate channel level events place) = cond (eqb channel i) (fixed_at (gate_at level ∷ [])) no_pulse
pins_of i b (Counts channel number) = cond (eqb channel i) left_open no_pulse
pins_of i b (LoadCycle channel) = cond (eqb channel i) left_open no_pulse
pins_of i b (CatchUp given) = no_pulse
pins_of i b (Run given) = no_pulse
pins_of i b Reset = left_open
pins_of i b (GetOutputState channel) = no_pulse
pins_of i b (GetChannelCount channel) = no_pulse
pins_of i b (DoesChannelRetrigger channel) = no_pulse
pins_of i b (IsDirty channel) = no_pulse
pins_of i b GetTimerAccum = no_pulse
pins_of i b (WorkOff stated events place) = fixed_at (clocks (made_by (step b (WorkOff stated events place)).reply))

-- .. over a list of calls, of which the refused ones do nothing
abbrev pub joined : Fixed (List Pulse) → Fixed (List Pulse) → Fixed (List Pulse)
joined left_open more = left_open
joined (fixed_at ps) left_open = left_open
joined (fixed_at ps) (fixed_at qs) = fixed_at (ps ++ qs)

abbrev pub pins_over : ℕ → Board → List Operation → Fixed (List Pulse)
pins_over i b [] = no_pulse
pins_over i b (o ∷ os) = joined (unless_refused (step b o).reply no_pulse (pins_of i b o)) (pins_over i (step b o).board os)

-- what the sheets' counter makes of them
abbrev pub pulsed : Chip → Watch → List Pulse → Watch
pulsed chip w [] = w
pulsed chip w (gate_at level ∷ ps) = pulsed chip (watch_gate w level) ps
pulsed chip w (clock ∷ ps) = pulsed chip (watch_tick chip w) ps

-- of a list: its ticks, and the level at the gate after it
abbrev pub clocks_in : List Pulse → ℕ
clocks_in [] = 0
clocks_in (gate_at level ∷ ps) = clocks_in ps
clocks_in (clock ∷ ps) = suc (clocks_in ps)

abbrev pub last_level : Bool → List Pulse → Bool
last_level gate [] = gate
last_level gate (gate_at level ∷ ps) = last_level level ps
last_level gate (clock ∷ ps) = last_level gate ps

-- the gate does not rise in a list, nor, where the mode stops on a low gate, fall
abbrev pub MayMove : Bool → Bool → Bool → Type 0
MayMove stops true true = Unit
MayMove stops true false = stops ≡ false
MayMove stops false true = ⊥
MayMove stops false false = Unit

abbrev pub Undisturbed : Bool → Bool → List Pulse → Type 0
Undisturbed stops gate [] = Unit
Undisturbed stops gate (gate_at level ∷ ps) = MayMove stops gate level × Undisturbed stops level ps
Undisturbed stops gate (clock ∷ ps) = Undisturbed stops gate ps

-- the ticks made while the gate was high, from a level and a number on; and whether the last tick was one
abbrev pub high_clocks : Bool → ℕ → List Pulse → ℕ
high_clocks gate r [] = r
high_clocks gate r (gate_at level ∷ ps) = high_clocks level r ps
high_clocks gate r (clock ∷ ps) = high_clocks gate (cond gate (suc r) r) ps

abbrev pub last_counted : Bool → Bool → List Pulse → Bool
last_counted gate was [] = was
last_counted gate was (gate_at level ∷ ps) = last_counted level was ps
last_counted gate was (clock ∷ ps) = last_counted gate gate ps
