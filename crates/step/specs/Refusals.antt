-- Document 01, "Refusal numbers": the table's conditions, and the order in which a call tests them.
use Rattle.std.specs.Prelude.{ℕ, ◌+◌, ◌-◌, ◌<◌, ◌≤◌, Bool, List, [], ◌∷◌, ◌⊎◌, ◌≡◌, length, Option, Some, None}
use Rattle.control.specs.declared.Command.{Command}
use Rattle.control.specs.declared.Command.TheVariants.{Nothing, LatchCount, SetMode, ReadBack}
use Rattle.control.specs.Control.{command_of}
use Rattle.mode.specs.Mode.{output_after}
use Rattle.board.specs.declared.Board.{Board}
use Rattle.board.specs.Board.{channel_at}
use Rattle.ports.specs.declared.port.Port.{Port}
use Rattle.ports.specs.declared.port.Port.TheVariants as port
use Rattle.ports.specs.Port.{port_of}
use Rattle.step.specs.Operation.{Operation, WritePort, ReadPort, SetChannelGate, Counts, LoadCycle, CatchUp, Run, Reset, GetOutputState, GetChannelCount, DoesChannelRetrigger, IsDirty, GetTimerAccum, WorkOff}
use Rattle.step.specs.Levels.{level_at, level_after_write, level_after_gate}

-- a number of the table, and its "Given exactly when"
pub record Row : Type 1 where
  pub number : ℕ
  pub condition : Type 0

-- 1: "port not 0x40 to 0x43"
abbrev pub port_unknown : ℕ → Row
port_unknown port = record { number = 1; condition = ((0x40 ≤ port) × (port ≤ 0x43)) → ⊥ }

-- 2: "channel above 2"
abbrev pub channel_above2 : ℕ → Row
channel_above2 channel = record { number = 2; condition = 2 < channel }

-- 3: "divisor 0"
abbrev pub divisor_zero : ℕ → Row
divisor_zero divisor = record { number = 3; condition = divisor ≡ 0 }

-- 4: "ticks below the warp"
abbrev pub ticks_below_warp : Board → ℕ → Row
ticks_below_warp b given = record { number = 4; condition = given < b.warp.0 }

-- 5: "remainder + (ticks - warp) above 4,294,967,295"
abbrev pub remainder_too_large : Board → ℕ → Row
remainder_too_large b given = record { number = 5; condition = 4294967295 < b.remainder.0 + (given - b.warp.0) }

-- 6 was "more than 65,536 counts asked in one call", and "is never given again" (02, L6)

-- 7: "event place past the end of the event bytes"
abbrev pub place_past_end : List ℕ → ℕ → Row
place_past_end events place = record { number = 7; condition = length events < place }

-- 8: "an event is due and fewer than 2 bytes are left from the place"
abbrev pub no_room : Type 0 → List ℕ → ℕ → Row
no_room due events place = record { number = 8; condition = due × (length events - place < 2) }

-- 15: "for a stated number above 65,536" (02, L1)
abbrev pub too_many_ticks : ℕ → Row
too_many_ticks stated = record { number = 15; condition = 65536 < stated }

-- 16: "for a port write, gate, reset, catch-up or run while ticks are owed" (02, L1)
abbrev pub ticks_owed : Board → Row
ticks_owed b = record { number = 16; condition = 0 < b.owed.0 }

-- "a change of output level": an event is due. "Setting a level that already stands is no event."
abbrev pub Changes : Bool → Bool → Type 0
Changes was is = was ≡ is → ⊥

-- a latch and a read-back move no output, and nothing does nothing
abbrev pub CommandDue : Board → Command → Type 0
CommandDue b Nothing = ⊥
CommandDue b (LatchCount n) = ⊥
CommandDue b (SetMode n word) = Changes (level_at b n) (output_after word.mode)
CommandDue b (ReadBack word) = ⊥

-- whether a byte to a port makes an event due
abbrev pub WriteDue : Board → Option Port → ℕ → Type 0
WriteDue b (Some (port.Data n)) byte = Changes (level_at b n) (level_after_write (channel_at b n))
WriteDue b (Some port.Command) byte = CommandDue b (command_of b.model byte)
WriteDue b None byte = ⊥

-- whether a gate level does
abbrev pub GateDue : Board → ℕ → Bool → Type 0
GateDue b n level = Changes (level_at b n) (level_after_gate (channel_at b n) level)

-- "7, 8"
abbrev pub room_order : Type 0 → List ℕ → ℕ → List Row
room_order due events place = place_past_end events place ∷ no_room due events place ∷ []

-- "time calls 3, 4, 5", with 16 "right after 1, 2 or 3"
abbrev pub time_order : Board → ℕ → List Row
time_order b given = divisor_zero b.divisor ∷ ticks_owed b ∷ ticks_below_warp b given ∷ remainder_too_large b given ∷ []

-- "Order: port write 1, 7, 8; read 1; gate 2, 7, 8; counts 2, 6; load cycle and channel queries 2; time calls 3, 4, 5"; "6 is never given
-- again" (02, L6); 16 "right after 1, 2 or 3 where these apply"; "15 ..., after 7"
abbrev pub order : Board → Operation → List Row
order b (WritePort port byte events place) = port_unknown port ∷ ticks_owed b ∷ room_order (WriteDue b (port_of port) byte) events place
order b (ReadPort port) = port_unknown port ∷ []
order b (SetChannelGate channel level events place) = channel_above2 channel ∷ ticks_owed b ∷ room_order (GateDue b channel level) events place
order b (Counts channel number) = channel_above2 channel ∷ []
order b (LoadCycle channel) = channel_above2 channel ∷ []
order b (CatchUp given) = time_order b given
order b (Run given) = time_order b given
order b Reset = ticks_owed b ∷ []
order b (GetOutputState channel) = channel_above2 channel ∷ []
order b (GetChannelCount channel) = channel_above2 channel ∷ []
order b (DoesChannelRetrigger channel) = channel_above2 channel ∷ []
order b (IsDirty channel) = channel_above2 channel ∷ []
order b GetTimerAccum = []
order b (WorkOff stated events place) = place_past_end events place ∷ too_many_ticks stated ∷ []

-- "making a board 3"
abbrev pub making_order : ℕ → List Row
making_order divisor = divisor_zero divisor ∷ []

-- the number of the first refusal whose condition holds: it holds, and none before it does
abbrev pub FirstOf : List Row → ℕ → Type 0
FirstOf [] number = ⊥
FirstOf (r ∷ rest) number = ((number ≡ r.number) × r.condition) ⊎ ((r.condition → ⊥) × FirstOf rest number)
