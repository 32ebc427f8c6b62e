-- That the premises of the theorems can be met, where they ask most: mode 4 on a board that defers, whose gate falls and rises after the load; and mode 5, which
-- strobes after its trigger whatever mode was set before. Assumes nothing.
use Prim.Native.Nat.{ℕ}
use mathlib.Core.Bool.{true, false}
use mathlib.Core.List.{List, [], ◌∷◌}
use mathlib.Core.Logic.{inr}
use mathlib.Core.Path.{refl}
use native.Mathlib.Omega.{arith}
use Rattle.channel.specs.declared.ChannelMode.TheVariants.{SoftwareTriggeredStrobe, HardwareTriggeredStrobe}
use Rattle.channel.specs.declared.PitType.TheVariants.{Model8253}
use Rattle.channel.specs.Fresh.{fresh_at}
use Rattle.channel.specs.Shared.{change_channel_state, change_output_state, put_element}
use Rattle.control.specs.Control.{command_of}
use Rattle.count.specs.Count.{count}
use Rattle.gate.specs.Gate.{set_gate}
use Rattle.load.specs.Cycle.{load_value}
use Rattle.load.specs.Finalize.{complete_load, finalize_load}
use Rattle.load.specs.Write.{put_register, write_byte}
use Rattle.mode.specs.Mode.{set_mode}
use Rattle.tick.specs.Due.{due}
use Rattle.tick.specs.Tick.{aged_by, idle, deferred, with_armed, loaded, load_at, counting_on, marked, after_counts, tick}
use Rattle.time.specs.Time.{ticks_from_time}
use Rattle.event.specs.Event.{place_event}
use Rattle.board.specs.declared.Board.{Board}
use Rattle.board.specs.Making.{fresh}
use Rattle.clock.specs.Clock.{catch_up, run}
use Rattle.ports.specs.Port.{port_of}
use Rattle.ports.specs.Settle.{settle}
use Rattle.ports.specs.Gates.{set_channel_gate}
use Rattle.ports.specs.Writes.{write_port}
use Rattle.owed.specs.BoardTick.{board_tick}
use Rattle.owed.specs.Worked.{work_off}
use Rattle.step.specs.Operation.{Operation, WritePort, SetChannelGate, CatchUp, Run, WorkOff}
use Rattle.step.specs.Step.{steps}
use Rattle.sheet.specs.ControlByte.{low_byte}
use Rattle.sheet.specs.Counter.{fixed_at}
use Rattle.agreement.specs.Watching.{Watch, unprogrammed}
use Rattle.waveform.specs.Opened.{Opened, after}
use Rattle.waveform.specs.Pin.{AtThePin}
use Rattle.waveform.specs.Pins.{Pulse, gate_at, clock}
use Rattle.waveform.proofs.Pin.{port-to-pin, gate-pauses}

abbrev new : Board
new = fresh Model8253 12

abbrev start : Watch
start = unprogrammed true (fixed_at false)

abbrev six : List ℕ
six = 0 ∷ 0 ∷ 0 ∷ 0 ∷ 0 ∷ 0 ∷ []

-- mode 0 is set on channel 0 of a fresh board, and a catch-up sets the defer flag; then mode 4 and the count 2
pub deferring : Opened new 0 false start SoftwareTriggeredStrobe false 2
unfolding fresh fresh_at write_port port_of command_of settle place_event set_mode set_channel_gate set_gate write_byte put_register complete_load finalize_load change_channel_state change_output_state put_element catch_up run ticks_from_time work_off board_tick tick due idle deferred aged_by loaded load_at load_value with_armed after_counts counting_on marked count
deferring =
    record {
      earlier = WritePort 0x43 0x10 six 0 ∷ CatchUp 0 ∷ [];
      earlier-bytes = (omega arith, (tt, tt));
      control = 0x18;
      control-byte = omega arith;
      access = low_byte;
      names = refl;
      low = 2;
      high = 0;
      low-byte = omega arith;
      high-byte = omega arith;
      number = refl;
      events = six;
      place = 0;
      took = ((_, refl), ((_, refl), ((_, refl), tt)));
      known = refl;
    }

-- a tick that defers and one that loads; then a tick with the gate low, and two with the gate high
abbrev paused : List Operation
paused =
    Run 24 ∷ WorkOff 2 six 0 ∷ SetChannelGate 0 false six 0 ∷ Run 12 ∷ WorkOff 1 six 0 ∷ SetChannelGate 0 true six 0 ∷ Run 24 ∷ WorkOff 2 six 0 ∷ []

abbrev since : List Pulse
since = gate_at false ∷ clock ∷ gate_at true ∷ clock ∷ clock ∷ []

pub meets-paused : AtThePin (steps (after new 0 false start SoftwareTriggeredStrobe false 2 deferring) paused) 0 false false 0
unfolding fresh fresh_at write_port port_of command_of settle place_event set_mode set_channel_gate set_gate write_byte put_register complete_load finalize_load change_channel_state change_output_state put_element catch_up run ticks_from_time work_off board_tick tick due idle deferred aged_by loaded load_at load_value with_armed after_counts counting_on marked count deferring
meets-paused =
    gate-pauses new 0 false start (inr (Model8253, (12, (refl, (refl, refl))))) (omega arith) SoftwareTriggeredStrobe false 2 deferring paused
    (tt, (tt, (tt, (tt, (tt, (tt, (tt, (tt, tt)))))))) (clock ∷ clock ∷ since) refl (inr refl) since refl

-- mode 5, the count 2 and a trigger on a fresh board, where no mode 1 was set; then three ticks in one call
pub triggered : Opened new 0 false start HardwareTriggeredStrobe false 2
unfolding fresh fresh_at write_port port_of command_of settle place_event set_mode set_channel_gate set_gate write_byte put_register complete_load finalize_load change_channel_state change_output_state put_element catch_up run ticks_from_time work_off board_tick tick due idle deferred aged_by loaded load_at load_value with_armed after_counts counting_on marked count
triggered =
    record {
      earlier = [];
      earlier-bytes = tt;
      control = 0x1A;
      control-byte = omega arith;
      access = low_byte;
      names = refl;
      low = 2;
      high = 0;
      low-byte = omega arith;
      high-byte = omega arith;
      number = refl;
      events = six;
      place = 0;
      took = ((_, refl), ((_, refl), ((_, refl), ((_, refl), ((_, refl), tt)))));
      known = refl;
    }

abbrev ticked : List Operation
ticked = Run 36 ∷ WorkOff 3 six 0 ∷ []

-- so the output is low: the strobe, two ticks after the load
pub meets-triggered : AtThePin (steps (after new 0 false start HardwareTriggeredStrobe false 2 triggered) ticked) 0 false false 0
unfolding fresh fresh_at write_port port_of command_of settle place_event set_mode set_channel_gate set_gate write_byte put_register complete_load finalize_load change_channel_state change_output_state put_element catch_up run ticks_from_time work_off board_tick tick due idle deferred aged_by loaded load_at load_value with_armed after_counts counting_on marked count triggered
meets-triggered =
    port-to-pin new 0 false start (inr (Model8253, (12, (refl, (refl, refl))))) (omega arith) HardwareTriggeredStrobe false 2 triggered ticked (tt, (tt, tt))
    (clock ∷ clock ∷ clock ∷ []) refl tt 2 refl
