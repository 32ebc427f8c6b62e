-- What happened to a channel of the board in a list of calls, in RB3's words (crates/sheet/specs/NullCount.antt), the latest first: mode sets, whole counts written, and values loaded
-- into the counting element by a load cycle, by hand or by a tick.
use Rattle.std.specs.Prelude.{ℕ, zero, suc, ◌+◌, cond, List, [], ◌∷◌, eqb}
use Rattle.numbers.specs.Times.{times}
use Rattle.sheet.specs.NullCount.{Happening, programmed, written, loaded}
use Rattle.channel.specs.declared.Channel.{Channel}
use Rattle.channel.specs.declared.PitType.{PitType}
use Rattle.channel.specs.Shared.{waits_for_cycle}
use Rattle.control.specs.declared.Command.{Command}
use Rattle.control.specs.declared.Command.TheVariants.{Nothing, LatchCount, SetMode, ReadBack}
use Rattle.control.specs.Control.{command_of}
use Rattle.load.specs.Write.{begins_word, word_in}
use Rattle.load.specs.Cycle.{load_cycle}
use Rattle.tick.specs.Loads.{loads}
use Rattle.tick.specs.Tick.{tick}
use Rattle.board.specs.declared.Board.{Board}
use Rattle.board.specs.Board.{channel_at}
use Rattle.step.specs.Operation.{Operation, WritePort, ReadPort, SetChannelGate, Counts, LoadCycle, CatchUp, Run, Reset, GetOutputState, GetChannelCount, DoesChannelRetrigger, IsDirty, GetTimerAccum, WorkOff}
use Rattle.step.specs.Accepted.{unless_refused}
use Rattle.step.specs.Owed.{made_by}
use Rattle.step.specs.Step.{step}

-- a byte to the channel's own port: "for two bytes: after the second"
abbrev pub byte_happens : Channel → ℕ → List Happening → List Happening
byte_happens c byte earlier =
    cond (begins_word c.control.rw_mode c.load.load_state) earlier
    (written (word_in c.control.rw_mode c.load.count_register byte) ∷ earlier)

-- of the commands only a mode set of channel i
abbrev pub command_happens : ℕ → Command → List Happening → List Happening
command_happens i Nothing earlier = earlier
command_happens i (LatchCount n) earlier = earlier
command_happens i (SetMode n word) earlier = cond (eqb n i) (programmed ∷ earlier) earlier
command_happens i (ReadBack word) earlier = earlier

-- 01: the data ports are 0x40, 0x41, 0x42; 0x43 is the command port
abbrev pub port_happens : ℕ → Board → ℕ → ℕ → List Happening → List Happening
port_happens i b port byte earlier =
    cond (eqb port (0x40 + i)) (byte_happens (channel_at b i) byte earlier)
    (cond (eqb port 0x43) (command_happens i (command_of b.model byte) earlier) earlier)

-- a load cycle by hand, where the channel waits for it: the value that the element takes
abbrev pub cycle_happens : Channel → List Happening → List Happening
cycle_happens c earlier =
    cond (waits_for_cycle c.counter.channel_state) (loaded (load_cycle c).counter.counting_element ∷ earlier) earlier

-- a tick, if it loads
abbrev pub tick_happens : PitType → Channel → List Happening → List Happening
tick_happens model c earlier = cond (loads model c) (loaded (tick model c).counter.counting_element ∷ earlier) earlier

-- so many ticks
abbrev pub ticks_happen : PitType → ℕ → Channel → List Happening → List Happening
ticks_happen model zero c earlier = earlier
ticks_happen model (suc k) c earlier = tick_happens model (times k (tick model) c) (ticks_happen model k c earlier)

-- an accepted call; a reset leaves a fresh channel, to which nothing has happened
abbrev pub call_happens : ℕ → Board → Operation → List Happening → List Happening
call_happens i b (WritePort port byte events place) earlier = port_happens i b port byte earlier
call_happens i b (ReadPort port) earlier = earlier
call_happens i b (SetChannelGate channel level events place) earlier = earlier
call_happens i b (Counts channel number) earlier = earlier
call_happens i b (LoadCycle channel) earlier = cond (eqb channel i) (cycle_happens (channel_at b i) earlier) earlier
call_happens i b (CatchUp given) earlier = earlier
call_happens i b (Run given) earlier = earlier
call_happens i b Reset earlier = []
call_happens i b (GetOutputState channel) earlier = earlier
call_happens i b (GetChannelCount channel) earlier = earlier
call_happens i b (DoesChannelRetrigger channel) earlier = earlier
call_happens i b (IsDirty channel) earlier = earlier
call_happens i b GetTimerAccum earlier = earlier
call_happens i b (WorkOff stated events place) earlier =
    ticks_happen b.model (made_by (step b (WorkOff stated events place)).reply) (channel_at b i) earlier

-- nothing happens in a refused one
abbrev pub happens : ℕ → Board → Operation → List Happening → List Happening
happens i b o earlier = unless_refused (step b o).reply earlier (call_happens i b o earlier)

abbrev pub happened : ℕ → Board → List Operation → List Happening → List Happening
happened i b [] earlier = earlier
happened i b (o ∷ os) earlier = happened i (step b o).board os (happens i b o earlier)
