-- docs/ENCODING.md, "An answer": the channel that an operation leaves and the three numbers that it answers.
use Rattle.std.specs.Prelude.{ℕ, cond}
use Rattle.numbers.specs.Flags.{flag_number}
use Rattle.channel.specs.declared.Channel.{Channel}
use Rattle.channel.specs.declared.PitType.{PitType}
use Rattle.channel.specs.Fresh.{reset}
use Rattle.channel.specs.Queries.{get_output_state, get_channel_count, does_channel_retrigger, is_dirty}
use Rattle.control.specs.declared.Command.{Command}
use Rattle.control.specs.declared.Command.TheVariants.{Nothing, LatchCount, SetMode, ReadBack}
use Rattle.control.specs.declared.ReadBackWord.{ReadBackWord}
use Rattle.control.specs.Control.{names_any, command_of}
use Rattle.count.specs.Count.{count}
use Rattle.latch.specs.Latching.{latch_count}
use Rattle.latch.specs.ReadBack.{read_back}
use Rattle.latch.specs.Reading.{read_byte}
use Rattle.latch.specs.Label.{label_of, half_number}
use Rattle.load.specs.Write.{write_byte}
use Rattle.load.specs.Cycle.{load_cycle}
use Rattle.gate.specs.Gate.{set_gate}
use Rattle.mode.specs.Mode.{set_mode}
use Rattle.channel_operation.specs.declared.Operation.{Operation}
use Rattle.channel_operation.specs.declared.Operation.TheVariants.{WriteByte, ReadByte, SetGate, Count, LoadCycle, Reset, ControlByte, GetOutputState, GetChannelCount, DoesChannelRetrigger, IsDirty}
use Rattle.channel_operation.specs.declared.making.Made.{Made}

abbrev pub answered : Channel → ℕ → ℕ → ℕ → Made
answered c a b d = record { channel = c; first = a; second = b; third = d }

-- "what an operation does not answer is 0"
abbrev pub silent : Channel → Made
silent c = answered c 0 0 0

-- "4 for a read-back"; "the record stands for the channel that the byte names", of a read-back for one of those that it names, if it names one
abbrev pub read_back_made : Channel → ReadBackWord → Made
read_back_made c w = cond (names_any w) (answered (read_back w.counts w.status c) 4 0 0) (answered c 4 0 0)

-- "the channel that the byte names; 3 for nothing"
abbrev pub commanded : Channel → Command → PitType → Made
commanded c Nothing model = answered c 3 0 0
commanded c (LatchCount n) model = answered (latch_count c) n 0 0
commanded c (SetMode n w) model = answered (set_mode c w model) n 0 0
commanded c (ReadBack w) model = read_back_made c w

unfoldable pub operate : Channel → Operation → Made
operate c (WriteByte byte defer) = silent (write_byte c byte defer)
operate c ReadByte = answered (read_byte c).channel (read_byte c).byte (half_number (label_of c).half) (flag_number (label_of c).held)
operate c (SetGate level) = silent (set_gate c level)
operate c Count = silent (count c)
operate c LoadCycle = silent (load_cycle c)
operate c Reset = silent (reset c)
operate c (ControlByte byte model) = commanded c (command_of model byte) model
operate c GetOutputState = answered c (flag_number (get_output_state c)) 0 0
operate c GetChannelCount =
    answered c (get_channel_count c).count_register (get_channel_count c).counting_element (flag_number (get_channel_count c).counting)
operate c DoesChannelRetrigger = answered c (flag_number (does_channel_retrigger c)) 0 0
operate c IsDirty =
    answered (is_dirty c).channel (flag_number (is_dirty c).dirty) (flag_number (is_dirty c).counting) (flag_number (is_dirty c).ticked)
