-- The turn of an operation: its port or channel found, and what is refused without a look at the board, but for its model and whether it owes ticks, refused. Every call is found
-- so: by value, in a trace and of a host.
use Rattle.std.specs.Prelude.{ℕ, Bool, true, false, cond, ltb, Option, Some, None, Result, Ok, Err}
use Rattle.refusal.specs.declared.Refusal.{Refusal}
use Rattle.refusal.specs.declared.Refusal.TheVariants.{PortUnknown, ChannelAbove2, TicksOwed}
use Rattle.channel.specs.declared.PitType.{PitType}
use Rattle.control.specs.declared.Command.{Command}
use Rattle.control.specs.declared.Command.TheVariants as command
use Rattle.control.specs.Control.{command_of}
use Rattle.latch.specs.Label.{command_label}
use Rattle.board.specs.declared.Answer.TheVariants.{Byte}
use Rattle.time.specs.declared.SystemTicks.{SystemTicks}
use Rattle.ports.specs.declared.port.Port.{Port}
use Rattle.ports.specs.declared.port.Port.TheVariants as port
use Rattle.turn.specs.declared.finding.Work.TheVariants as work
use Rattle.turn.specs.declared.finding.Turn.{Turn}
use Rattle.turn.specs.declared.finding.Turn.TheVariants.{OnChannel, Elapse, Reset, ReadBack, Untouched, Say}

-- 16 "for a port write, gate, reset, catch-up or run while ticks are owed, right after 1, 2 or 3" (02, L1). Those of time have it in clock's `timely`
abbrev pub unless_owing : Bool → Result Turn Refusal → Result Turn Refusal
unless_owing owing turn = cond owing (Err TicksOwed) turn

-- "nothing ..., latch, or mode set", and the read-back of 02, L5
abbrev pub command_turn : Command → Turn
command_turn command.Nothing = Untouched
command_turn (command.LatchCount n) = OnChannel n work.Latch
command_turn (command.SetMode n word) = OnChannel n (work.SetMode word)
command_turn (command.ReadBack word) = ReadBack word

-- 1 "port not 0x40 to 0x43", then 16, whatever the byte would do
abbrev pub write_turn : Bool → PitType → Option Port → ℕ → Result Turn Refusal
write_turn owing model (Some (port.Data n)) byte = unless_owing owing (Ok (OnChannel n (work.Write byte)))
write_turn owing model (Some port.Command) byte = unless_owing owing (Ok (command_turn (command_of model byte)))
write_turn owing model None byte = Err PortUnknown

-- "The command port reads 0."
abbrev pub read_turn : Option Port → Result Turn Refusal
read_turn (Some (port.Data n)) = Ok (OnChannel n work.Read)
read_turn (Some port.Command) = Ok (Say (Byte (record { byte = 0; label = command_label })))
read_turn None = Err PortUnknown

-- 2 "channel above 2"
abbrev pub channel_turn : ℕ → Result Turn Refusal → Result Turn Refusal
channel_turn channel turn = cond (ltb 2 channel) (Err ChannelAbove2) turn

-- 16 right after 2
abbrev pub gate_turn : Bool → ℕ → Bool → Result Turn Refusal
gate_turn owing channel level = channel_turn channel (unless_owing owing (Ok (OnChannel channel (work.SetGate level))))

-- counts have refusal 2 alone, whatever their number: "Lift the limit on one call to 4,294,967,295" (02, L6)
abbrev pub counts_turn : ℕ → ℕ → Result Turn Refusal
counts_turn channel number = channel_turn channel (Ok (OnChannel channel (work.Counts number)))

-- so has a load cycle
abbrev pub load_cycle_turn : ℕ → Result Turn Refusal
load_cycle_turn channel = channel_turn channel (Ok (OnChannel channel work.LoadCycle))

-- "Catch-up then sets the warp to its ticks and the defer flag to true; run sets the warp to 0"
abbrev pub catch_up_turn : SystemTicks → Turn
catch_up_turn given = Elapse given given true

-- .. and leaves the defer flag
abbrev pub run_turn : SystemTicks → Turn
run_turn given = Elapse given (record { 0 = 0 }) false

-- a reset has refusal 16 alone
abbrev pub reset_turn : Bool → Result Turn Refusal
reset_turn owing = unless_owing owing (Ok Reset)
