-- A read of a channel's record and a read of its port answer alike (specs/Alike.antt). Assumes nothing.
use Prim.Native.Nat.{◌+◌}
use mathlib.Core.Path.{ap}
use Rattle.board.specs.Outcome.{Outcome}
use Rattle.ports.specs.Reads.{read_from, read_port}
use Rattle.ports.proofs.Below.{data-port}
use Rattle.channel_operation.specs.Made as channel
use Rattle.board_operation.specs.declared.Operation.TheVariants.{ReadPort}
use Rattle.board_operation.specs.Made.{in_numbers, operate}
use Rattle.board_operation.specs.Alike.{ReadsAlike}

pub reads-alike : ReadsAlike
unfolding operate channel.operate read_port
reads-alike b i on events place = ap (λ (o : Outcome). in_numbers (ReadPort (0x40 + i)) events o) (ap (read_from b) (data-port i on))
