-- The command port's answer: 0, and no channel is asked what to say of it. Assumes nothing.
use mathlib.Core.Bool.{false}
use mathlib.Core.Path.{◌≡◌, refl}
use Rattle.refusal.specs.Reply.{accepted}
use Rattle.std.specs.Prelude.{None}
use Rattle.board.specs.declared.Board.{Board}
use Rattle.board.specs.Outcome.{byte}
use Rattle.ports.specs.Port.{port_of}
use Rattle.ports.specs.Reads.{read_port}

pub command-read : (b : Board) → (read_port b 0x43).reply ≡ accepted (byte (record { byte = 0; label = record { half = None; held = false } }))
unfolding read_port port_of
command-read b = refl
