-- Document 01: "The data port numbers are the IBM PC's: 0x40, 0x41, 0x42."; 0x43 is the command port, and others are not the timer's.
use Rattle.std.specs.Prelude.{ℕ, ◌-◌, cond, eqb, ltb, Option, Some, None}
use Rattle.ports.specs.declared.port.Port.{Port}
use Rattle.ports.specs.declared.port.Port.TheVariants.{Data, Command}

unfoldable pub port_of : ℕ → Option Port
port_of port = cond (ltb port 0x40) None (cond (ltb port 0x43) (Some (Data (port - 0x40))) (cond (eqb port 0x43) (Some Command) None))
