use Rattle.std.proofs.Common.{ap, sym, arith}
use Rattle.control.proofs.Named.{named-below}
use Rattle.turn.specs.Finding.{command_turn}
use Rattle.turn.proofs.finding.command_turn.Goals as goal

pub returns-in_default : goal.returns-in_default
returns-in_default c = (ap command_turn c.in-LatchCount.ensures, named-below _ _ (omega arith) _ (sym c.in-LatchCount.ensures))

pub returns : goal.returns
returns c = (ap command_turn c.in-SetMode.ensures, named-below _ _ (omega arith) _ (sym c.in-SetMode.ensures))
