use Rattle.std.proofs.Common.{◌≡◌, ◌∙◌, Some, ap, sym, arith}
use Rattle.ports.specs.declared.port.Port.TheVariants.{Data}
use Rattle.ports.specs.Port.{port_of}
use Rattle.ports.proofs.Below.{data-below}
use Rattle.turn.specs.Finding.{read_turn}
use Rattle.turn.proofs.finding.read_turn.Goals as goal

pub overflow_cast-result : goal.overflow_cast-result
overflow_cast-result c = omega (arith, data-below _ _ (sym c.in-Some.ensures ∙ ap Some c.in-Data.is))

pub returns-in-Data : goal.returns-in-Data
returns-in-Data c =
    let is : port_of c.args.port ≡ Some (Data c.in-Data.n) = sym c.in-Some.ensures ∙ ap Some c.in-Data.is in
    (ap read_turn (sym is), data-below _ _ is)
