use Rattle.text.proofs.room.Text.push_decimal.Goals as goal
use Rattle.text.proofs.Decimal.{digits_decimal}
use Rattle.std.proofs.Common.{arith}
use Rattle.std.proofs.lemmas.Grind.{common_steps}

pub returns : goal.returns
returns g c = grind (arith, common_steps, digits_decimal, c.decimal-size.ensures, c.push.ensures)
