use Rattle.text.proofs.put_decimal.Goals as goal
use Rattle.text.proofs.Decimal.{digits_decimal}
use Rattle.std.proofs.Common.{arith}
use Rattle.std.proofs.lemmas.Grind.{common_steps}

-- src/lib.rt:21:1
pub returns : goal.returns
returns c = grind (arith, common_steps, digits_decimal, c.decimal-k.ensures, c.put.ensures)
