-- The table as it is written is `packed_from 0 1000`, one computed test; `packed-at` is the rule of each entry.
use Rattle.std.proofs.Common.{◌%◌, arith}
use Rattle.numbers.specs.Digits.{packed}
use Rattle.count.proofs.ThreeDigits.{packed-at}
use Rattle.count.proofs.table.three_digits.Goals as goal

pub returns : goal.returns
unfolding packed
returns c = packed-at 0 1000 c.from.result (c.args.value % 1000) (omega (arith, c.from.ensures)) (omega arith)
