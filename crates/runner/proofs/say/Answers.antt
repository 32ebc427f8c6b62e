-- Where nothing is said, nothing is put.
use Rattle.std.proofs.Common.{sym, arith}
use Rattle.runner.proofs.Loop.{put-nothing}
use Rattle.runner.proofs.say.Goals as goal

pub returns-in-Silent : goal.returns-in-Silent
returns-in-Silent c = rw c.in-Silent.is (record { told = sym (put-nothing c.args.out.now c.args.place); short = omega arith })
