use Rattle.std.proofs.Common.{Ok, ap}
use Rattle.turn.proofs.Turn.{run_is}
use Rattle.calls.proofs.calling.run.Goals as goal

pub returns : goal.returns
returns c = c.bare.ensures _ _ (ap Ok c.run_turn.ensures.0) (run_is c.args.b c.args.ticks)
