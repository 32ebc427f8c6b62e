use Rattle.std.proofs.Common.{Ok, ap}
use Rattle.turn.proofs.Turn.{catch-up-is}
use Rattle.calls.proofs.calling.catch_up.Goals as goal

pub returns : goal.returns
returns c = c.bare.ensures _ _ (ap Ok c.catch_up_turn.ensures.0) (catch-up-is c.args.b c.args.ticks)
