use Rattle.turn.proofs.Turn.{reset-is}
use Rattle.calls.proofs.calling.reset.Goals as goal

pub returns : goal.returns
returns c = c.bare.ensures _ _ c.reset_turn.ensures.0 (reset-is c.args.b)
