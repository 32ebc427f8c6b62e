use Rattle.turn.proofs.Turn.{load-cycle-is}
use Rattle.calls.proofs.calling.load_cycle.Goals as goal

pub returns : goal.returns
returns c = c.bare.ensures _ _ c.load_cycle_turn.ensures.0 (load-cycle-is c.args.b c.args.channel)
