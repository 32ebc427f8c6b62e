use Rattle.turn.proofs.Turn.{counts-is}
use Rattle.calls.proofs.calling.counts.Goals as goal

pub returns : goal.returns
returns c = c.bare.ensures _ _ c.counts_turn.ensures.0 (counts-is c.args.b c.args.channel c.args.number)
