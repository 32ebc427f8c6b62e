use Rattle.turn.proofs.Turn.{read_is}
use Rattle.calls.proofs.calling.read_port.Goals as goal

pub returns : goal.returns
returns c = c.bare.ensures _ _ c.read_turn.ensures.0 (read_is c.args.b c.args.port)
