use Rattle.std.proofs.Common.{refl}
use Rattle.turn.proofs.in_place.read_back.Goals as goal

pub returns : goal.returns
returns c = c.read_back_three.ensures c.args.b.now refl
