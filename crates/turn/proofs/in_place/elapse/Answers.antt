use Rattle.std.proofs.Common.{refl}
use Rattle.turn.proofs.in_place.elapse.Goals as goal

pub returns : goal.returns
returns c = c.elapse-answer.ensures c.args.b.now refl
