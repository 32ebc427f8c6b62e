use Rattle.std.proofs.Common.{refl}
use Rattle.turn.proofs.in_place.work_off.Goals as goal

pub returns : goal.returns
returns c = c.work_channels.ensures c.args.b.now (record { channels-are = refl; model_is = refl; owed-is = refl })
