use Rattle.owed.proofs.Puts.{put-placed}
use Rattle.owed.proofs.put_event.Goals as goal

pub returns : goal.returns
returns c = rw c.unwrap_or.ensures (put-placed c.args.event c.args.events.now c.args.place c.requires c.place_event.result _ c.place_event.ensures)
