use Rattle.text.proofs.Rooms as rooms
use Rattle.words.proofs.said.Goals as goal

pub returns : goal.returns
returns c = rooms.said (rooms.first c.args.text.now _ c.push.ensures) c.new-line.ensures c.requires
