-- The array has three channels.
use Rattle.board.proofs.Channels.{three-are}
use Rattle.ports.proofs.ReadingBacks.{three-read}
use Rattle.ports.proofs.reading_back.read_back_three.Goals as goal

pub returns : goal.returns
returns c b has =
    let a = c.args in
    three-read b a.channels.now has a.word a.events.now a.place (three-are a.channels.now c.told-channels) c.read_back_at.ensures c.read_back_at-2.ensures
    c.read_back_at-3.ensures c.in_ok-at.at c.place_event.new.events c.in_ok-at.ensures
