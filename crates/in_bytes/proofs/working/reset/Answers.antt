use Rattle.std.proofs.Common.{[], ◌∷◌, ◌∙◌, ap}
use Rattle.channel.specs.Fresh as channel
use Rattle.board.specs.Board.{owing}
use Rattle.board.specs.Making.{restored}
use Rattle.board_encoding.specs.Loaded.{board_in}
use Rattle.in_bytes.specs.Called.{stored}
use Rattle.in_bytes.proofs.working.reset.Goals as goal

pub returns : goal.returns
unfolding restored
returns c =
    let bytes = c.args.bytes.now in
    let board = board_in bytes in
    let first = c.reset.ensures ∙ ap channel.reset c.channel_in-c0.ensures in
    let second = c.reset-2.ensures ∙ ap channel.reset c.channel_in-c1.ensures in
    let third = c.reset-3.ensures ∙ ap channel.reset c.channel_in-c2.ensures in
    c.put_channels.ensures ∙ (λ i. stored (owing board (c.owed_in-owed.ensures i).0 (first i ∷ second i ∷ third i ∷ [])) bytes)
