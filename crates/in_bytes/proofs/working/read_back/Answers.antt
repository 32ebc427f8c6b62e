use Rattle.std.proofs.Common.{◌∙◌, sym, ap}
use Rattle.board.specs.Board.{owing}
use Rattle.board_encoding.specs.Loaded.{board_in}
use Rattle.in_bytes.specs.Called.{stored}
use Rattle.in_bytes.specs.Inner.{said, written}
use Rattle.in_bytes.proofs.working.read_back.Goals as goal

pub returns : goal.returns
returns c =
    let bytes = c.args.bytes.now in
    let board = board_in bytes in
    let done = c.read_back_three-answer in
    let after = c.put_channels.ensures ∙ (λ i. stored (owing board (c.owed_in-owed.ensures i).0 done.new.channels) bytes) in
    ap (λ l. said done.result l done.new.events) after ∙ ap (λ o. written o bytes) (done.ensures board (sym c.channels_in-channels.ensures))
