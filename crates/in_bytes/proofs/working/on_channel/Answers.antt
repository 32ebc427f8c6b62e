use Rattle.std.proofs.Common.{◌∙◌, sym, ap}
use Rattle.board.specs.Answer.{reply_of}
use Rattle.board_operation.specs.Made.{numbers_of}
use Rattle.board_encoding.specs.Loaded.{board_in}
use Rattle.board.specs.Board.{channel_at, with_channel}
use Rattle.in_bytes.specs.Called.{stored}
use Rattle.in_bytes.specs.Inner.{said, written}
use Rattle.in_bytes.proofs.working.on_channel.Goals as goal

pub returns : goal.returns
returns c =
    let bytes = c.args.bytes.now in
    let done = c.work_on-answer in
    let at = c.from-i.ensures in
    let there = ap (channel_at (board_in bytes)) (sym at) ∙ sym c.channel_in-c.ensures in
    let put = c.put_channel.ensures ∙ ap (λ i. stored (with_channel (board_in bytes) i done.new.c) bytes) at in
    ap (λ l. said done.result l done.new.events) put
    ∙ ap (λ o. written o bytes)
    (done.ensures (board_in bytes) (record { channel-is = there; model_is = sym c.model_in-model.ensures; defer-is = sym c.defer_in-defer.ensures }))
