use Rattle.std.proofs.Common.{◌∙◌, sym, ap}
use Rattle.turn.specs.Turn.{with_events}
use Rattle.board_encoding.specs.Loaded.{board_in}
use Rattle.in_bytes.specs.Called.{stored}
use Rattle.in_bytes.specs.Inner.{said, written}
use Rattle.in_bytes.proofs.Clocks.{clock-stays}
use Rattle.in_bytes.proofs.working.elapse.Goals as goal

pub returns : goal.returns
returns c =
    let bytes = c.args.bytes.now in
    let done = c.elapse-answer in
    let is = done.ensures (board_in bytes) (sym c.clock_in-clock.ensures) in
    let after = c.put_clock.ensures ∙ ap (λ b. stored b bytes) (clock-stays (board_in bytes) done.result _ _ _ _ is) in
    λ events place. ap (λ l. said done.result l events) after ∙ ap (λ o. written (with_events events o) bytes) is
