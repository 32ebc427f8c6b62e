use Rattle.std.proofs.Common.{◌∙◌, sym, ap}
use Rattle.time.specs.declared.TimerTicks.{TimerTicks}
use Rattle.board_encoding.specs.Loaded.{board_in}
use Rattle.in_bytes.specs.Inner.{said, written}
use Rattle.in_bytes.proofs.working.work_off.Goals as goal

pub returns : goal.returns
returns c =
    let bytes = c.args.bytes.now in
    let worked = c.work_channels-answer in
    ap (λ l. said worked.result l worked.new.events) c.put_channels.ensures
    ∙ ap (λ o. written o bytes)
    (worked.ensures (board_in bytes) (record {
      channels-are = sym c.channels_in-channels.ensures;
      model_is = sym c.model_in-model.ensures;
      owed-is = ap (λ (t : TimerTicks). t.0) (sym c.owed_in-owed.ensures);
    }))
