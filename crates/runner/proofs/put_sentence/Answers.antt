use Rattle.std.proofs.Common.{◌∙◌, ap}
use Rattle.text.specs.Put.{put}
use Rattle.runner.proofs.put_sentence.Goals as goal

pub returns : goal.returns
returns c =
    record {
      told = c.put.ensures ∙ ap (λ t. put t c.args.out.now c.args.place) (c.as_bytes.ensures.text ∙ c.line_of-line.ensures.says);
      short = c.line_of-line.ensures.fits;
    }
