use Rattle.std.proofs.Common.{[], ◌∷◌, ◌∙◌, sym}
use Rattle.in_bytes.proofs.Three.{three}
use Rattle.in_bytes.proofs.channels_in.Goals as goal

pub returns : goal.returns
returns c = (λ i. c.channel_in.ensures i ∷ c.channel_in-2.ensures i ∷ c.channel_in-3.ensures i ∷ []) ∙ sym (three c.args.bytes.now)
