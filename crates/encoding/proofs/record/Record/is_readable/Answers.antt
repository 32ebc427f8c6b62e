use Rattle.std.proofs.Common.{◌≡◌, arith, rules, add-one, true}
use Rattle.std.proofs.lemmas.Grind.{common_steps}
use Rattle.encoding.specs.Loaded.{readable_to}
use Rattle.encoding.specs.Stored.{channel_size}
use Rattle.encoding.proofs.Readable.{one_more, one_above}
use Rattle.encoding.proofs.record.Record.is_readable.Goals as goal

pub loop-i-init : goal.loop-i-init
unfolding readable_to
loop-i-init c = search rules

pub returns-then-i-bytes : goal.returns-then-i-bytes
returns-then-i-bytes c =
    grind (arith, common_steps, one_above channel_size c.loop-i.i c.args.self.bytes.now (omega arith) c.if-i-bytes.true)

pub loop-i-preserved : goal.loop-i-preserved
loop-i-preserved c = rw add-one (one_more c.loop-i.i _ c.if-i-bytes.false c.loop-i.invariant)

pub returns : goal.returns
returns c =
    let all : c.loop-i.i ≡ channel_size = omega arith in
    let readable : readable_to channel_size c.args.self.bytes.now ≡ true = rw all at c.loop-i.invariant in
    grind (arith, common_steps, readable)
