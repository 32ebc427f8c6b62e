use Rattle.console.proofs.Reading.{read_front}
use Rattle.console.proofs.read_trace.Goals as goal

pub returns-in-Ok-clause-ok : goal.returns-in-Ok-clause-ok
returns-in-Ok-clause-ok g c =
    read_front g.R.Read.remaining c.args.input c.take.result.inner 65536 c.take.result.limit c.new-trace.result.items
    c.read_to_end.new.buf.items
    c.take.ensures.inner
    c.take.ensures.limit
    c.new-trace.ensures.items
    c.in-Ok.ensures.bytes
