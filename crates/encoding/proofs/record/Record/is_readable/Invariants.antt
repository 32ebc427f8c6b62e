use Rattle.std.proofs.Common.{◌≡◌, true}
use Rattle.encoding.specs.Loaded.{readable_to}
use Rattle.encoding.proofs.record.Record.is_readable.Given as goal

-- the bytes before i are within their limits
abbrev pub invariant-loop-i : goal.invariant-loop-i
invariant-loop-i l = readable_to l.i l.bytes ≡ true
