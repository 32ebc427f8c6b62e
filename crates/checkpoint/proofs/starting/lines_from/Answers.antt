use Prim.Native.Nat.{suc, ◌-◌, ◌*◌}
use native.Mathlib.Omega.{arith}
use lib.ListN.{length-append}
use Rattle.line.specs.Line.{line_room}
use Rattle.line.specs.Lines.{end_line}
use Rattle.text.proofs.Puts.{wrote, and_then}
use Rattle.runner.specs.declared.Form.TheVariants.{Lines}
use Rattle.runner.specs.Printed.{told_from}
use Rattle.runner.specs.Inner.{found_from}
use Rattle.runner.proofs.Whole.{prints}
use Rattle.runner.proofs.Lent.{no-room, in-room}
use Rattle.runner.proofs.Loop.{told-whole}
use Rattle.checkpoint.specs.Inner.{lines_found}
use Rattle.checkpoint.proofs.starting.lines_from.Goals as goal

pub returns-then-out-operations : goal.returns-then-out-operations
returns-then-out-operations c =
    let a = c.args in
    no-room (line_room * suc (a.operations - a.first)) (lines_found a.trace.now a.board a.first a.operations) a.out.now (omega (arith, c.if-out-operations.true))

pub returns : goal.returns
returns c =
    let a = c.args in
    let out = a.out.now in
    let n = a.operations - a.first in
    let os = found_from a.trace.now a.first n in
    let lines = told-whole Lines a.first n os a.board 0 out _ _ c.tell-told.ensures (omega (arith, c.if-out-operations.false)) in
    let text = told_from Lines a.board a.first os in
    let last = c.put_sentence.ensures in
    let both = and_then (wrote text out 0 _ _ lines.told) (end_line a.operations) _ _ last.told in
    in-room (line_room * suc n) (lines_found a.trace.now a.board a.first a.operations) out _ _ (omega (arith, c.if-out-operations.false))
    (prints both (simp length-append (omega (arith, c.if-out-operations.false, lines.short, last.short))))
