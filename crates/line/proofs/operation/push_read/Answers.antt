use native.Mathlib.Omega.{arith}
use lib.ListN.{length-append}
use Rattle.std.proofs.Common.{◌≤◌, length}
use Rattle.text.specs.Ascii.{ascii}
use Rattle.text.specs.Number.{hex}
use Rattle.text.proofs.Rooms.{first, and_pushed}
use Rattle.line.specs.Line.{line_room}
use mathlib.Core.Bool.{Bool, true, false}
use Rattle.std.proofs.Common.{Option, None, Some}
use Rattle.latch.specs.declared.reading.Half.{Half}
use Rattle.latch.specs.declared.reading.Half.TheVariants.{Low, High}
use Rattle.line.specs.Lines.{half_text, held_text, read_text}
use Rattle.line.specs.Inner.{answer_room}
use Rattle.line.proofs.operation.push_read.Goals as goal

half-short : (half : Option Half) → length (half_text half) ≤ 5
half-short (Some Low) = omega arith
half-short (Some High) = omega arith
half-short None = omega arith

held-short : (held : Bool) → length (held_text held) ≤ 5
held-short true = omega arith
held-short false = omega arith

pub returns : goal.returns
returns c =
    let fits : length (read_text c.args.read) ≤ answer_room = simp length-append (omega (arith, half-short c.args.read.label.half, held-short c.args.read.label.held)) in
    let t1 = first {room = line_room} {before = c.args.line.now} (ascii "read ") c.push.new.self c.push.ensures in
    let t2 = and_pushed t1 (hex c.args.read.byte) c.push_hex.new.self c.push_hex.ensures in
    let t3 = and_pushed t2 (half_text c.args.read.label.half) c.push_half.new.line c.push_half.ensures.says in
    let t4 = and_pushed t3 (held_text c.args.read.label.held) c.push_held.new.line c.push_held.ensures.says in
    record { says = t4.so; fits = fits }
