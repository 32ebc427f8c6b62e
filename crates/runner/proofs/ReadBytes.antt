-- What a read answers stands in bytes of its own: docs/ENCODING.md, "8 the byte, 9 its half, 10 1 if it was held, 11 0". Assumes nothing.
use Prim.Native.Nat.{◌+◌, ◌*◌, ◌<◌}
use mathlib.Core.Bool.{Bool, true, false}
use mathlib.Core.List.{[], ◌∷◌}
use mathlib.Core.Path.{◌≡◌}
use native.Mathlib.Omega.{arith}
use Rattle.numbers.specs.Flags.{flag_number}
use Rattle.numbers.specs.Little.{four_bytes}
use Rattle.numbers.proofs.Little.{four-of}
use Rattle.std.specs.Prelude.{Option, Some, None}
use Rattle.latch.specs.declared.reading.Half.{Half}
use Rattle.latch.specs.declared.reading.Half.TheVariants.{Low, High}
use Rattle.latch.specs.Label.{half_number}
use Rattle.board.specs.declared.PortRead.{PortRead}
use Rattle.runner.specs.Answers.{read_number}

half-fits : (half : Option Half) → half_number half < 256
half-fits None = omega arith
half-fits (Some Low) = omega arith
half-fits (Some High) = omega arith

flag-fits : (flag : Bool) → flag_number flag < 256
flag-fits true = omega arith
flag-fits false = omega arith

pub read-bytes : (r : PortRead) → r.byte < 256
    → four_bytes (read_number r) ≡ r.byte ∷ half_number r.label.half ∷ flag_number r.label.held ∷ 0 ∷ []
read-bytes r fits =
    let half = half_number r.label.half in
    let held = flag_number r.label.held in
    let whole : read_number r ≡ r.byte + 256 * half + 65536 * (held + 256 * 0) = omega arith in
    rw whole (four-of r.byte half held 0 fits (half-fits r.label.half) (flag-fits r.label.held) (omega arith))
