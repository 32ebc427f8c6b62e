use Prim.Native.Nat.{◌+◌, ◌-◌}
use mathlib.Core.Bool.{not}
use mathlib.Core.Path.{◌≡◌, ap, ◌∙◌}
use native.Mathlib.Omega.{arith}
use lib.ListN.{take, drop}
use Rattle.board_encoding.specs.Places.{board_size}
use Rattle.checkpoint.specs.Check.{same_bytes}
use Rattle.checkpoint.proofs.Same.{same_by}
use Rattle.checkpoint.proofs.checking.differs.Goals as goal

pub returns : goal.returns
returns c =
    let a = c.args in
    let size : a.place + board_size - a.place ≡ board_size = omega arith in
    ap not
    (same_by c.same.result _ _ c.same.ensures.0 c.same.ensures.1
    ∙ (λ i. same_bytes (take (size i) (drop a.place a.trace.now)) (c.board_bytes-bytes.ensures i)))
