-- What a replay into lent bytes comes to is known by its status or its length. Assumes nothing.
use Prim.Native.Nat.{ℕ, zero, suc, ◌≤◌, ◌/◌, ◌%◌}
use mathlib.Core.Bool.{cond}
use mathlib.Core.Path.{◌≡◌, refl}
use native.Mathlib.Omega.{arith}
use lib.Dec.{ltb}
use borrow.Author.Tests.{ltb-false}
use Rattle.refusal.specs.Refusal.{refusal_number}
use Rattle.refusal.specs.Reply.{Reply, refused, accepted}
use Rattle.refusal.proofs.Apart.{apart_by}
use Rattle.refusal.proofs.Numbered.{refusal_numbered, below-101, numbered-back}
use Rattle.std.specs.Prelude.{Option, None, Some, Result, Ok, Err}
use Rattle.runner.specs.declared.lending.ReplayError.{ReplayError}
use Rattle.runner.specs.declared.lending.ReplayError.TheVariants.{Refused, Short}
use Rattle.runner.specs.Lent.{index_counted, fault_status, reply_in}

abbrev operation_counted : ℕ → Option ℕ
operation_counted zero = None
operation_counted (suc index) = Some index

counted_back : (operation : Option ℕ) → operation_counted (index_counted operation) ≡ operation
counted_back None = refl
counted_back (Some index) = refl

abbrev replayed_of : Reply ℕ → Result ℕ ReplayError
replayed_of (accepted n) = Ok n
replayed_of (refused status) =
    Err (cond (ltb 100 (status % 256)) Short (Refused (refusal_numbered (status % 256)) (operation_counted (status / 256))))

replayed-back : (r : Result ℕ ReplayError) → replayed_of (reply_in r) ≡ r
replayed-back (Ok n) = refl
replayed-back (Err (Refused refusal operation)) =
    let number = refusal_number refusal in
    let few : number ≤ 100 = ltb-false 100 number (below-101 refusal) in
    let low : fault_status number operation % 256 ≡ number = omega (arith, few) in
    let high : fault_status number operation / 256 ≡ index_counted operation = omega (arith, few) in
    simp (low, high, below-101 refusal, numbered-back refusal, counted_back operation)
replayed-back (Err Short) = refl

pub replayed-apart : (p q : Result ℕ ReplayError) → reply_in p ≡ reply_in q → p ≡ q
replayed-apart = apart_by reply_in replayed_of replayed-back
