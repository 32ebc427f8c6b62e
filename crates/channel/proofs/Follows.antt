-- The output latch where the counting element takes a value: a held one stays, and no latch is made, ended or half read by it. Assumes nothing.
use Prim.Native.Nat.{ℕ}
use mathlib.Core.Bool.{true}
use mathlib.Core.Path.{◌≡◌}
use Rattle.channel.specs.declared.Latch.{Latch}
use Rattle.channel.specs.Shared.{followed}
use Rattle.channel.proofs.Pick.{of-pick, pick_same}

pub held-follows : (l : Latch) (e : ℕ) → l.count_is_latched ≡ true → followed l e ≡ l
held-follows l e held = simp held

pub follows-latched : (l : Latch) (e : ℕ) → (followed l e).count_is_latched ≡ l.count_is_latched
follows-latched l e = simp (of-pick (λ (k : Latch). k.count_is_latched), pick_same)

pub follows-half : (l : Latch) (e : ℕ) → (followed l e).read_state ≡ l.read_state
follows-half l e = simp (of-pick (λ (k : Latch). k.read_state), pick_same)
