-- A model is found again from its number, and the number from its model. Assumes nothing.
use Prim.Native.Nat.{ℕ, zero, suc, ◌≤◌}
use mathlib.Core.Path.{◌≡◌, refl}
use native.Mathlib.Omega.{arith}
use Rattle.channel.specs.declared.PitType.{PitType}
use Rattle.channel.specs.declared.PitType.TheVariants.{Model8253, Model8254}
use Rattle.channel.specs.Models.{model_number, model_numbered}

pub model-back : (model : PitType) → (model_number model ≤ 1) × (model_numbered (model_number model) ≡ model)
model-back Model8253 = (omega arith, refl)
model-back Model8254 = (omega arith, refl)

pub model-number-back : (number : ℕ) → number ≤ 1 → model_number (model_numbered number) ≡ number
model-number-back zero h = refl
model-number-back (suc zero) h = refl
model-number-back (suc (suc number)) h = absurd (omega arith)
