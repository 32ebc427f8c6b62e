-- An answer is known by document 01's number or values for it. Assumes nothing.
use mathlib.Core.Path.{◌≡◌, refl}
use Rattle.std.specs.Prelude.{Result}
use Rattle.refusal.specs.declared.Refusal.{Refusal}
use Rattle.refusal.proofs.Replies.{replies-apart}
use Rattle.time.specs.declared.Conversion.{Conversion}
use Rattle.time.specs.Time.{Yield, passed_reply, conversion}

abbrev converted_to : Yield → Conversion
converted_to made = record { ticks = record { 0 = made.ticks }; remainder = record { 0 = made.remainder } }

pub passed_apart : (p q : Result Conversion Refusal) → passed_reply p ≡ passed_reply q → p ≡ q
passed_apart = replies-apart conversion converted_to (λ c. refl)
