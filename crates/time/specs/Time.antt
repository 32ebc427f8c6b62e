-- Document 01, "Time and reset": system ticks into timer ticks.
use Rattle.std.specs.Prelude.{ℕ, ◌+◌, ◌-◌, ◌/◌, ◌%◌, cond, eqb, ltb, Result}
use Rattle.refusal.specs.Reply.{Reply, refused, accepted, reply_of}
use Rattle.refusal.specs.declared.Refusal.{Refusal}
use Rattle.time.specs.declared.Conversion.{Conversion}

-- timer ticks yielded, and the system ticks kept
pub record Yield : Type 0 where
  pub ticks : ℕ
  pub remainder : ℕ

-- "yields quotient by the divisor as timer ticks, keeps the rest"
abbrev pub converted : ℕ → ℕ → Yield
converted sum divisor = record { ticks = sum / divisor; remainder = sum % divisor }

-- "A catch-up or run adds ticks minus warp to the remainder"
abbrev pub summed : ℕ → ℕ → ℕ → ℕ
summed ticks warp remainder = remainder + (ticks - warp)

-- Refusals 3 "divisor 0", 4 "ticks below the warp", 5 "remainder + (ticks - warp) above 4,294,967,295", in this order
unfoldable pub ticks_from_time : ℕ → ℕ → ℕ → ℕ → Reply Yield
ticks_from_time ticks warp remainder divisor =
    cond (eqb divisor 0) (refused 3)
    (cond (ltb ticks warp) (refused 4)
    (cond (ltb 4294967295 (summed ticks warp remainder)) (refused 5) (accepted (converted (summed ticks warp remainder) divisor))))

-- document 01's number or values for each answer of the code
abbrev pub conversion : Conversion → Yield
conversion c = record { ticks = c.ticks.0; remainder = c.remainder.0 }

abbrev pub passed_reply : Result Conversion Refusal → Reply Yield
passed_reply = reply_of conversion
