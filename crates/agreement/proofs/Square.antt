-- M3, M3-8253, M3-8254: in mode 3 the output and the value after any number of ticks are the sheets', on both chips and in both radixes. Assumes nothing.
use Prim.Native.Nat.{ℕ, zero, suc, ◌<◌, ◌≤◌}
use mathlib.Core.Bool.{Bool, true, not}
use mathlib.Core.Path.{◌≡◌, refl, sym, ◌∙◌, subst}
use native.Mathlib.Nat.{le_trans}
use native.Mathlib.Omega.{arith}
use Rattle.numbers.specs.Radix.{radix_counts}
use Rattle.channel.specs.declared.Channel.{Channel}
use Rattle.channel.specs.declared.PitType.{PitType}
use Rattle.channel.specs.declared.ReloadFlag.{ReloadFlag}
use Rattle.channel.specs.declared.ReloadFlag.TheVariants.{Normal, ReloadNextCycle}
use Rattle.tick.specs.Tick.{never_loaded, tick}
use Rattle.sheet.specs.Ticking.{held}
use Rattle.agreement.specs.Words.{sheet_chip}
use Rattle.agreement.proofs.SquarePlace.{half_ticks}
use Rattle.agreement.proofs.SquareValue.{half_value, loaded_count, waits_at_zero, Moves, counts, stops, Ends, at_once, waited, moves, ends, loaded-above, begins, at-most-loaded}
use Rattle.agreement.proofs.SquareSet.{At}
use Rattle.agreement.proofs.SquareHeld.{held-parity}
use Rattle.agreement.proofs.SquareTick as by-tick
use Rattle.agreement.proofs.TickLoads.{Sent}

-- a counter of 0 is one that waits to be loaded: on the 8254 one tick passes there
abbrev pub flag_of : ℕ → ReloadFlag
flag_of zero = ReloadNextCycle
flag_of (suc v) = Normal

normal : (v : ℕ) → 0 < v → flag_of v ≡ Normal
normal zero h = absurd (omega arith)
normal (suc v) h = refl

-- the square wave at a level, with v in the counter
abbrev pub Wave : PitType → Bool → Bool → ℕ → Channel → Type 0
Wave model bcd high v d = At model bcd (flag_of v) high v d

-- a count of n, on the counter's way, with any count written meanwhile
module _ (model : PitType) (bcd : Bool) (n : ℕ) (least : 2 ≤ n) (most : loaded_count model n ≤ radix_counts bcd) where
  -- what is written waits at zero as n does, as long as the counter has not come there: always, but for a count of the other parity in the high half of the 8254
  abbrev pub Alike : Bool → ℕ → Channel → Type 0
  Alike high v d = 0 < v → waits_at_zero model d.load.reload_value high ≡ waits_at_zero model n high

  counting : (high : Bool) (v : ℕ) (d : Channel) → 0 < v → Wave model bcd high v d → At model bcd Normal high v d
  counting high v d pos h = subst (λ (f : ReloadFlag). At model bcd f high v d) (normal v pos) h

  wave : (high : Bool) (v : ℕ) (d : Channel) → 0 < v → At model bcd Normal high v d → Wave model bcd high v d
  wave high v d pos h = subst (λ (f : ReloadFlag). At model bcd f high v d) (sym (normal v pos)) h

  -- one tick inside a half
  moved : (high : Bool) (v w : ℕ) (d : Channel) → v ≤ radix_counts bcd → Alike high v d → Moves model n high v w → Wave model bcd high v d
      → Wave model bcd high w (tick model d)
  moved high v w d top alike (counts t takes e some left) h =
      wave high w (tick model d) left (by-tick.goes-on model bcd high v t d top takes (counting high v d (omega arith) h) w e some left)
  moved high v w d top alike (stops takes pos waits none) h =
      subst (λ (x : ℕ). Wave model bcd high x (tick model d)) (sym none)
      (by-tick.lingers model bcd high v v d top takes (counting high v d pos h) refl (alike pos ∙ waits))

  -- the channel s ticks into a half
  abbrev pub In : Bool → ℕ → Channel → Type 0
  In high s d = Wave model bcd high (half_value (sheet_chip model) n high s) d

  small : (high : Bool) (s : ℕ) → half_value (sheet_chip model) n high s ≤ radix_counts bcd
  small high s = le_trans (at-most-loaded model n high s) most

  pub inside : (high : Bool) (s : ℕ) (d : Channel) → suc s < half_ticks high n → Alike high (half_value (sheet_chip model) n high s) d → In high s d → In high (suc s) (tick model d)
  inside high s d on alike h =
      moved high (half_value (sheet_chip model) n high s) (half_value (sheet_chip model) n high (suc s)) d (small high s) alike (moves n least model high s on) h

  -- its last tick loads the count m that is written then
  module _ (m : ℕ) (d : Channel) (written : d.load.reload_value ≡ held bcd m) (from-two : 2 ≤ m) (in-range : m ≤ radix_counts bcd) where
    ended : (high : Bool) (v : ℕ) → v ≤ radix_counts bcd → Alike high v d → Ends model n high v → Wave model bcd high v d
        → At model bcd Normal (not high) (loaded_count model m) (tick model d)
    ended high v top alike (at_once takes pos now) h =
        by-tick.ends model bcd high v v d top takes (counting high v d pos h) refl (alike pos ∙ now) m written from-two in-range
    ended high v top alike (waited none) h =
        by-tick.reloads model bcd high d (subst (λ (x : ℕ). Wave model bcd high x d) none h) m written from-two in-range

    pub over : (high : Bool) (s : ℕ) → suc s ≡ half_ticks high n → Alike high (half_value (sheet_chip model) n high s) d → In high s d
        → At model bcd Normal (not high) (loaded_count model m) (tick model d)
    over high s last alike h =
        ended high (half_value (sheet_chip model) n high s) (small high s) alike (ends n least model high s last) h

  -- S8: .. or none, where that is 1
  back : (d : Channel) (high : Bool) (v : ℕ) → v ≤ radix_counts bcd → Alike high v d → Ends model n high v → Wave model bcd high v d → never_loaded d ≡ true → Sent (tick model d)
  back d high v top alike (at_once takes pos now) h never = by-tick.ends-back model bcd high v v d top takes (counting high v d pos h) refl (alike pos ∙ now) never
  back d high v top alike (waited none) h never = by-tick.reloads-back model bcd high d (subst (λ (x : ℕ). Wave model bcd high x d) none h) never

  pub over-back : (d : Channel) (high : Bool) (s : ℕ) → suc s ≡ half_ticks high n → Alike high (half_value (sheet_chip model) n high s) d → In high s d
      → never_loaded d ≡ true → Sent (tick model d)
  over-back d high s last alike h never =
      back d high (half_value (sheet_chip model) n high s) (small high s) alike (ends n least model high s last) h never

  -- a half of n begins where the counter has been loaded with it
  pub begun : (high : Bool) (d : Channel) → At model bcd Normal high (loaded_count model n) d → In high 0 d
  begun high d h =
      subst (λ (x : ℕ). Wave model bcd high x d) (sym (begins model n high)) (wave high (loaded_count model n) d (loaded-above model n least) h)

-- inside a half something is left
pub some_left : (model : PitType) (n : ℕ) (high : Bool) (v w : ℕ) → Moves model n high v w → 0 < v
some_left model n high v w (counts t takes e some left) = omega arith
some_left model n high v w (stops takes pos waits none) = pos

-- nothing else is written: the count is n all the time
pub waits-alike : (model : PitType) (bcd high : Bool) (n : ℕ) → waits_at_zero model (held bcd n) high ≡ waits_at_zero model n high
waits-alike model bcd high n = simp (held-parity bcd n)
