-- What the listed departures come to, mode by mode: which a mode does not know, and what modes 4 and 5 go by. Assumes nothing.
use Prim.Native.Nat.{ℕ, ◌%◌}
use mathlib.Core.Bool.{Bool, true, false, false≢true, not, ◌&&◌}
use mathlib.Core.Logic.{◌⊎◌, inl, inr}
use mathlib.Core.Path.{◌≡◌, refl, sym, ap, ◌∙◌}
use lib.Dec.{eqb}
use borrow.Author.Tests.{eqb-true, eqb-false, not-true, not-false}
use Rattle.channel.specs.declared.ChannelMode.{ChannelMode}
use Rattle.channel.specs.declared.PitType.{PitType}
use Rattle.channel.specs.declared.PitType.TheVariants.{Model8253, Model8254}
use Rattle.channel.specs.Shared.{waits_for_reload}
use Rattle.load.specs.Finalize.{waiting_state, first_state}
use Rattle.tick.specs.Due.{triggered}
use Rattle.sheet.specs.Ticking.{Chip, chip8253, chip8254, square_high}
use Rattle.sheet.specs.Counter.{Fixed, left_open, fixed_at, awaits_count, awaits_trigger, loading, lost}
use Rattle.sheet.specs.CounterWrite.{on_count}
use Rattle.agreement.specs.Words.{sheet_chip}
use Rattle.agreement.specs.Watching.{strays, first_phase, disturbs, puts_off, IsFixed}
use Rattle.agreement.proofs.SquareValue.{waits_at_zero}
use Rattle.agreement.proofs.Tracking.{WaitsIn}

-- S1, S5: what modes 4 and 5 go by, of their first count
pub never-strays : (defer : Bool) (m : ℕ) (one : Fixed Bool) → eqb m 5 ≡ false → eqb m 4 ≡ false → strays defer m one ≡ false
never-strays defer m left_open five four = simp (five, four)
never-strays defer m (fixed_at known) five four = refl

pub first_plain : (defer : Bool) (m : ℕ) (one : Fixed Bool) → eqb m 5 ≡ false → eqb m 4 ≡ false → first_phase defer m one ≡ on_count m awaits_count
first_plain defer m one five four = rw (never-strays defer m one five four, five) refl

-- the state that waits waits so
pub waits-so : (defer : Bool) (m : ChannelMode) → WaitsIn defer (waiting_state defer) m
waits-so true m = refl
waits-so false m = tt

pub first-come : (rule defer : Bool) → waits_for_reload (first_state rule defer) ≡ false
first-come true defer = refl
first-come false true = refl
first-come false false = refl

-- mode 4: loading, as late as the defer flag and the mode before say, or not known
pub four-tests : (one : Fixed Bool) (rule defer : Bool) → IsFixed one rule → (m : ChannelMode) → triggered m ≡ false
    → ((first_phase defer 4 one ≡ loading) × WaitsIn (puts_off defer 4 awaits_count one) (first_state rule defer) m) ⊎ (first_phase defer 4 one ≡ lost)
four-tests (fixed_at true) rule true is m none = inl (refl, rw is none)
four-tests (fixed_at true) rule false is m none = inl (refl, rw is none)
four-tests (fixed_at false) rule true is m none = inl (refl, rw is refl)
four-tests (fixed_at false) rule false is m none = inl (refl, rw is tt)
four-tests left_open rule true is m none = inr refl
four-tests left_open true false is m none = inl (refl, none)
four-tests left_open false false is m none = inl (refl, tt)

-- mode 5: its trigger is awaited, or it loads without one, or that is not known
pub data FiveStarts (one : Fixed Bool) (rule defer : Bool) : Type 0 where
  by-trigger : first_phase defer 5 one ≡ awaits_trigger → rule ≡ true → FiveStarts one rule defer
  at_once : first_phase defer 5 one ≡ loading → rule ≡ false → FiveStarts one rule defer
  either : first_phase defer 5 one ≡ lost → FiveStarts one rule defer

pub five-tests : (one : Fixed Bool) (rule defer : Bool) → IsFixed one rule → FiveStarts one rule defer
five-tests (fixed_at true) rule defer is = by-trigger refl is
five-tests (fixed_at false) rule defer is = at_once refl is
five-tests left_open rule defer is = either refl

-- S4: outside mode 3, and on the 8253, no count disturbs the half
pub no-disturb : (chip : Chip) (m n j x : ℕ) → eqb m 3 ≡ false → disturbs chip m n j x ≡ false
no-disturb chip8253 m n j x other = refl
no-disturb chip8254 m n j x other = simp other

-- a count of the same parity, or one that comes in the low half, leaves the running half alone
pub same-parity : (a b : ℕ) → eqb a b ≡ true → eqb b 1 ≡ eqb a 1
same-parity a b is = ap (λ (r : ℕ). eqb r 1) (sym (eqb-true a b is))

pub alike-by : (model : PitType) (high : Bool) (n j w x : ℕ) → square_high n j ≡ high → w % 2 ≡ x % 2 → disturbs (sheet_chip model) 3 n j x ≡ false
    → waits_at_zero model w high ≡ waits_at_zero model n high
alike-by Model8253 high n j w x there parity none = refl
alike-by Model8254 false n j w x there parity none = refl
alike-by Model8254 true n j w x there parity none =
    let differs : not (eqb (n % 2) (x % 2)) ≡ false = rw there at none in
    ap (λ (r : ℕ). eqb r 1) parity ∙ same-parity (n % 2) (x % 2) (not-false (eqb (n % 2) (x % 2)) differs)

pub and-true : (d : Bool) → (d && true) ≡ d
and-true true = refl
and-true false = refl

both : (a b : Bool) → (a && b) ≡ true → (a ≡ true) × (b ≡ true)
both true true is = (refl, refl)
both true false is = absurd (false≢true is)
both false b is = absurd (false≢true is)

-- a count that disturbs comes on the 8254, in the high half, with the other parity
pub disturbed-facts : (model : PitType) (n j x : ℕ) → disturbs (sheet_chip model) 3 n j x ≡ true
    → (model ≡ Model8254) × (square_high n j ≡ true) × (n % 2 ≡ x % 2 → ⊥)
disturbed-facts Model8253 n j x some = absurd (false≢true some)
disturbed-facts Model8254 n j x some =
    let parts = both (square_high n j) (not (eqb (n % 2) (x % 2))) some in
    (refl, parts.0, eqb-false (n % 2) (x % 2) (not-true (eqb (n % 2) (x % 2)) parts.1))
