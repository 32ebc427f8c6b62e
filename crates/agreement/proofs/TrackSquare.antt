-- M3, M3-8253, M3-8254 in step with the sheets' counter: the tick that loads, every tick inside a half, and the last of a half, which loads again whatever count has
-- been written by then. Assumes nothing.
use Prim.Native.Nat.{ℕ, suc, ◌<◌, ◌≤◌}
use mathlib.Core.Bool.{Bool, true, false, not, cond}
use mathlib.Core.Path.{◌≡◌, refl, sym, ap, ap₂, ◌∙◌, subst}
use native.Mathlib.Nat.{mod-eq_of_lt, le_trans}
use native.Mathlib.Omega.{arith}
use Rattle.numbers.specs.Radix.{radix_counts}
use Rattle.channel.specs.declared.Channel.{Channel}
use Rattle.channel.specs.declared.ChannelMode.TheVariants.{SquareWaveGenerator}
use Rattle.channel.specs.declared.LoadType.TheVariants.{SubsequentLoad}
use Rattle.channel.specs.declared.PitType.{PitType}
use Rattle.channel.specs.declared.ReloadFlag.TheVariants.{Normal}
use Rattle.channel.specs.Queries.{does_retrigger}
use Rattle.mode.specs.Mode.{square_mask}
use Rattle.tick.specs.declared.due.Kind.TheVariants.{Load}
use Rattle.tick.specs.Due.{due}
use Rattle.tick.specs.Kept.{TickKeeps}
use Rattle.tick.specs.Level.{load_level}
use Rattle.tick.specs.Tick.{never_loaded, load_at, tick}
use Rattle.tick.proofs.Keeps as kept
use Rattle.sheet.specs.Ticking.{held, high_ticks, square_value}
use Rattle.agreement.specs.Gating.{underway}
use Rattle.agreement.specs.Words.{sheet_chip}
use Rattle.agreement.proofs.Square as wave
use Rattle.agreement.proofs.SquareHeld.{held-not-one}
use Rattle.agreement.proofs.SquarePlace.{half_ticks, Stands, high-there, since-there, stands-first, stands_on}
use Rattle.agreement.proofs.SquareSet.{Set, At, value_loaded, load-at}
use Rattle.agreement.proofs.SquareValue.{half_value, loaded_count, waits_at_zero, moves, begins, loaded-at-most}
use Rattle.agreement.proofs.TickLoads.{LoadedAt, tick-loads, Sent}
use Rattle.agreement.proofs.Tracking.{core_of, Square, square, paused, Arrived}
use borrow.Author.Tests.{ne_eqb}

-- where a half of n begins
abbrev pub begin_of : Bool → ℕ → ℕ
begin_of high n = cond high 0 (high_ticks n)

begins-there : (high : Bool) (n : ℕ) → 2 ≤ n → Stands n (begin_of high n) high 0
begins-there true n least = stands-first n 0 least
begins-there false n least = record { in-period = mod-eq_of_lt (omega arith) ∙ omega arith; in-half = omega arith }

begins-inside : (high : Bool) (n : ℕ) → 2 ≤ n → begin_of high n < n
begins-inside true n least = omega arith
begins-inside false n least = omega arith

-- the sheets' value there
pub value_there : (model : PitType) (high : Bool) (n j s : ℕ) → Stands n j high s → square_value (sheet_chip model) n j ≡ half_value (sheet_chip model) n high s
value_there model high n j s stands =
    ap₂ (λ (h : Bool) (a : ℕ). half_value (sheet_chip model) n h a) (high-there high n j s stands) (since-there high n j s stands)

module _ (model : PitType) (c : Channel) (mode : c.control.mode ≡ SquareWaveGenerator) (complete : c.load.load_type ≡ SubsequentLoad)
    (masked : c.reloading.load_mask ≡ square_mask model) where
  keeps : TickKeeps c (tick model c)
  keeps = kept.tick-keeps model c

  mode-then : (tick model c).control.mode ≡ SquareWaveGenerator
  mode-then = rw keeps.control-kept mode

  set-now : c.pins.gate ≡ true → Set model c.control.bcd_mode c
  set-now gate = record { mode-is = mode; radix-is = refl; masked = masked; gate-high = gate }

  module _ (n : ℕ) (least : 2 ≤ n) (most : loaded_count model n ≤ radix_counts c.control.bcd_mode) where
    -- where the next tick leaves a channel whose gate is high
    there : (j : ℕ) (high : Bool) (s : ℕ) → j < n → Stands n j high s → wave.In model c.control.bcd_mode n least most high s (tick model c)
        → (0 < half_value (sheet_chip model) n high s → waits_at_zero model c.load.reload_value high ≡ waits_at_zero model n high) → Arrived model (tick model c) n j
    there j high s inside stands now alike =
        record {
          counts =
              record {
                complete = keeps.load-type-kept ∙ complete;
                at_least = rw mode-then least;
                at_most = rw (mode-then, keeps.control-kept) most;
                there =
                    square
                    (record {
                      square = mode-then;
                      high = high;
                      age = s;
                      in-period = inside;
                      stands = stands;
                      has_value = rw keeps.control-kept now.element-is;
                      level = now.level-is;
                      counts = now.state-is;
                      gate-high = now.set.gate-high;
                      alike = rw keeps.reload-kept alike;
                    });
              };
          shows-output = rw mode-then (now.level-is ∙ sym (high-there high n j s stands));
          shows-value =
              rw (mode-then, keeps.control-kept) (now.element-is ∙ ap (held c.control.bcd_mode) (sym (value_there model high n j s stands)));
        }

    -- a load at the begin of a half, with the gate high
    begun : (high : Bool) → c.load.reload_value ≡ held c.control.bcd_mode n
        → At model c.control.bcd_mode Normal high (loaded_count model n) (tick model c) → Arrived model (tick model c) n (begin_of high n)
    begun high written now =
        there (begin_of high n) high 0 (begins-inside high n least) (begins-there high n least)
        (wave.begun model c.control.bcd_mode n least most high (tick model c) now)
        (λ some. rw written (wave.waits-alike model c.control.bcd_mode high n))

    first-tick : due c ≡ Load → tick model c ≡ load_at true c
    unfolding tick
    first-tick is-due = simp (is-due, mode)

    -- .. and with the gate low
    held-there : c.pins.gate ≡ false → LoadedAt true c (tick model c) → c.load.reload_value ≡ held c.control.bcd_mode n
        → Arrived model (tick model c) n 0
    held-there gate moved written =
        let stands = begins-there true n least in
        let value = moved.has_value ∙ value_loaded model c.control.bcd_mode n c mode masked written
        ∙ ap (held c.control.bcd_mode) (sym (begins model n true) ∙ sym (value_there model true n 0 0 stands)) in
        record {
          counts =
              record {
                complete = keeps.load-type-kept ∙ complete;
                at_least = rw mode-then least;
                at_most = rw (mode-then, keeps.control-kept) most;
                there =
                    paused
                    (record {
                      repeats = ap does_retrigger mode-then;
                      in-period = omega arith;
                      has_value = rw (mode-then, keeps.control-kept) value;
                      holds = ap underway moved.is-counting;
                      gate-low = keeps.gate-kept ∙ gate;
                    });
              };
          shows-output = rw mode-then (moved.has-level ∙ sym (high-there true n 0 0 stands));
          shows-value = rw (mode-then, keeps.control-kept) value;
        }

    loads-by : n ≤ radix_counts c.control.bcd_mode → (gate : Bool) → c.pins.gate ≡ gate → due c ≡ Load → c.load.reload_value ≡ held c.control.bcd_mode n
        → Arrived model (tick model c) n 0
    loads-by top true gate is-due written =
        begun true written
        (rw (first-tick is-due) (load-at model c.control.bcd_mode n true c written (set-now gate) least top))
    loads-by top false gate is-due written =
        held-there gate
        (subst (λ (b : Bool). LoadedAt b c (tick model c)) (ap load_level mode)
        (tick-loads c (simp (mode, written, ne_eqb (held c.control.bcd_mode n) 1 (held-not-one c.control.bcd_mode n least top))) model is-due))
        written

  pub loads-square : (n : ℕ) → 2 ≤ n → n ≤ radix_counts c.control.bcd_mode → due c ≡ Load → c.load.reload_value ≡ held c.control.bcd_mode n
      → Arrived model (tick model c) n 0
  loads-square n least top = loads-by n least (le_trans (loaded-at-most model n) top) top c.pins.gate refl

  -- a tick of a channel that stands at tick j of n
  module _ (n : ℕ) (least : 2 ≤ n) (most : loaded_count model n ≤ radix_counts c.control.bcd_mode) (j : ℕ) (now : Square model (core_of c) n j) where
    here : wave.In model c.control.bcd_mode n least most now.high now.age c
    here = record { set = set-now now.gate-high; state-is = now.counts; level-is = now.level; element-is = now.has_value }

    pub counts-square : suc j < n → suc now.age < half_ticks now.high n → Arrived model (tick model c) n (suc j)
    counts-square on inside =
        there n least most (suc j) now.high (suc now.age) on
        (stands_on n j least now.high now.age now.stands inside)
        (wave.inside model c.control.bcd_mode n least most now.high now.age c inside now.alike here)
        (λ some. now.alike (wave.some_left model n now.high _ _ (moves n least model now.high now.age inside)))

    pub square-sent : suc now.age ≡ half_ticks now.high n → never_loaded c ≡ true → Sent (tick model c)
    square-sent last never = wave.over-back model c.control.bcd_mode n least most c now.high now.age last now.alike here never

    pub reloads-square : suc now.age ≡ half_ticks now.high n → (m : ℕ) → 2 ≤ m → m ≤ radix_counts c.control.bcd_mode
        → c.load.reload_value ≡ held c.control.bcd_mode m → Arrived model (tick model c) m (begin_of (not now.high) m)
    reloads-square last m from-two top written =
        begun m from-two (le_trans (loaded-at-most model m) top) (not now.high) written
        (wave.over model c.control.bcd_mode n least most m c written from-two top now.high now.age last now.alike here)
