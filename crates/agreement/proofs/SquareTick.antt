-- M3 for the record: one tick of a channel that makes a square wave. It takes 2, 1 or 3 from the value; at zero the half ends, at once or one tick later.
-- Assumes nothing.
use Prim.Native.Nat.{ℕ, ◌+◌, ◌-◌, ◌<◌, ◌≤◌}
use mathlib.Core.Bool.{Bool, true, false, not}
use mathlib.Core.Path.{◌≡◌, refl, ap, ◌∙◌, subst}
use native.Mathlib.Omega.{arith}
use borrow.Author.Tests.{ne_eqb}
use Rattle.numbers.specs.Digits.{packed}
use Rattle.numbers.specs.Times.{times}
use Rattle.numbers.specs.Radix.{radix_counts}
use Rattle.channel.specs.declared.Channel.{Channel}
use Rattle.channel.specs.declared.ChannelState.TheVariants.{Counting}
use Rattle.channel.specs.declared.Load.{Load}
use Rattle.channel.specs.declared.PitType.{PitType}
use Rattle.channel.specs.declared.ReloadFlag.{ReloadFlag}
use Rattle.channel.specs.declared.ReloadFlag.TheVariants.{Normal, ReloadNextCycle}
use Rattle.channel.specs.Shared.{change_channel_state, change_output_state}
use Rattle.count.specs.Count.{count}
use Rattle.count.proofs.Repeated.{control-kept}
use Rattle.tick.specs.declared.due.Kind.TheVariants.{Reload, Count}
use Rattle.tick.specs.Due.{due}
use Rattle.tick.specs.Taken.{square_takes}
use Rattle.tick.specs.Tick.{never_loaded, aged_by, with_armed, load_at, half_over, counting_on, marked, after_counts, tick}
use Rattle.sheet.specs.Ticking.{held}
use Rattle.agreement.proofs.HeldCounts.{counts-load}
use Rattle.agreement.proofs.SquareHeld.{held-parity, held-above}
use Rattle.agreement.proofs.SquareValue.{loaded_count, waits_at_zero}
use Rattle.agreement.proofs.SquareSet.{At, set-kept, counted, load-at}
use Rattle.agreement.proofs.TickLoads.{Sent, sent-at, reload-sent}

held-zero : (bcd : Bool) → held bcd 0 ≡ 0
unfolding packed
held-zero false = refl
held-zero true = refl

marked-state : (d : Channel) → (marked d).counter.channel_state ≡ d.counter.channel_state
unfolding marked with_armed change_output_state
marked-state d = refl

-- a channel that counts goes on counting
on-counting : (flag : ReloadFlag) (d : Channel) → d.counter.channel_state ≡ Counting flag → counting_on d ≡ aged_by 1 d
unfolding counting_on
on-counting flag d e = simp e

module _ (model : PitType) (bcd : Bool) where
  module _ (high : Bool) (v : ℕ) (d : Channel) where
    -- a tick that counts
    count-due : At model bcd Normal high v d → due d ≡ Count
    unfolding due
    count-due h = simp (h.state-is, h.set.mode-is, h.set.gate-high)

    tick-counts : At model bcd Normal high v d → tick model d ≡ after_counts model (times (square_takes high v) count d)
    unfolding tick
    tick-counts h = simp (count-due h, h.set.mode-is, h.level-is, h.element-is, held-parity)

    -- .. to a value above zero
    above_zero : At model bcd Normal high v d → 0 < v → v < radix_counts bcd → after_counts model d ≡ aged_by 1 (marked d)
    unfolding after_counts
    above_zero h pos small =
        let some_left : held bcd v ≡ 0 → ⊥ = λ z. omega (arith, held-above bcd v pos small) in
        simp (h.set.mode-is, h.element-is, ne_eqb (held bcd v) 0 some_left, on-counting Normal (marked d) (marked-state d ∙ h.state-is))

    marked-at : At model bcd Normal high v d → At model bcd Normal high v (aged_by 1 (marked d))
    unfolding aged_by marked with_armed change_output_state
    marked-at h =
        record {
          set = set-kept model bcd d (aged_by 1 (marked d)) refl refl refl h.set;
          state-is = h.state-is;
          level-is = simp h.set.mode-is h.level-is;
          element-is = h.element-is;
        }

  module _ (high : Bool) (d : Channel) where
    -- .. to zero, where the half ends
    at_zero : At model bcd Normal high 0 d → after_counts model d ≡ half_over model d
    unfolding after_counts
    at_zero h = simp (h.set.mode-is, h.element-is, held-zero bcd)

    -- .. at once
    over-now : At model bcd Normal high 0 d → waits_at_zero model d.load.reload_value high ≡ false → half_over model d ≡ load_at (not high) d
    unfolding half_over
    over-now h now = simp (h.level-is, now)

    -- .. or one tick later
    over-later : At model bcd Normal high 0 d → waits_at_zero model d.load.reload_value high ≡ true
        → half_over model d ≡ change_channel_state d (Counting ReloadNextCycle)
    unfolding half_over
    over-later h later = simp (h.level-is, later)

    waiting-at : At model bcd Normal high 0 d → At model bcd ReloadNextCycle high 0 (change_channel_state d (Counting ReloadNextCycle))
    unfolding change_channel_state
    waiting-at h =
        record {
          set = set-kept model bcd d (change_channel_state d (Counting ReloadNextCycle)) refl refl refl h.set;
          state-is = refl;
          level-is = h.level-is;
          element-is = h.element-is;
        }

    -- the tick after zero
    reload-due : At model bcd ReloadNextCycle high 0 d → due d ≡ Reload
    unfolding due
    reload-due h = simp (h.state-is, h.set.mode-is, h.set.gate-high)

    -- S8: where a count of 1 is written
    pub reloads-back : At model bcd ReloadNextCycle high 0 d → never_loaded d ≡ true → Sent (tick model d)
    reloads-back h never = reload-sent model d never (reload-due h)

    pub reloads : At model bcd ReloadNextCycle high 0 d → (n : ℕ) → d.load.reload_value ≡ held bcd n → 2 ≤ n → n ≤ radix_counts bcd
        → At model bcd Normal (not high) (loaded_count model n) (tick model d)
    unfolding tick
    reloads h n written least most =
        simp (reload-due h, h.set.mode-is, h.level-is) (load-at model bcd n (not high) d written h.set least most)

  -- a tick that takes t
  module _ (high : Bool) (v t : ℕ) (d : Channel) (top : v ≤ radix_counts bcd) (takes : square_takes high v ≡ t) (h : At model bcd Normal high v d) where
    tick-takes : tick model d ≡ after_counts model (times t count d)
    tick-takes = tick-counts high v d h ∙ ap (λ (k : ℕ). after_counts model (times k count d)) takes

    left_over : (w : ℕ) → w + t ≡ v → At model bcd Normal high w (times t count d)
    left_over w e =
        let k : v - t ≡ w = omega arith in
        subst (λ (x : ℕ). At model bcd Normal high x (times t count d)) k (counted model bcd Normal high v t d (omega arith) top h)

    same-reload : (times t count d).load.reload_value ≡ d.load.reload_value
    same-reload = ap (λ (l : Load). l.reload_value) (counts-load t d)

    -- and leaves w
    pub goes-on : (w : ℕ) → w + t ≡ v → 0 < t → 0 < w → At model bcd Normal high w (tick model d)
    goes-on w e some left =
        let a : At model bcd Normal high w (times t count d) = left_over w e in
        rw (tick-takes, above_zero high w (times t count d) a left (omega arith)) (marked-at high w (times t count d) a)

    -- and leaves none: the half ends at once, and the count that is written then is loaded, or one tick later
    pub ends : t ≡ v → waits_at_zero model d.load.reload_value high ≡ false
        → (n : ℕ) → d.load.reload_value ≡ held bcd n → 2 ≤ n → n ≤ radix_counts bcd
        → At model bcd Normal (not high) (loaded_count model n) (tick model d)
    ends e now n written least most =
        let a : At model bcd Normal high 0 (times t count d) = left_over 0 (omega arith) in
        rw (tick-takes, at_zero high (times t count d) a, over-now high (times t count d) a (rw same-reload now))
        (load-at model bcd n (not high) (times t count d) (same-reload ∙ written) a.set least most)

    same-never : never_loaded (times t count d) ≡ never_loaded d
    same-never = rw (control-kept t d, same-reload) refl

    pub ends-back : t ≡ v → waits_at_zero model d.load.reload_value high ≡ false → never_loaded d ≡ true → Sent (tick model d)
    ends-back e now never =
        let a : At model bcd Normal high 0 (times t count d) = left_over 0 (omega arith) in
        rw (tick-takes, at_zero high (times t count d) a, over-now high (times t count d) a (rw same-reload now))
        (sent-at (not high) (times t count d) (same-never ∙ never))

    pub lingers : t ≡ v → waits_at_zero model d.load.reload_value high ≡ true → At model bcd ReloadNextCycle high 0 (tick model d)
    lingers e later =
        let a : At model bcd Normal high 0 (times t count d) = left_over 0 (omega arith) in
        rw (tick-takes, at_zero high (times t count d) a, over-later high (times t count d) a (rw same-reload later)) (waiting-at high (times t count d) a)
