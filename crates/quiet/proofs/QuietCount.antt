-- Quiet ticks that count. Assumes nothing.
use Prim.Native.Nat.{ℕ, suc, ◌*◌, ◌<◌, ◌≤◌}
use mathlib.Core.Bool.{Bool, true, false, cond, ◌&&◌, not, false≢true}
use mathlib.Core.Path.{◌≡◌, refl, sym, ap, ◌∙◌}
use native.Mathlib.Nat.{suc-mul}
use native.Mathlib.Omega.{arith}
use Rattle.numbers.specs.Times.{times}
use Rattle.numbers.proofs.Times.{times-add}
use Rattle.channel.specs.declared.Channel.{Channel}
use Rattle.channel.specs.declared.ChannelState.{ChannelState}
use Rattle.channel.specs.declared.ChannelState.TheVariants.{WaitingForReload, WaitingForGate, DeferLoadCycle, WaitingForLoadCycle, WaitingForLoadTrigger, Counting}
use Rattle.channel.specs.declared.PitType.{PitType}
use Rattle.channel.specs.declared.ReloadFlag.TheVariants.{Normal, ReloadNextCycle}
use Rattle.channel.specs.Shared.{is_counting, change_output_state}
use Rattle.count.specs.Count.{count}
use Rattle.count.proofs.Many.{counted_by, counted-at-once}
use Rattle.tick.specs.declared.due.Kind.{Kind}
use Rattle.tick.specs.declared.due.Kind.TheVariants.{Idle, Reload, Count}
use Rattle.tick.specs.Due.{runs, reloads_from, due_in, due}
use Rattle.tick.specs.Taken.{takes}
use Rattle.tick.specs.Level.{strobes, count_level}
use Rattle.tick.specs.Tick.{aged_by, with_armed, ends_half, counting_on, marked, after_counts, tick}
use Rattle.quiet.specs.Inner.{to_zero, quiet, skip}
use Rattle.quiet.proofs.Alike.{quiet_at, Alike, alike}
use Rattle.quiet.proofs.Ages.{aged-more, counts-aged}
use Rattle.quiet.proofs.Quietly.{Next, skip-as, quiet-as, tick-as, due-aged}

counting-quiet : (b : Bool) (n : ℕ) → 0 < cond b n 0 → (b ≡ true) × (0 < n)
counting-quiet true n h = (refl, h)
counting-quiet false n h = absurd (omega arith)

marked-same : (c : Channel)
    → count_level c.control.mode c.pins.output c.load.armed c.counter.counting_element ≡ c.pins.output
    → (c.load.armed && not (strobes c.control.mode c.load.armed c.counter.counting_element)) ≡ c.load.armed
    → marked c ≡ c
unfolding marked with_armed change_output_state
marked-same c level armed = simp (level, armed)

after_same : (model : PitType) (c : Channel) → ends_half c.control.mode c.counter.counting_element ≡ false → marked c ≡ c
    → is_counting c.counter.channel_state ≡ true → after_counts model c ≡ aged_by 1 c
unfolding after_counts counting_on
after_same model c half same counting = rw (half, same, counting)

kinds-apart : Idle ≡ Count → ⊥
kinds-apart h = let z : ◌≡◌ {A = ℕ} 0 1 = cc in omega arith

reload-apart : Reload ≡ Count → ⊥
reload-apart h = let z : ◌≡◌ {A = ℕ} 0 1 = cc in omega arith

ran : (b : Bool) (due : Kind) → cond b due Idle ≡ Count → (b ≡ true) × (due ≡ Count)
ran true due h = (refl, h)
ran false due h = absurd (kinds-apart h)

-- a channel that counts goes on to count, if it stands at no mark
still-in : (s : ChannelState) (c d : Channel) → runs d ≡ runs c → is_counting s ≡ true → due_in s c ≡ Count
    → reloads_from d.control.mode d.counter.counting_element ≡ false → due_in s d ≡ Count
still-in WaitingForReload c d same counting e mark = absurd (false≢true counting)
still-in WaitingForGate c d same counting e mark = absurd (false≢true counting)
still-in DeferLoadCycle c d same counting e mark = absurd (false≢true counting)
still-in WaitingForLoadCycle c d same counting e mark = absurd (false≢true counting)
still-in WaitingForLoadTrigger c d same counting e mark = absurd (false≢true counting)
still-in (Counting Normal) c d same counting e mark =
    simp (same ∙ (ran (runs c) (cond (reloads_from c.control.mode c.counter.counting_element) Reload Count) e).0, mark)
still-in (Counting ReloadNextCycle) c d same counting e mark = absurd (reload-apart (ran (runs c) Reload e).1)

counts-more : (k t : ℕ) (c : Channel) → aged_by (suc k) (times (suc k * t) count c) ≡ aged_by k (times (k * t) count (aged_by 1 (times t count c)))
counts-more k t c =
    rw (suc-mul k t, times-add (k * t) t count c, counts-aged (k * t) 1 (times t count c)) (aged-more k (times (k * t) count (times t count c)))

module _ (model : PitType) (c : Channel) (h : c.counter.counting_element < 65536) (e : due c ≡ Count) (q : 0 < quiet c) where
  abbrev pub after : Channel
  after = counted_by (takes c) c

  quiet-parts : (is_counting c.counter.channel_state ≡ true)
      × (0 < quiet_at c.control.mode c.control.bcd_mode c.pins.output c.load.armed c.counter.counting_element)
  unfolding to_zero
  quiet-parts = counting-quiet (is_counting c.counter.channel_state) _ (rw (quiet-as Count c e) at q)

  like : Alike c.control.mode c.control.bcd_mode c.pins.output c.load.armed c.counter.counting_element
      after.counter.counting_element
  like = alike c.control.bcd_mode c.counter.counting_element h c.control.mode c.pins.output c.load.armed quiet-parts.1

  due-after : due (aged_by 1 after) ≡ Count
  unfolding due
  due-after = due-aged 1 after ∙ still-in c.counter.channel_state c after refl quiet-parts.0 e like.no-reload

  tick-after : tick model c ≡ aged_by 1 after
  tick-after =
      tick-as Count model c e
      ∙ ap (after_counts model) (counted-at-once (takes c) c)
      ∙ after_same model after like.no-half (marked-same after like.same-level like.same-armed) quiet-parts.0

  fewer-after : quiet c ≤ suc (quiet (aged_by 1 after))
  unfolding to_zero aged_by
  fewer-after = rw (quiet-as Count c e, quiet-as Count (aged_by 1 after) due-after, quiet-parts.0) like.less-quiet

  takes-after : takes (aged_by 1 after) ≡ takes c
  unfolding aged_by
  takes-after = like.same_takes

  more-after : (k : ℕ) → skip (suc k) c ≡ skip k (aged_by 1 after)
  more-after k =
      skip-as Count (suc k) c e
      ∙ counts-more k (takes c) c
      ∙ ap (λ (d : Channel). aged_by k (times (k * takes c) count (aged_by 1 d))) (counted-at-once (takes c) c)
      ∙ ap (λ (t : ℕ). aged_by k (times (k * t) count (aged_by 1 after))) (sym takes-after)
      ∙ sym (skip-as Count k (aged_by 1 after) due-after)

  pub next-count : Next model c (aged_by 1 after)
  next-count = record { one = tick-after; fits = unfold aged_by in like.fits; fewer = fewer-after; more = more-after }
