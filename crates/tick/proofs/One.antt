-- L1, T8: a count of 1 in modes 2 and 3 is never loaded by a tick. Assumes nothing.
use Prim.Native.Nat.{ℕ, zero, suc}
use mathlib.Core.Path.{◌≡◌, refl, ap, ◌∙◌}
use mathlib.Core.Bool.{Bool, true, false, not}
use Rattle.numbers.specs.Times.{times}
use Rattle.channel.specs.declared.Channel.{Channel}
use Rattle.channel.specs.declared.ChannelMode.TheVariants.{SquareWaveGenerator}
use Rattle.channel.specs.declared.ChannelState.TheVariants.{WaitingForLoadCycle}
use Rattle.channel.specs.declared.ControlWord.{ControlWord}
use Rattle.channel.specs.declared.PitType.{PitType}
use Rattle.channel.specs.Queries.{does_retrigger}
use Rattle.channel.specs.Shared.{change_channel_state, change_output_state, put_element}
use Rattle.channel.proofs.Keeps.{kept_then}
use Rattle.count.specs.Count.{count}
use Rattle.tick.specs.declared.due.Kind.TheVariants.{Load, Reload}
use Rattle.tick.specs.Due.{due}
use Rattle.tick.specs.Taken.{takes}
use Rattle.tick.specs.Tick.{never_loaded, sent_back, load_at, ends_half, lingers, half_over, after_counts, tick}
use Rattle.tick.specs.Kept.{TickKeeps}
use Rattle.tick.specs.One.{WrittenOne, NotLoaded, EndsAtZero, NeverLoads}
use Rattle.tick.proofs.Keeps.{counts-keep, tick-keeps}

never : (c : Channel) → WrittenOne c → never_loaded c ≡ true
never c w = simp (w.mode-2-or-3, w.one)

-- ticks and counts leave a count of 1 as it was written
one_kept : {c d : Channel} → TickKeeps c d → WrittenOne c → WrittenOne d
one_kept k w =
    record {
      mode-2-or-3 = ap (λ (v : ControlWord). does_retrigger v.mode) k.control-kept ∙ w.mode-2-or-3;
      one = k.reload-kept ∙ w.one;
    }

sent-back : (c : Channel) → NotLoaded c (sent_back c)
unfolding sent_back change_output_state change_channel_state
sent-back c =
    record {
      nothing-moves = record { control-kept = refl; latch-kept = refl; element-kept = refl; status-latch-kept = refl; ticked-kept = refl };
      waits-on = refl;
      goes-high = refl;
    }

unloaded : (level : Bool) (c : Channel) → WrittenOne c → NotLoaded c (load_at level c)
unfolding load_at
unloaded level c w = rw (never c w) (sent-back c)

at_load : (model : PitType) (c : Channel) → WrittenOne c → due c ≡ Load → NotLoaded c (tick model c)
unfolding tick
at_load model c w is-due = rw is-due (unloaded _ c w)

at-reload : (model : PitType) (c : Channel) → WrittenOne c → due c ≡ Reload → NotLoaded c (tick model c)
unfolding tick
at-reload model c w is-due = rw is-due (unloaded _ c w)

-- the load that was not made is due again
due-again : (d : Channel) → d.counter.channel_state ≡ WaitingForLoadCycle → due d ≡ Load
unfolding due
due-again d waits = rw waits refl

not-loaded-then : {c d e : Channel} → NotLoaded c d → NotLoaded d e → NotLoaded c e
not-loaded-then p q =
    record { nothing-moves = kept_then p.nothing-moves q.nothing-moves; waits-on = q.waits-on; goes-high = q.goes-high }

module _ (model : PitType) (c : Channel) (w : WrittenOne c) where
  written_after : (j : ℕ) → WrittenOne (times j (tick model) c)
  written_after zero = w
  written_after (suc j) = one_kept (tick-keeps model (times j (tick model) c)) (written_after j)

  ever : due c ≡ Load → (j : ℕ) → NotLoaded c (times (suc j) (tick model) c)
  ever is-due zero = at_load model c w is-due
  ever is-due (suc j) =
      let now = ever is-due j in
      not-loaded-then now
      (at_load model (times (suc j) (tick model) c) (written_after (suc j)) (due-again (times (suc j) (tick model) c) now.waits-on))

-- counts leave the output, so a half that does not linger before them does not after them
output-kept : (n : ℕ) (c : Channel) → (times n count c).pins ≡ c.pins
unfolding count put_element
output-kept zero c = refl
output-kept (suc n) c = output-kept n c

lingers-kept : (model : PitType) (n : ℕ) (c : Channel) → lingers model (times n count c) ≡ lingers model c
lingers-kept model n c = simp (output-kept n c, (counts-keep n c).reload-kept)

half-over : (model : PitType) (d : Channel) → WrittenOne d → d.control.mode ≡ SquareWaveGenerator → d.counter.counting_element ≡ 0
    → lingers model d ≡ false → NotLoaded d (after_counts model d)
unfolding after_counts half_over
half-over model d w mode zeroed goes =
    let ends : ends_half d.control.mode d.counter.counting_element ≡ true = rw (mode, zeroed) refl in
    rw (ends, goes) (unloaded (not d.pins.output) d w)

module _ (model : PitType) (c : Channel) (w : WrittenOne c) (end : EndsAtZero model c) where
  at_zero : NotLoaded (times (takes c) count c) (tick model c)
  unfolding tick
  at_zero =
      let kept = counts-keep (takes c) c in
      rw end.counts
      (half-over model (times (takes c) count c) (one_kept kept w)
      (ap (λ (v : ControlWord). v.mode) kept.control-kept ∙ end.square)
      end.to-zero
      (lingers-kept model (takes c) c ∙ end.at_once))

  left-zero : (tick model c).counter.counting_element ≡ 0
  left-zero = at_zero.nothing-moves.element-kept ∙ end.to-zero

pub never-loads : NeverLoads
never-loads model c w =
    record {
      stays = ever model c w;
      returns = at-reload model c w;
      returns-at-zero = at_zero model c w;
      left-at-zero = left-zero model c w;
    }
