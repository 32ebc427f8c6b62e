-- The shared rules that keep the count: entry into a state, a change of the output and a new mark do, and so does whatever a test picks of things that do.
-- Assumes nothing.
use mathlib.Core.Path.{refl, ◌∙◌}
use mathlib.Core.Bool.{Bool, true, false, cond}
use Rattle.channel.specs.declared.Channel.{Channel}
use Rattle.channel.specs.declared.ChannelState.{ChannelState}
use Rattle.channel.specs.Record.{with_dirty}
use Rattle.channel.specs.Shared.{change_channel_state, change_output_state}
use Rattle.channel.specs.Kept.{Kept}

pub kept_same : (c : Channel) → Kept c c
kept_same c = record { control-kept = refl; latch-kept = refl; element-kept = refl; status-latch-kept = refl; ticked-kept = refl }

pub kept_then : {c d e : Channel} → Kept c d → Kept d e → Kept c e
kept_then p q =
    record {
      control-kept = q.control-kept ∙ p.control-kept;
      latch-kept = q.latch-kept ∙ p.latch-kept;
      element-kept = q.element-kept ∙ p.element-kept;
      status-latch-kept = q.status-latch-kept ∙ p.status-latch-kept;
      ticked-kept = q.ticked-kept ∙ p.ticked-kept;
    }

pub kept-pick : {c d e : Channel} (b : Bool) → Kept c d → Kept c e → Kept c (cond b d e)
kept-pick true p q = p
kept-pick false p q = q

pub kept-state : (c : Channel) (s : ChannelState) → Kept c (change_channel_state c s)
unfolding change_channel_state
kept-state c s = record { control-kept = refl; latch-kept = refl; element-kept = refl; status-latch-kept = refl; ticked-kept = refl }

pub kept-output : (c : Channel) (level : Bool) → Kept c (change_output_state c level)
unfolding change_output_state
kept-output c level = record { control-kept = refl; latch-kept = refl; element-kept = refl; status-latch-kept = refl; ticked-kept = refl }

pub kept-dirty : (c : Channel) (dirty : Bool) → Kept c (with_dirty c dirty)
kept-dirty c dirty = record { control-kept = refl; latch-kept = refl; element-kept = refl; status-latch-kept = refl; ticked-kept = refl }
