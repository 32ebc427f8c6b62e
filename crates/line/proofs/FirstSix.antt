-- Of the lent event bytes a line shows none but the first six. Assumes nothing.
use Prim.Native.Nat.{ℕ}
use mathlib.Core.List.{List, [], ◌∷◌}
use mathlib.Core.Path.{◌≡◌, refl}
use lib.ListN.{get_or}
use Rattle.refusal.specs.Reply.{Reply, refused, accepted}
use Rattle.board.specs.Outcome.{Value, done, new_place, byte, ticks, output_state, channel_count, retriggers, dirty_marks, timer_accum, worked}
use Rattle.line.specs.Lines.{operation_line}

pub first-six : (index : ℕ) (reply : Reply Value) (events : List ℕ) (left : ℕ)
    → operation_line index reply (get_or events 0 0 ∷ get_or events 1 0 ∷ get_or events 2 0 ∷ get_or events 3 0 ∷ get_or events 4 0 ∷ get_or events 5 0 ∷ []) left
    ≡ operation_line index reply events left
unfolding operation_line
first-six index (refused number) events left = refl
first-six index (accepted done) events left = refl
first-six index (accepted (new_place place)) events left = refl
first-six index (accepted (byte x)) events left = refl
first-six index (accepted (ticks number)) events left = refl
first-six index (accepted (output_state level)) events left = refl
first-six index (accepted (channel_count register element counting)) events left = refl
first-six index (accepted (retriggers answer)) events left = refl
first-six index (accepted (dirty_marks dirty counting ticked)) events left = refl
first-six index (accepted (timer_accum number)) events left = refl
first-six index (accepted (worked made place)) events left = refl
