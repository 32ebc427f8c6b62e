-- What is written into lent bytes of any length: all of it where there is room for the trace, and nothing where there is not. Assumes nothing.
use Prim.Native.Nat.{ℕ, ◌+◌, ◌*◌, ◌<◌, ◌≤◌}
use mathlib.Core.List.{List}
use mathlib.Core.Path.{◌≡◌, ap, ◌∙◌}
use lib.ListN.{length}
use borrow.Author.Tests.{lt-ltb, le-ltb}
use Rattle.line.specs.Line.{line_room}
use Rattle.trace.specs.declared.head.Head.{Head}
use Rattle.trace.specs.Judgement.{Faulted, refused_by}
use Rattle.trace.specs.Trace.{read_trace}
use Rattle.trace.proofs.Sound.{SoundAs}
use Rattle.std.specs.Prelude.{Ok, Err}
use Rattle.runner.specs.declared.lending.ReplayError.TheVariants.{Short}
use Rattle.runner.specs.Printed.{printed, Prints}
use Rattle.runner.specs.Lent.{in_room, room_for, replay_into, replayed}
use Rattle.runner.specs.Inner.{to_tell}
use Rattle.runner.proofs.Loop.{as-many-as}

pub no-room : (room : ℕ) (text bytes : List ℕ) → length bytes < room → replayed (Err Short) bytes ≡ in_room room text bytes
no-room room text bytes h = simp (lt-ltb (length bytes) room h)

pub in-room : (room : ℕ) (text bytes : List ℕ) (n : ℕ) (after : List ℕ) → room ≤ length bytes → Prints text bytes n after
    → replayed (Ok n) after ≡ in_room room text bytes
in-room room text bytes n after h p = simp (le-ltb (length bytes) room h, p.0, p.1)

-- the room that a trace asks for
pub room-refused : (trace : List ℕ) (f : Faulted) → read_trace trace ≡ refused_by f → room_for (read_trace trace) ≡ line_room
room-refused trace f is = ap room_for is

pub operations-are : (trace : List ℕ) (h : Head) → SoundAs trace h → length (to_tell trace 0 h.operations) ≡ h.operations
operations-are trace h whole = as-many-as trace 0 h.operations whole.all_sound

pub room-sound : (trace : List ℕ) (h : Head) → SoundAs trace h → room_for (read_trace trace) ≡ line_room * (h.operations + 2)
room-sound trace h whole = ap room_for whole.whole ∙ ap (λ (n : ℕ). line_room * (n + 2)) (operations-are trace h whole)

-- what is printed, into lent bytes that have the room or do not
module _ (trace bytes : List ℕ) (room : ℕ) (is : room_for (read_trace trace) ≡ room) where
  pub too_short : length bytes < room → replayed (Err Short) bytes ≡ replay_into trace bytes
  unfolding replay_into
  too_short h = rw is (no-room room (printed trace) bytes h)

  pub written : (n : ℕ) (after : List ℕ) → room ≤ length bytes → Prints (printed trace) bytes n after → replayed (Ok n) after ≡ replay_into trace bytes
  unfolding replay_into
  written n after h p = rw is (in-room room (printed trace) bytes n after h p)
