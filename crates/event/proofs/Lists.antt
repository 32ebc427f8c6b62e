-- The event bytes as lists: two stores at the front of a tail, and the whole once the tail is back. Assumes nothing.
use Prim.Native.Nat.{ℕ, ◌-◌, ◌≤◌}
use mathlib.Core.Bool.{Bool}
use mathlib.Core.Path.{◌≡◌, refl}
use mathlib.Core.List.{List, [], ◌∷◌, ◌++◌, append-nil}
use native.Mathlib.Omega.{arith}
use lib.ListN.{length, take, drop, set, length-drop}
use lib.Seq.{take_all, drop-length}
use borrow.Rule.Slice.PartMut.{put_mid, Post-is}
use Rattle.std.specs.Prelude.{Some}
use Rattle.event.specs.Event.{event_bytes, event_at}

pub first_two : (xs : List ℕ) (a b : ℕ) → 2 ≤ length xs → set (set xs 0 a) 1 b ≡ a ∷ b ∷ drop 2 xs
first_two [] a b h = absurd (omega arith)
first_two (x ∷ []) a b h = absurd (omega arith)
first_two (x ∷ y ∷ r) a b h = refl

-- what is lent is the whole tail
whole-tail : (a : ℕ) (xs : List ℕ) → take (length xs - a) (drop a xs) ≡ drop a xs
whole-tail a xs = take_all (length xs - a) (drop a xs) (simp length-drop (omega arith))

-- an event written at the front of the tail, seen from the whole
pub event-back : (channel : ℕ) (level : Bool) (bytes : List ℕ) (place : ℕ) (tail : List ℕ) → place ≤ length bytes
    → tail ≡ event_bytes (Some (record { channel = channel; level = level })) ++ drop 2 (take (length bytes - place) (drop place bytes))
    → put_mid place (length bytes - place) bytes tail ≡ event_at channel level bytes place
event-back channel level bytes place tail h e =
    simp (Post-is place (length bytes) bytes h, drop-length, append-nil) (simp (e, whole-tail))
