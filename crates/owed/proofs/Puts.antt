-- What an event leaves of the lent bytes: as many as there were, and the place moved by its size. Assumes nothing.
use Prim.Native.Nat.{ℕ, ◌+◌, ◌-◌, ◌≤◌}
use mathlib.Core.List.{List}
use mathlib.Core.Path.{◌≡◌, refl, sym, ap, ◌∙◌}
use native.Mathlib.Nat.{add-zero}
use native.Mathlib.Omega.{arith}
use lib.ListN.{length}
use borrow.Author.Tests.{le-ltb}
use Rattle.refusal.specs.Reply.{Reply, refused, accepted}
use Rattle.refusal.specs.Refusal.{refusal_number}
use Rattle.refusal.proofs.Apart.{refused-not}
use Rattle.event.specs.declared.Event.{Event}
use Rattle.std.specs.Prelude.{Option, Some, None, Result, Ok, Err}
use Rattle.std.specs.Result.{result_unwrap_or}
use Rattle.refusal.specs.declared.Refusal.{Refusal}
use Rattle.event.specs.Event.{Placing, place_event, placing}
use Rattle.event.proofs.Written.{event-written}
use Rattle.board.specs.declared.Board.{Board}
use Rattle.owed.specs.BoardTick.{tick_event}
use Rattle.owed.specs.Worked.{Room, put, size, needed, put_all}

pub size_small : (e : Option Event) → size e ≤ 2
size_small None = omega arith
size_small (Some event) = omega arith

pub put-place : (e : Option Event) (room : Room) → (put e room).place ≡ room.place + size e
put-place None room = sym (add-zero room.place)
put-place (Some event) room = refl

pub put-length : (e : Option Event) (room : Room) → room.place + size e ≤ length room.bytes → length (put e room).bytes ≡ length room.bytes
put-length None room h = refl
put-length (Some event) room h = (event-written event.channel event.level room.bytes room.place h).same_length

abbrev accepts : Room → Placing
accepts room = record { reply = accepted room.place; bytes = room.bytes }

-- an event that has room is not refused
put-taken : (e : Option Event) (bytes : List ℕ) (place : ℕ) → place + size e ≤ length bytes
    → place_event e bytes place ≡ accepts (put e (record { bytes = bytes; place = place }))
unfolding place_event
put-taken None bytes place h =
    let inside : place ≤ length bytes = omega arith in
    simp (le-ltb _ _ inside)
put-taken (Some event) bytes place h =
    let inside : place ≤ length bytes = omega arith in
    let enough : 2 ≤ length bytes - place = omega arith in
    simp (le-ltb _ _ inside, le-ltb _ _ enough)

abbrev place_said : Reply ℕ → ℕ
place_said (refused number) = 0
place_said (accepted place) = place

abbrev room_said : Placing → Room
room_said p = record { bytes = p.bytes; place = place_said p.reply }

-- the place that the event writer answers, or the old one, should it refuse, is where the event's room leads to
pub put-placed : (e : Option Event) (bytes : List ℕ) (place : ℕ) → place + size e ≤ length bytes → (p : Result ℕ Refusal) (after : List ℕ)
    → placing p after ≡ place_event e bytes place
    → record { bytes = after; place = result_unwrap_or p place } ≡ put e (record { bytes = bytes; place = place })
put-placed e bytes place h (Ok at) after said = ap room_said (said ∙ put-taken e bytes place h)
put-placed e bytes place h (Err refusal) after said =
    absurd (refused-not (refusal_number refusal) _ (ap (λ (p : Placing). p.reply) (said ∙ put-taken e bytes place h)))

-- the room after an event, for the next ones
pub still-fits : (e : Option Event) (room after : Room) → after ≡ put e room → (more : ℕ) → room.place + (size e + more) ≤ length room.bytes
    → after.place + more ≤ length after.bytes
still-fits e room after is more h =
    let moved : after.place ≡ room.place + size e = ap (λ (r : Room). r.place) is ∙ put-place e room in
    let kept : length after.bytes ≡ length room.bytes = ap (λ (r : Room). length r.bytes) is ∙ put-length e room (omega arith) in
    omega (arith, moved, kept, h)

pub puts-fit : (e f g : Option Event) (room : Room) → room.place + (size e + size f + size g) ≤ length room.bytes
    → (length (put g (put f (put e room))).bytes ≡ length room.bytes) × ((put g (put f (put e room))).place ≡ room.place + (size e + size f + size g))
puts-fit e f g room h =
    let first = put e room in
    let second = put f first in
    let h₁ = still-fits e room first refl (size f + size g) (omega (arith, h)) in
    let h₂ = still-fits f first second refl (size g) h₁ in
    let p₁ = put-place e room in
    let p₂ = put-place f first in
    let p₃ = put-place g second in (
      put-length g second h₂ ∙ put-length f first (omega (arith, h₁)) ∙ put-length e room (omega (arith, h)),
      omega (arith, p₁, p₂, p₃),
    )

-- the events of a tick, where they all have room
pub put_all-fits : (b : Board) (room : Room) → room.place + needed b ≤ length room.bytes
    → (length (put_all b room).bytes ≡ length room.bytes) × ((put_all b room).place ≡ room.place + needed b)
put_all-fits b room h = puts-fit (tick_event b 0) (tick_event b 1) (tick_event b 2) room h
