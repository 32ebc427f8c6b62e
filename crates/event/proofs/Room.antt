-- What `place_event`'s tests come to, for an event that is due and for none; and when none is. Assumes nothing.
use Prim.Native.Nat.{ℕ, ◌+◌, ◌-◌, ◌<◌, ◌≤◌}
use mathlib.Core.Bool.{Bool, true, false, cond}
use mathlib.Core.List.{List}
use mathlib.Core.Path.{◌≡◌, refl}
use native.Mathlib.Omega.{arith}
use lib.Dec.{ltb}
use lib.ListN.{length}
use borrow.Author.Tests.{ltb-true, ltb-false}
use Rattle.refusal.specs.Reply.{refused, accepted}
use Rattle.std.specs.Prelude.{Some, None}
use Rattle.event.specs.Event.{Placing, event_of, event_at, place_event}

module _ (events : List ℕ) (place : ℕ) (P : Placing → Type 0) (past : length events < place → P (record { reply = refused 7; bytes = events })) where
  unchanged-by : (over : Bool) → ltb (length events) place ≡ over
      → (place ≤ length events → P (record { reply = accepted place; bytes = events }))
      → P (cond over (record { reply = refused 7; bytes = events }) (record { reply = accepted place; bytes = events }))
  unchanged-by true o inside = past (ltb-true _ _ o)
  unchanged-by false o inside = inside (ltb-false _ _ o)

  pub by-unchanged : (place ≤ length events → P (record { reply = accepted place; bytes = events })) → P (place_event None events place)
  unfolding place_event
  by-unchanged inside = unchanged-by (ltb (length events) place) refl inside

  level_by : (n : ℕ) (level over short : Bool) → ltb (length events) place ≡ over → ltb (length events - place) 2 ≡ short
      → (place ≤ length events → length events - place < 2 → P (record { reply = refused 8; bytes = events }))
      → (place + 2 ≤ length events → P (record { reply = accepted (place + 2); bytes = event_at n level events place }))
      → P (cond over (record { reply = refused 7; bytes = events })
      (cond short (record { reply = refused 8; bytes = events }) (record { reply = accepted (place + 2); bytes = event_at n level events place })))
  level_by n level true short o s few room = past (ltb-true _ _ o)
  level_by n level false true o s few room = few (ltb-false _ _ o) (ltb-true _ _ s)
  level_by n level false false o s few room =
      let inside : place ≤ length events = ltb-false _ _ o in
      let enough : 2 ≤ length events - place = ltb-false _ _ s in
      room (omega arith)

  pub by_level : (n : ℕ) (level : Bool)
      → (place ≤ length events → length events - place < 2 → P (record { reply = refused 8; bytes = events }))
      → (place + 2 ≤ length events → P (record { reply = accepted (place + 2); bytes = event_at n level events place }))
      → P (place_event (Some (record { channel = n; level = level })) events place)
  unfolding place_event
  by_level n level few room = level_by n level (ltb (length events) place) (ltb (length events - place) 2) refl refl few room

-- "Setting a level that already stands is no event."
pub standing-level : (n : ℕ) (level : Bool) → event_of n level level ≡ None
standing-level n true = refl
standing-level n false = refl
