-- What an accepted call that works ticks off has done: the number of ticks, the board after them, and the bytes that tell of them. Assumes nothing.
use Prim.Native.Nat.{ℕ, zero, suc, ◌+◌, ◌-◌, ◌<◌, ◌≤◌}
use mathlib.Core.Bool.{Bool, true, false, cond, ◌||◌}
use mathlib.Core.List.{List, ◌++◌, append_assoc, append-nil}
use mathlib.Core.Logic.{◌⊎◌, inl, inr, ⊎_elim}
use mathlib.Core.Path.{◌≡◌, refl, sym, ap, ap₂, ◌∙◌}
use native.Mathlib.Nat.{add-zero}
use native.Mathlib.Numerals.{add-one}
use native.Mathlib.Omega.{arith}
use lib.Dec.{eqb, ltb}
use lib.ListN.{length, take, drop, length-append, length-drop, take-append-drop}
use lib.Seq.{length-take-le, drop-drop}
use borrow.Author.Tests.{ltb-true, ltb-false, le-ltb, eqb-true, eqb-false, eq-eqb}
use Rattle.numbers.specs.Times.{times}
use Rattle.refusal.specs.Reply.{Reply, refused, accepted}
use Rattle.refusal.proofs.Apart.{not-refused}
use Rattle.channel.proofs.Pick.{pick-holds, pick-knowing}
use Rattle.board.specs.declared.Board.{Board}
use Rattle.board.specs.Outcome.{Value, worked, Outcome, refuse}
use Rattle.owed.specs.BoardTick.{board_tick}
use Rattle.owed.specs.Worked.{Room, needed, put_all, Work, one_more, full, work_up_to, begun, report, work_off}
use Rattle.owed.specs.Told.{tick_bytes, all_bytes, smaller, Enough, WorksOff, MakesNone, RefusedLeaves}
use Rattle.owed.proofs.Tells.{between, tick-size, all-behind, one-tick-more}
use Rattle.owed.proofs.Working.{accepted-is}

first-smaller : (m n : ℕ) → m ≤ n → smaller m n ≡ m
first-smaller m n h = simp (le-ltb _ _ h)

second-smaller : (m n : ℕ) → n ≤ m → smaller m n ≡ n
second-smaller m n h =
    pick-knowing (λ k. k ≡ n) (ltb n m) n m (λ below. refl) (λ not. let k : m ≤ n = ltb-false _ _ not in omega arith)

below-smaller : (k m n : ℕ) → k < m → k < n → k < smaller m n
below-smaller k m n h g = pick-holds (λ j. k < j) (ltb n m) n m g h

ticked-owed : (b : Board) → (board_tick b).owed.0 ≡ b.owed.0 - 1
unfolding board_tick
ticked-owed b = refl

-- where the bytes of the ticks made end
abbrev behind : Board → ℕ → ℕ → ℕ
behind b place made = place + length (all_bytes made b)

-- the room after that many ticks
abbrev room_of : Board → List ℕ → ℕ → ℕ → Room
room_of b events place made = between (take place events ++ all_bytes made b) (drop (behind b place made) events)

record Telling (b : Board) (events : List ℕ) (place : ℕ) (w : Work) : Type 0 where
  board-is : w.board ≡ times w.made board_tick b
  fewer-owed : w.board.owed.0 + w.made ≡ b.owed.0
  in-room : behind b place w.made ≤ length events
  room-is : w.room ≡ room_of b events place w.made

module _ (b : Board) (events : List ℕ) (place : ℕ) (inside : place ≤ length events) where
  place_is : (made : ℕ) → length (take place events ++ all_bytes made b) ≡ behind b place made
  place_is made = simp (length-append, length-take-le place events inside)

  begins : Telling b events place (begun b events place)
  begins =
      record {
        board-is = refl;
        fewer-owed = omega arith;
        in-room = omega arith;
        room-is =
            ap₂ (λ (l : List ℕ) k. record { bytes = l; place = k })
            (sym (rw (append-nil (take place events)) (rw (add-zero place) (take-append-drop place events))))
            (sym (rw (append-nil (take place events)) (length-take-le place events inside)));
      }

  module _ (w : Work) (t : Telling b events place w) where
    at-is : w.room.place ≡ behind b place w.made
    at-is = ap (λ (r : Room). r.place) t.room-is ∙ place_is w.made

    length-is : length w.room.bytes ≡ length events
    length-is =
        let h = t.in-room in
        ap (λ (r : Room). length r.bytes) t.room-is ∙ simp (length-append, length-drop, length-take-le place events inside) (omega arith)

    bytes-more : all_bytes (w.made + 1) b ≡ all_bytes w.made b ++ tick_bytes w.board
    bytes-more =
        ap (λ k. all_bytes k b) (add-one w.made)
        ∙ one-tick-more w.made b
        ∙ ap (λ (d : Board). all_bytes w.made b ++ tick_bytes d) (sym t.board-is)

    behind_more : behind b place (w.made + 1) ≡ behind b place w.made + length (tick_bytes w.board)
    behind_more =
        let more : length (all_bytes (w.made + 1) b) ≡ length (all_bytes w.made b) + length (tick_bytes w.board) = ap length bytes-more ∙ length-append (all_bytes w.made b) (tick_bytes w.board) in
        omega arith

    goes-on : (w.board.owed.0 ≡ 0 → ⊥) → needed w.board ≤ length w.room.bytes - w.room.place → Telling b events place (one_more w)
    goes-on some fits =
        let made = w.made in
        let written = take place events ++ all_bytes made b in
        let bytes : written ++ tick_bytes w.board ≡ take place events ++ all_bytes (made + 1) b =
        append_assoc (take place events) (all_bytes made b) (tick_bytes w.board) ∙ ap (λ (l : List ℕ). take place events ++ l) (sym bytes-more) in
        let left : drop (length (tick_bytes w.board)) (drop (behind b place made) events) ≡ drop (behind b place (made + 1)) events =
        drop-drop (length (tick_bytes w.board)) (behind b place made) events ∙ ap (λ k. drop k events) (sym behind_more) in
        record {
          board-is = ap board_tick t.board-is ∙ ap (λ k. times k board_tick b) (sym (add-one made));
          fewer-owed = omega (arith, ticked-owed w.board, t.fewer-owed, some);
          in-room = omega (arith, behind_more, tick-size w.board, fits, at-is, length-is, t.in-room);
          room-is = ap (put_all w.board) t.room-is ∙ all-behind w.board written (drop (behind b place made) events) ∙ ap₂ between bytes left;
        }

  -- the end of the work: what was told on the way, and that no tick was left out for another reason
  abbrev Ended : ℕ → Work → Type 0
  Ended stated w = Telling b events place w × Enough b stated w.made (length events - w.room.place) w.board

  module _ (stated left : ℕ) (w : Work) (t : Telling b events place w) (all : suc left + w.made ≡ stated) (next : Work) where
    -- the two tests that end the work before the stated number is made
    by_tests : (none short : Bool) → eqb w.board.owed.0 0 ≡ none → full w ≡ short
        → ((w.board.owed.0 ≡ 0 → ⊥) → needed w.board ≤ length w.room.bytes - w.room.place → Ended stated next)
        → Ended stated (cond (none || short) w next)
    by_tests true short none_is short-is more =
        let none : w.board.owed.0 ≡ 0 = eqb-true _ _ none_is in
        let made : w.made ≡ b.owed.0 = omega (arith, t.fewer-owed) in
        (t, inl (made ∙ sym (second-smaller stated b.owed.0 (omega arith))))
    by_tests false true none_is short-is more =
        let some : w.board.owed.0 ≡ 0 → ⊥ = eqb-false _ _ none_is in
        let short : length w.room.bytes - w.room.place < needed w.board = ltb-true _ _ short-is in
        (t, inr (below-smaller w.made stated b.owed.0 (omega arith) (omega (arith, t.fewer-owed, some)), omega (arith, short, length-is w t, tick-size w.board)))
    by_tests false false none_is short-is more = more (eqb-false _ _ none_is) (ltb-false _ _ short-is)

  ended : (stated left : ℕ) (w : Work) → Telling b events place w → left + w.made ≡ stated → Ended stated (work_up_to left w)
  ended stated zero w t all =
      let made : w.made ≡ stated = omega arith in
      (t, inl (made ∙ sym (first-smaller stated b.owed.0 (omega (arith, t.fewer-owed)))))
  ended stated (suc left) w t all =
      by_tests stated left w t all (work_up_to left (one_more w)) (eqb w.board.owed.0 0) (full w) refl refl
      (λ some fits. ended stated left (one_more w) (goes-on w t some fits) (omega arith))

pub worked-off : WorksOff
worked-off b stated events place inside few =
    let w = work_up_to stated (begun b events place) in
    let e = ended b events place inside stated stated (begun b events place) (begins b events place inside) (omega arith) in
    let at = at-is b events place inside w e.0 in
    rw (accepted-is b stated events place inside few)
    record {
      made = w.made;
      new = w.room.place;
      answered = refl;
      ticks-made = e.0.board-is;
      enough = e.1;
      fewer-owed = e.0.fewer-owed;
      new-place = at;
      in-room = omega (arith, at, e.0.in-room);
      told = ap (λ (r : Room). r.bytes) e.0.room-is ∙ ap (λ k. take place events ++ all_bytes w.made b ++ drop k events) (sym at);
    }

pub stays : (left : ℕ) (w : Work) → (left ≡ 0) ⊎ (w.board.owed.0 ≡ 0) → work_up_to left w ≡ w
stays zero w none = refl
stays (suc left) w none = ⊎_elim (λ (z : suc left ≡ 0). absurd (omega arith)) (λ (z : w.board.owed.0 ≡ 0). simp (eq-eqb _ _ z)) none

pub made_none : MakesNone
made_none b stated events place inside few none = accepted-is b stated events place inside few ∙ ap report (stays stated (begun b events place) none)

-- a refusal is one of the two
module _ (b : Board) (events : List ℕ) (made place number : ℕ) (after : Outcome) (took : after.reply ≡ accepted (worked made place)) where
  refused-by : (past many : Bool) → (cond past (refuse 7 b events) (cond many (refuse 15 b events) after)).reply ≡ refused number
      → cond past (refuse 7 b events) (cond many (refuse 15 b events) after) ≡ refuse number b events
  refused-by true many is = ap (λ (r : Reply Value). record { reply = r; board = b; events = events }) is
  refused-by false true is = ap (λ (r : Reply Value). record { reply = r; board = b; events = events }) is
  refused-by false false is = absurd (not-refused (worked made place) number (sym took ∙ is))

pub refused-leaves : RefusedLeaves
unfolding work_off
refused-leaves b stated events place number is =
    refused-by b events _ _ number (report (work_up_to stated (begun b events place))) refl (ltb (length events) place) (ltb 65536 stated) is
