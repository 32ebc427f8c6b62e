-- Owed ticks worked off: 02, L1: "Working them off stops after the stated number of ticks and reports how many it made".
use Rattle.std.specs.Prelude.{ℕ, zero, suc, ◌+◌, ◌-◌, Bool, cond, ◌||◌, List, eqb, ltb, length, Option, Some, None}
use Rattle.refusal.specs.Reply.{accepted}
use Rattle.event.specs.declared.Event.{Event}
use Rattle.event.specs.Event.{event_at}
use Rattle.board.specs.declared.Board.{Board}
use Rattle.board.specs.Outcome.{Outcome, worked, refuse}
use Rattle.owed.specs.BoardTick.{board_tick, tick_event}

-- the lent event bytes, and the place where the next event goes
pub record Room : Type 0 where
  pub bytes : List ℕ
  pub place : ℕ

-- document 01's event, written where there is one: "The new place is the old plus 2, or the old if no event."
abbrev pub put : Option Event → Room → Room
put None room = room
put (Some event) room = record { bytes = event_at event.channel event.level room.bytes room.place; place = room.place + 2 }

-- how many bytes an event takes
abbrev pub size : Option Event → ℕ
size None = 0
size (Some event) = 2

-- "the next tick's events, in channel order": the bytes that they take, and the room after them
abbrev pub needed : Board → ℕ
needed b = size (tick_event b 0) + size (tick_event b 1) + size (tick_event b 2)

abbrev pub put_all : Board → Room → Room
put_all b room = put (tick_event b 2) (put (tick_event b 1) (put (tick_event b 0) room))

-- how far the work has come: the ticks made, the board and the room after them
pub record Work : Type 0 where
  pub made : ℕ
  pub board : Board
  pub room : Room

-- one tick more
abbrev pub one_more : Work → Work
one_more w = record { made = w.made + 1; board = board_tick w.board; room = put_all w.board w.room }

-- "the next tick's events ... would not fit the event bytes"
abbrev pub full : Work → Bool
full w = ltb (length w.room.bytes - w.room.place) (needed w.board)

-- no tick is owed, or the next one's events would not fit
abbrev pub stops : Work → Bool
stops w = eqb w.board.owed.0 0 || full w

-- at most this many ticks more, one after another
abbrev pub work_up_to : ℕ → Work → Work
work_up_to zero w = w
work_up_to (suc left) w = cond (stops w) w (work_up_to left (one_more w))

-- nothing made yet
abbrev pub begun : Board → List ℕ → ℕ → Work
begun b events place = record { made = 0; board = b; room = record { bytes = events; place = place } }

-- "reports how many it made"
abbrev pub report : Work → Outcome
report w = record { reply = accepted (worked w.made w.room.place); board = w.board; events = w.room.bytes }

-- Refusals 7, then 15: "for a stated number above 65,536"; "8 is not given"
unfoldable pub work_off : Board → ℕ → List ℕ → ℕ → Outcome
work_off b stated events place =
    cond (ltb (length events) place) (refuse 7 b events)
    (cond (ltb 65536 stated) (refuse 15 b events) (report (work_up_to stated (begun b events place))))
