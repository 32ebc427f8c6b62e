use Rattle.std.proofs.Common.{ℕ, ◌<◌, get_or, sym, rules}
use Rattle.board_encoding.specs.Loaded.{HoldsBoard}
use Rattle.in_bytes.proofs.Calls.{short-call, unreadable-call, unknown-call, no-room, made-call, refused-call}
use Rattle.in_bytes.proofs.working.call.Goals as goal

pub returns-then-bytes-lt-BOARD_SIZE : goal.returns-then-bytes-lt-BOARD_SIZE
returns-then-bytes-lt-BOARD_SIZE c =
    let a = c.args in
    short-call a.asked a.room a.place a.bytes.now a.events.now c.if-bytes-lt-BOARD_SIZE.true

pub returns-then-not-board_readable : goal.returns-then-not-board_readable
returns-then-not-board_readable c =
    let a = c.args in
    unreadable-call a.asked a.room a.place a.bytes.now a.events.now c.if-bytes-lt-BOARD_SIZE.false (search rules)

pub returns-in_default : goal.returns-in_default
returns-in_default c =
    let a = c.args in
    let h : HoldsBoard a.bytes.now = record { long = c.if-bytes-lt-BOARD_SIZE.false; within = search rules } in
    unknown-call a.asked a.room a.place a.bytes.now a.events.now h c.in_default.is

pub returns-then-room-lt-BOARD_ANSWER_SIZE : goal.returns-then-room-lt-BOARD_ANSWER_SIZE
returns-then-room-lt-BOARD_ANSWER_SIZE c =
    let a = c.args in
    let h : HoldsBoard a.bytes.now = record { long = c.if-bytes-lt-BOARD_SIZE.false; within = search rules } in
    no-room a.asked a.room a.place a.bytes.now a.events.now h _ c.in-Some.is c.if-room-lt-BOARD_ANSWER_SIZE.true

pub returns-then-numbers-ne0 : goal.returns-then-numbers-ne0
returns-then-numbers-ne0 c =
    let a = c.args in
    let h : HoldsBoard a.bytes.now = record { long = c.if-bytes-lt-BOARD_SIZE.false; within = search rules } in
    let all : (p : ℕ) → get_or a.bytes.now p 0 < 256 = search rules in
    refused-call a.asked a.room a.place a.bytes.now a.events.now h _ c.in-Some.is c.if-room-lt-BOARD_ANSWER_SIZE.false c.make-numbers.result _ _ c.make-numbers.ensures all c.if-numbers-ne0.true

pub returns : goal.returns
returns c =
    let a = c.args in
    let h : HoldsBoard a.bytes.now = record { long = c.if-bytes-lt-BOARD_SIZE.false; within = search rules } in
    made-call a.asked a.room a.place a.bytes.now a.events.now h _ c.in-Some.is c.if-room-lt-BOARD_ANSWER_SIZE.false c.make-numbers.result _ _ c.make-numbers.ensures c.if-numbers-ne0.false
