use Rattle.std.proofs.Common.{◌+◌, ◌-◌, ◌<◌, ◌≤◌, length, get_or, arith}
use Rattle.channel.specs.Blank.{blank}
use Rattle.board.proofs.Channels.{three-are}
use Rattle.owed.specs.Worked.{size}
use Rattle.owed.proofs.Skips.{alike-few}
use Rattle.owed.proofs.Turns.{Ticks}
use Rattle.owed.proofs.Working.{begins, none-owed, too-full, goes_one, goes-many, all-skipped}
use Rattle.owed.proofs.work_up_to.Goals as goal

pub loop-made-init : goal.loop-made-init
loop-made-init c = begins c.args.channels.now c.args.model c.args.owed.now.0 c.args.stated c.args.events.now c.args.place c.told-channels c.requires

-- no tick is owed
pub returns-then-owed-eq0 : goal.returns-then-owed-eq0
returns-then-owed-eq0 c b has = none-owed c.loop-made.invariant c.loop-made-test.true c.if-owed-eq0.true b has

-- the next tick's events do not fit
pub returns-then-events-at : goal.returns-then-events-at
returns-then-events-at c b has =
    let l = c.loop-made in
    let first : Ticks c.args.model 0 (get_or l.channels 0 blank) c.tick-t0.result c.level_event-e0.result = record { after = c.tick-t0.ensures; event = c.level_event-e0.ensures } in
    let second : Ticks c.args.model 1 (get_or l.channels 1 blank) c.tick-t1.result c.level_event-e1.result = record { after = c.tick-t1.ensures; event = c.level_event-e1.ensures } in
    let third : Ticks c.args.model 2 (get_or l.channels 2 blank) c.tick-t2.result c.level_event-e2.result = record { after = c.tick-t2.ensures; event = c.level_event-e2.ensures } in
    let short : length l.events - l.at < size c.level_event-e0.result + size c.level_event-e1.result + size c.level_event-e2.result = omega (arith, c.if-events-at.true, c.size.ensures, c.size-then-run-eq0.ensures, c.size-then-run-eq0-2.ensures) in
    too-full l.invariant (three-are l.channels l.invariant.three) c.loop-made-test.true c.if-owed-eq0.false first second third short b has

-- a single tick, with its events
pub loop-made-preserved-then-run-eq0 : goal.loop-made-preserved-then-run-eq0
loop-made-preserved-then-run-eq0 c =
    let l = c.loop-made in
    let first : Ticks c.args.model 0 (get_or l.channels 0 blank) c.tick-t0.result c.level_event-e0.result = record { after = c.tick-t0.ensures; event = c.level_event-e0.ensures } in
    let second : Ticks c.args.model 1 (get_or l.channels 1 blank) c.tick-t1.result c.level_event-e1.result = record { after = c.tick-t1.ensures; event = c.level_event-e1.ensures } in
    let third : Ticks c.args.model 2 (get_or l.channels 2 blank) c.tick-t2.result c.level_event-e2.result = record { after = c.tick-t2.ensures; event = c.level_event-e2.ensures } in
    let enough : size c.level_event-e0.result + size c.level_event-e1.result + size c.level_event-e2.result ≤ length l.events - l.at = omega (arith, c.if-events-at.false, c.size.ensures, c.size-then-run-eq0.ensures, c.size-then-run-eq0-2.ensures) in
    goes_one l.invariant (three-are l.channels l.invariant.three) c.loop-made-test.true c.if-owed-eq0.false first second third enough _ _ c.put_events-at.ensures

-- a run of quiet ticks
pub loop-made-preserved : goal.loop-made-preserved
loop-made-preserved c =
    let l = c.loop-made in
    let s = c.alike-run.ensures in
    let few = alike-few _ _ _ _ _ _ s.number_is in
    goes-many l.invariant (three-are l.channels l.invariant.three) c.alike-run.result few.in_left few.in-owed s.skips₀ s.skips₁ s.skips₂ _
    (all-skipped c.alike-run.result l.channels l.invariant.three _ _ _ c.skip.ensures c.skip-else-run-eq0.ensures c.skip-else-run-eq0-2.ensures)
