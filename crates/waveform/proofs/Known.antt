-- On a new board it is known whether mode 1 was the last of modes 0 to 3, so that it is never open which tick loads. Assumes nothing.
use Prim.Native.Nat.{ℕ, zero, suc, ◌+◌}
use mathlib.Core.Bool.{Bool, true, false, cond, ◌&&◌, ◌||◌}
use mathlib.Core.List.{List, [], ◌∷◌}
use mathlib.Core.Path.{◌≡◌, refl, sym, subst}
use lib.Dec.{eqb}
use Rattle.numbers.specs.Times.{times}
use Rattle.refusal.specs.Reply.{Reply, refused, accepted}
use Rattle.board.specs.declared.Board.{Board}
use Rattle.board.specs.Outcome.{Value}
use Rattle.step.specs.Operation.{Operation, WritePort, ReadPort, SetChannelGate, Counts, LoadCycle, CatchUp, Run, Reset, GetOutputState, GetChannelCount, DoesChannelRetrigger, IsDirty, GetTimerAccum, WorkOff}
use Rattle.step.specs.Owed.{made_by}
use Rattle.step.specs.Accepted.{unless_refused}
use Rattle.step.specs.Step.{step}
use Rattle.sheet.specs.ControlByte.{Access, Request, no_counter, latch_counter, program, request_of}
use Rattle.sheet.specs.Ticking.{Chip}
use Rattle.sheet.specs.Counter.{Fixed, fixed_at}
use Rattle.agreement.specs.Words.{sheet_chip}
use Rattle.agreement.specs.Watching.{Watch, unprogrammed, watching, one_now, unknown, watch_program, watch_tick, watch_gate, watch_write, watch_counts, watch_cycle}
use Rattle.waveform.specs.Heard.{heard_control, heard_of, hears, defers_after, defers_over, watch_over}
use Rattle.waveform.specs.Opened.{after_one, tick_open}
use Rattle.waveform.specs.Pin.{NewIsKnown}

abbrev Known : Watch → Type 0
Known w = unknown (after_one w) ≡ false

either : (b : Bool) (x y : Watch) → Known x → Known y → Known (cond b x y)
either true x y a b = a
either false x y a b = b

set_known : (mode : ℕ) (one : Fixed Bool) → unknown one ≡ false → unknown (one_now mode one) ≡ false
set_known mode one known = go (eqb mode 4 || eqb mode 5)
  where
    go : (kept : Bool) → unknown (cond kept one (fixed_at (eqb mode 1))) ≡ false
    go true = known
    go false = refl

program-known : (w : Watch) (access : Access) (mode : ℕ) (bcd : Bool) → Known w → Known (watch_program w access mode bcd)
program-known (unprogrammed gate one) access mode bcd known = set_known mode one known
program-known (watching k late one) access mode bcd known = set_known mode one known

tick-known : (chip : Chip) (k : ℕ) (w : Watch) → Known w → Known (times k (watch_tick chip) w)
tick-known chip zero w known = known
tick-known chip (suc k) w known = one-tick (times k (watch_tick chip) w) (tick-known chip k w known)
  where
    one-tick : (x : Watch) → Known x → Known (watch_tick chip x)
    one-tick (unprogrammed gate one) is = is
    one-tick (watching c late one) is = is

gate-known : (w : Watch) (level : Bool) → Known w → Known (watch_gate w level)
gate-known (unprogrammed gate one) level known = known
gate-known (watching k late one) level known = known

write_known : (chip : Chip) (defer : Bool) (w : Watch) (byte : ℕ) → Known w → Known (watch_write chip defer w byte)
write_known chip defer (unprogrammed gate one) byte known = known
write_known chip defer (watching k late one) byte known = known

counts-known : (w : Watch) (number : ℕ) → Known w → Known (watch_counts w number)
counts-known (unprogrammed gate one) number known = known
counts-known (watching k late one) number known = either (eqb number 0) (watching k late one) _ known known

cycle-known : (w : Watch) → Known w → Known (watch_cycle w)
cycle-known (unprogrammed gate one) known = known
cycle-known (watching k late one) known = known

control-known : (i : ℕ) (r : Request) (w : Watch) → Known w → Known (heard_control i r w)
control-known i no_counter w known = known
control-known i (latch_counter n) w known = known
control-known i (program n access mode bcd) w known = either (eqb n i) (watch_program w access mode bcd) w (program-known w access mode bcd known) known

heard-known : (i : ℕ) (b : Board) (defers : Bool) (o : Operation) (w : Watch) → Known w → Known (heard_of i b defers o w)
heard-known i b defers (WritePort port byte events place) w known =
    either (eqb port (0x40 + i)) (watch_write (sheet_chip b.model) defers w byte) (cond (eqb port 0x43) (heard_control i (request_of byte) w) w)
    (write_known (sheet_chip b.model) defers w byte known)
    (either (eqb port 0x43) (heard_control i (request_of byte) w) w (control-known i (request_of byte) w known) known)
heard-known i b defers (ReadPort port) w known = known
heard-known i b defers (SetChannelGate n level events place) w known = either (eqb n i) (watch_gate w level) w (gate-known w level known) known
heard-known i b defers (Counts n number) w known = either (eqb n i) (watch_counts w number) w (counts-known w number known) known
heard-known i b defers (LoadCycle n) w known = either (eqb n i) (watch_cycle w) w (cycle-known w known) known
heard-known i b defers (CatchUp given) w known = known
heard-known i b defers (Run given) w known = known
heard-known i b defers Reset w known = refl
heard-known i b defers (GetOutputState n) w known = known
heard-known i b defers (GetChannelCount n) w known = known
heard-known i b defers (DoesChannelRetrigger n) w known = known
heard-known i b defers (IsDirty n) w known = known
heard-known i b defers GetTimerAccum w known = known
heard-known i b defers (WorkOff stated events place) w known = tick-known (sheet_chip b.model) (made_by (step b (WorkOff stated events place)).reply) w known

unless-known : (reply : Reply Value) (old new : Watch) → Known old → Known new → Known (unless_refused reply old new)
unless-known (refused number) old new a b = a
unless-known (accepted value) old new a b = b

over-known : (i : ℕ) (b : Board) (os : List Operation) (defers : Bool) (w : Watch) → Known w → Known (watch_over i b os defers w)
over-known i b [] defers w known = known
over-known i b (o ∷ os) defers w known =
    over-known i (step b o).board os (defers_after b o defers) (hears i b defers o w)
    (unless-known (step b o).reply w (heard_of i b defers o w) known (heard-known i b defers o w known))

never-open : (defer : Bool) (mode : ℕ) (one : Fixed Bool) → unknown one ≡ false → tick_open defer mode one ≡ false
never-open defer mode one known = rw known (go (eqb mode 4) defer)
  where
    go : (a b : Bool) → (a && (b && false)) ≡ false
    go true true = refl
    go true false = refl
    go false b = refl

pub new-is-known : NewIsKnown
new-is-known b defers start new i os mode =
    never-open (defers_over b os defers) mode (one_now mode (after_one (watch_over i b os defers start)))
    (set_known mode (after_one (watch_over i b os defers start)) (over-known i b os defers start (subst Known (sym new.1.1.1.1) refl)))
