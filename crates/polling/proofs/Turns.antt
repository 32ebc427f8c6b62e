-- One call of the board: what is known of a channel before it is known after it, with what happened. Assumes nothing.
use Prim.Native.Nat.{ℕ, zero, suc, ◌+◌, ◌<◌}
use mathlib.Core.Bool.{cond}
use mathlib.Core.List.{List, [], ◌∷◌}
use mathlib.Core.Path.{◌≡◌, refl, sym, ap, subst}
use lib.Dec.{eqb}
use lib.ListN.{length}
use Rattle.refusal.specs.Reply.{Reply}
use Rattle.sheet.specs.NullCount.{Happening, programmed}
use Rattle.channel.specs.declared.Channel.{Channel}
use Rattle.channel.specs.declared.PitType.{PitType}
use Rattle.channel.proofs.Pick.{pick_same}
use Rattle.control.specs.declared.Command.{Command}
use Rattle.control.specs.declared.Command.TheVariants.{Nothing, LatchCount, SetMode, ReadBack}
use Rattle.control.specs.Control.{command_of}
use Rattle.numbers.specs.Times.{times}
use Rattle.tick.specs.Tick.{tick}
use Rattle.board.specs.declared.Board.{Board}
use Rattle.board.specs.Board.{channel_at}
use Rattle.board.specs.Outcome.{Value}
use Rattle.step.specs.Operation.{Operation, WritePort, ReadPort, SetChannelGate, Counts, LoadCycle, CatchUp, Run, Reset, GetOutputState, GetChannelCount, DoesChannelRetrigger, IsDirty, GetTimerAccum, WorkOff}
use Rattle.step.specs.Step.{step, steps}
use Rattle.step.specs.Accepted.{unless_refused}
use Rattle.step.specs.Owed.{made_by}
use Rattle.step.proofs.Accepted.{by-reply}
use Rattle.step.proofs.Hearing.{Listener, Kept, on_command, on_ticks, on_call, call_kept}
use Rattle.step.proofs.Leaves.{refused-leaves}
use Rattle.step.proofs.Three.{step-three}
use Rattle.polling.specs.Happened.{byte_happens, command_happens, cycle_happens, tick_happens, ticks_happen, call_happens, happens, happened}
use Rattle.polling.proofs.Knows.{Knows, knows-still}
use Rattle.polling.proofs.Channels.{fresh-knows, mode-knows, counts-unmoved, latch-unmoved, read-unmoved, back-unmoved, dirty-unmoved, gate-unmoved, byte-knows, cycle-knows, tick-knows}

-- what happens to a channel, as the rules tell it
abbrev happening : Listener (List Happening)
happening =
    record {
      heeds = λ byte. Unit;
      on-mode = λ word all. programmed ∷ all;
      on-byte = λ model c byte defer all. byte_happens c byte all;
      on-gate = λ level all. all;
      on-counts = λ number all. all;
      on-cycle = cycle_happens;
      on-tick = tick_happens;
      on-reset = λ all. [];
    }

known : (model : PitType) → Kept happening model Knows
known model =
    record {
      mode-kept = λ all c word k. mode-knows all c word model;
      byte-kept = λ all c byte defer heeded k. byte-knows all c byte defer k;
      gate-kept = λ all c level k. knows-still (gate-unmoved c level) k;
      counts-kept = λ all c number k. knows-still (counts-unmoved number c) k;
      cycle-kept = cycle-knows;
      tick-kept = tick-knows model;
      reset-kept = λ all c k. fresh-knows c.pins.gate;
      latch-kept = λ all c k. knows-still (latch-unmoved c) k;
      back-kept = λ all c counts status k. knows-still (back-unmoved counts status c) k;
      read_kept = λ all c k. knows-still (read-unmoved c) k;
      dirty-kept = λ all c dirty k. knows-still (dirty-unmoved c dirty) k;
    }

-- .. in the words of specs/Happened.antt
same-command : (i : ℕ) (k : Command) (all : List Happening) → on_command happening i k all ≡ command_happens i k all
same-command i Nothing all = refl
same-command i (LatchCount n) all = refl
same-command i (SetMode n word) all = refl
same-command i (ReadBack word) all = refl

same-ticks : (model : PitType) (n : ℕ) (c : Channel) (all : List Happening) → on_ticks happening model n c all ≡ ticks_happen model n c all
same-ticks model zero c all = refl
same-ticks model (suc n) c all = ap (tick_happens model (times n (tick model) c)) (same-ticks model n c all)

same-call : (i : ℕ) (b : Board) (o : Operation) (all : List Happening) → on_call happening i b o all ≡ call_happens i b o all
same-call i b (WritePort port byte events place) all =
    ap
    (λ (x : List Happening). cond (eqb port (0x40 + i)) (byte_happens (channel_at b i) byte all) (cond (eqb port 0x43) x all))
    (same-command i (command_of b.model byte) all)
same-call i b (ReadPort port) all = refl
same-call i b (SetChannelGate n level events place) all = pick_same (eqb n i) all
same-call i b (Counts n number) all = pick_same (eqb n i) all
same-call i b (LoadCycle n) all = refl
same-call i b (CatchUp given) all = refl
same-call i b (Run given) all = refl
same-call i b Reset all = refl
same-call i b (GetOutputState n) all = refl
same-call i b (GetChannelCount n) all = refl
same-call i b (DoesChannelRetrigger n) all = refl
same-call i b (IsDirty n) all = refl
same-call i b GetTimerAccum all = refl
same-call i b (WorkOff stated events place) all = same-ticks b.model (made_by (step b (WorkOff stated events place)).reply) (channel_at b i) all

-- one call, accepted or refused
call-knows : (b : Board) → length b.channels ≡ 3 → (i : ℕ) → i < 3 → (all : List Happening) → Knows all (channel_at b i) → (o : Operation)
    → Knows (happens i b o all) (channel_at (step b o).board i)
call-knows b three i on all now o =
    by-reply b o (λ (reply : Reply Value). Knows (unless_refused reply all (call_happens i b o all)) (channel_at (step b o).board i))
    (λ number e. subst (λ (d : Board). Knows all (channel_at d i)) (sym (refused-leaves b o number e).0) now)
    (λ value e.
    subst (λ (after : List Happening). Knows after (channel_at (step b o).board i)) (same-call i b o all)
    (call_kept happening b Knows (known b.model) three i on all now o (λ port byte events place is. tt) value e))

pub calls-know : (b : Board) → length b.channels ≡ 3 → (i : ℕ) → i < 3 → (all : List Happening) → Knows all (channel_at b i) → (os : List Operation)
    → Knows (happened i b os all) (channel_at (steps b os) i)
calls-know b three i on all now [] = now
calls-know b three i on all now (o ∷ os) =
    calls-know (step b o).board (step-three b three o) i on (happens i b o all) (call-knows b three i on all now o) os
