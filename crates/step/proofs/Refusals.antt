-- Demand 1: a step gives a refusal's number exactly when that refusal's condition holds and none before it in the call's order does.
-- Assumes nothing.
use Prim.Native.Nat.{ℕ, ◌<◌}
use mathlib.Core.Path.{◌≡◌, sym, ◌∙◌}
use mathlib.Core.Bool.{Bool, true, false}
use mathlib.Core.List.{List, [], ◌∷◌}
use mathlib.Core.Logic.{◌↔◌}
use native.Mathlib.Omega.{arith}
use lib.Dec.{ltb, eqb}
use lib.ListN.{length}
use borrow.Author.Tests.{eqb-true, eqb-false}
use Rattle.refusal.specs.Reply.{Reply, refused}
use Rattle.refusal.proofs.Tests.{below, equal}
use Rattle.channel.specs.declared.PitType.{PitType}
use Rattle.channel.proofs.Pick.{of-pick, pick-knowing}
use Rattle.control.specs.declared.Command.{Command}
use Rattle.control.specs.declared.Command.TheVariants.{Nothing, LatchCount, SetMode, ReadBack}
use Rattle.control.specs.Control.{command_of}
use Rattle.latch.specs.Latching as channel
use Rattle.mode.specs.Mode as channelMode
use Rattle.load.specs.Write.{write_byte}
use Rattle.gate.specs.Gate.{set_gate}
use Rattle.time.specs.Time.{Yield, ticks_from_time, summed}
use Rattle.board.specs.declared.Board.{Board}
use Rattle.board.specs.Board.{channel_at}
use Rattle.board.specs.Outcome.{Outcome, Value, refuse, accept, on_channel, unless_owed}
use Rattle.board.specs.Making.{new, reset}
use Rattle.board.specs.Counting.{counts, load_cycle}
use Rattle.board.specs.Queries.{get_output_state, get_channel_count, does_channel_retrigger, is_dirty}
use Rattle.clock.specs.Clock.{elapsed, yielding, timely, catch_up, run}
use Rattle.ports.specs.declared.port.Port.{Port}
use Rattle.ports.specs.declared.port.Port.TheVariants.{Data}
use Rattle.std.specs.Prelude.{Option, Some}
use Rattle.ports.specs.Port.{port_of}
use Rattle.ports.proofs.Below.{by-port}
use Rattle.ports.specs.Gates.{set_channel_gate}
use Rattle.ports.specs.Reads.{read_from, read_port}
use Rattle.ports.specs.Writes.{control_register_write, data_write, write_to, write_port}
use Rattle.owed.specs.Worked.{work_off}
use Rattle.step.specs.Operation.{Operation, WritePort, ReadPort, SetChannelGate, Counts, LoadCycle, CatchUp, Run, Reset, GetOutputState, GetChannelCount, DoesChannelRetrigger, IsDirty, GetTimerAccum, WorkOff}
use Rattle.step.specs.Step.{step}
use Rattle.step.specs.Refusals.{Row, Changes, port_unknown, channel_above2, divisor_zero, ticks_below_warp, remainder_too_large, place_past_end, too_many_ticks, ticks_owed, CommandDue, WriteDue, GateDue, room_order, time_order, order, making_order, FirstOf}
use Rattle.step.proofs.Levels.{write-level, gate-level, mode-level, latch-level}
use Rattle.step.proofs.Deciding.{accepts, holding, failing, tested}
use Rattle.step.proofs.Settled.{settle-refused, untouched-refused, read-back-refused}
use Rattle.step.proofs.Owing.{by-owed}

-- what a channel's test leaves to the others
on-channel : (b : Board) (n : ℕ) (events : List ℕ) (outcome : Outcome) (rest : List Row) (k : ℕ) → (outcome.reply ≡ refused k) ↔ FirstOf rest k
    → ((on_channel b n events outcome).reply ≡ refused k) ↔ FirstOf (channel_above2 n ∷ rest) k
on-channel b n events outcome rest k others =
    simp (of-pick (λ (o : Outcome). o.reply)) (tested (ltb 2 n) (channel_above2 n) rest outcome.reply k (below 2 n) others)

-- what the test for owed ticks leaves to the others
unless-owed : (b : Board) (events : List ℕ) (outcome : Outcome) (rest : List Row) (k : ℕ) → (outcome.reply ≡ refused k) ↔ FirstOf rest k
    → ((unless_owed b events outcome).reply ≡ refused k) ↔ FirstOf (ticks_owed b ∷ rest) k
unless-owed b events outcome rest k others =
    by-owed (λ (o : Outcome). (o.reply ≡ refused k) ↔ FirstOf (ticks_owed b ∷ rest) k) b events outcome
    (λ owes. holding (ticks_owed b) rest k owes)
    (λ none. failing (ticks_owed b) rest outcome.reply k (λ (owes : 0 < b.owed.0). omega arith) others)

-- a query, counts, a load cycle, is_dirty
accepted-on : (b : Board) (n : ℕ) (value : Value) (after : Board) (k : ℕ)
    → ((on_channel b n [] (accept value after)).reply ≡ refused k) ↔ FirstOf (channel_above2 n ∷ []) k
accepted-on b n value after k = on-channel b n [] (accept value after) [] k (accepts value k)

-- "4, 5"
abbrev warp_order : Board → ℕ → List Row
warp_order b given = ticks_below_warp b given ∷ remainder_too_large b given ∷ []

-- catch-up and run, which differ in the warp and the defer flag that they leave: once the divisor is not 0 ..
elapsed-refused : (b : Board) (given warp : ℕ) (defer : Bool) (k : ℕ) → eqb b.divisor 0 ≡ false
    → ((yielding b warp defer (elapsed b given)).reply ≡ refused k) ↔ FirstOf (warp_order b given) k
unfolding ticks_from_time
elapsed-refused b given warp defer k divides =
    simp (divides, of-pick (λ (r : Reply Yield). (yielding b warp defer r).reply))
    (tested (ltb given b.warp.0) (ticks_below_warp b given) (remainder_too_large b given ∷ []) _ k (below given b.warp.0)
    (tested (ltb 4294967295 (summed given b.warp.0 b.remainder.0)) (remainder_too_large b given) [] _ k (below 4294967295 (summed given b.warp.0 b.remainder.0))
    (accepts _ k)))

-- .. and with the divisor's test and that for owed ticks before it
time-refused : (b : Board) (given warp : ℕ) (defer : Bool) (k : ℕ)
    → ((timely b (yielding b warp defer (elapsed b given))).reply ≡ refused k) ↔ FirstOf (time_order b given) k
time-refused b given warp defer k =
    pick-knowing (λ (o : Outcome). (o.reply ≡ refused k) ↔ FirstOf (time_order b given) k) (eqb b.divisor 0) (refuse 3 b []) _
    (λ zero. holding (divisor_zero b.divisor) (ticks_owed b ∷ warp_order b given) k (eqb-true _ _ zero))
    (λ divides.
    failing (divisor_zero b.divisor) (ticks_owed b ∷ warp_order b given) _ k (eqb-false _ _ divides)
    (unless-owed b [] _ (warp_order b given) k (elapsed-refused b given warp defer k divides)))

-- the level after a rule, in document 01's words
same-changes : (was is says : Bool) → is ≡ says → Changes was is ↔ Changes was says
same-changes was is says e = (λ differs same. differs (same ∙ sym e), λ differs same. differs (same ∙ e))

data-refused : (b : Board) (n byte : ℕ) (events : List ℕ) (place k : ℕ)
    → ((data_write b n byte events place).reply ≡ refused k) ↔ FirstOf (room_order (WriteDue b (Some (Data n)) byte) events place) k
data-refused b n byte events place k =
    settle-refused (WriteDue b (Some (Data n)) byte) events place k b n (write_byte (channel_at b n) byte b.defer)
    (same-changes _ _ _ (write-level (channel_at b n) byte b.defer))

command-refused : (b : Board) (command : Command) (events : List ℕ) (place k : ℕ)
    → ((control_register_write b command events place).reply ≡ refused k) ↔ FirstOf (room_order (CommandDue b command) events place) k
command-refused b Nothing events place k = untouched-refused ⊥ events place k b (λ none. none)
command-refused b (ReadBack word) events place k = read-back-refused ⊥ events place k b word (λ none. none)
command-refused b (LatchCount n) events place k =
    settle-refused ⊥ events place k b n (channel.latch_count (channel_at b n)) (λ differs. differs (sym (latch-level (channel_at b n))), λ none. absurd none)
command-refused b (SetMode n word) events place k =
    settle-refused (CommandDue b (SetMode n word)) events place k b n (channelMode.set_mode (channel_at b n) word b.model)
    (same-changes _ _ _ (mode-level (channel_at b n) word b.model))

gate-refused : (b : Board) (n : ℕ) (level : Bool) (events : List ℕ) (place k : ℕ)
    → ((set_channel_gate b n level events place).reply ≡ refused k) ↔ FirstOf (channel_above2 n ∷ ticks_owed b ∷ room_order (GateDue b n level) events place) k
unfolding set_channel_gate
gate-refused b n level events place k =
    on-channel b n events _ (ticks_owed b ∷ room_order (GateDue b n level) events place) k
    (unless-owed b events _ (room_order (GateDue b n level) events place) k
    (settle-refused (GateDue b n level) events place k b n (set_gate (channel_at b n) level)
    (same-changes _ _ _ (gate-level (channel_at b n) level))))

write-refused : (b : Board) (port byte : ℕ) (events : List ℕ) (place k : ℕ)
    → ((write_port b port byte events place).reply ≡ refused k) ↔ FirstOf (port_unknown port ∷ ticks_owed b ∷ room_order (WriteDue b (port_of port) byte) events place) k
unfolding write_port
write-refused b port byte events place k =
    by-port port (λ (p : Option Port). ((write_to b p byte events place).reply ≡ refused k) ↔ FirstOf (port_unknown port ∷ ticks_owed b ∷ room_order (WriteDue b p byte) events place) k)
    (λ out. holding (port_unknown port) (ticks_owed b ∷ room_order ⊥ events place) k out)
    (λ n on is.
    failing (port_unknown port) (ticks_owed b ∷ room_order (WriteDue b (Some (Data n)) byte) events place) _ k (λ out. out (omega arith, omega arith))
    (unless-owed b events _ (room_order (WriteDue b (Some (Data n)) byte) events place) k (data-refused b n byte events place k)))
    (λ is.
    failing (port_unknown port) (ticks_owed b ∷ room_order (CommandDue b (command_of b.model byte)) events place) _ k (λ out. out (omega arith, omega arith))
    (unless-owed b events _ (room_order (CommandDue b (command_of b.model byte)) events place) k (command-refused b (command_of b.model byte) events place k)))

read-refused : (b : Board) (port k : ℕ) → ((read_port b port).reply ≡ refused k) ↔ FirstOf (port_unknown port ∷ []) k
unfolding read_port
read-refused b port k =
    by-port port (λ (p : Option Port). ((read_from b p).reply ≡ refused k) ↔ FirstOf (port_unknown port ∷ []) k)
    (λ out. holding (port_unknown port) [] k out)
    (λ n on is. failing (port_unknown port) [] _ k (λ out. out (omega arith, omega arith)) (accepts _ k))
    (λ is. failing (port_unknown port) [] _ k (λ out. out (omega arith, omega arith)) (accepts _ k))

reset-refused : (b : Board) (k : ℕ) → ((reset b).reply ≡ refused k) ↔ FirstOf (ticks_owed b ∷ []) k
unfolding reset
reset-refused b k = unless-owed b [] _ [] k (accepts _ k)

work-refused : (b : Board) (stated : ℕ) (events : List ℕ) (place k : ℕ)
    → ((work_off b stated events place).reply ≡ refused k) ↔ FirstOf (place_past_end events place ∷ too_many_ticks stated ∷ []) k
unfolding work_off
work-refused b stated events place k =
    simp (of-pick (λ (o : Outcome). o.reply))
    (tested (ltb (length events) place) (place_past_end events place) (too_many_ticks stated ∷ []) _ k (below (length events) place)
    (tested (ltb 65536 stated) (too_many_ticks stated) [] _ k (below 65536 stated) (accepts _ k)))

-- both directions, for every board, operation and number
pub refused-exactly : (b : Board) (o : Operation) (k : ℕ) → ((step b o).reply ≡ refused k) ↔ FirstOf (order b o) k
unfolding counts load_cycle catch_up run get_output_state get_channel_count does_channel_retrigger is_dirty
refused-exactly b (WritePort port byte events place) k = write-refused b port byte events place k
refused-exactly b (ReadPort port) k = read-refused b port k
refused-exactly b (SetChannelGate n level events place) k = gate-refused b n level events place k
refused-exactly b (Counts n number) k = accepted-on b n _ _ k
refused-exactly b (LoadCycle n) k = accepted-on b n _ _ k
refused-exactly b (CatchUp given) k = time-refused b given given true k
refused-exactly b (Run given) k = time-refused b given 0 b.defer k
refused-exactly b Reset k = reset-refused b k
refused-exactly b (GetOutputState n) k = accepted-on b n _ _ k
refused-exactly b (GetChannelCount n) k = accepted-on b n _ _ k
refused-exactly b (DoesChannelRetrigger n) k = accepted-on b n _ _ k
refused-exactly b (IsDirty n) k = accepted-on b n _ _ k
refused-exactly b GetTimerAccum k = accepts _ k
refused-exactly b (WorkOff stated events place) k = work-refused b stated events place k

-- making a board, which is no step of one
pub making-refused : (model : PitType) (divisor k : ℕ) → ((new model divisor).reply ≡ refused k) ↔ FirstOf (making_order divisor) k
unfolding new
making-refused model divisor k =
    simp (of-pick (λ (o : Outcome). o.reply)) (tested (eqb divisor 0) (divisor_zero divisor) [] _ k (equal divisor 0) (accepts _ k))
