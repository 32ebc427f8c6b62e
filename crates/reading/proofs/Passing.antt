-- What may pass, and every refused call, disturbs nothing that a read of channel i goes by, and makes on it, where no tick loads it, the counts that are said and no
-- others. Assumes nothing.
use Prim.Native.Nat.{ℕ, ◌<◌}
use mathlib.Core.Bool.{Bool, true, false, cond}
use mathlib.Core.List.{List, [], ◌∷◌}
use mathlib.Core.Path.{◌≡◌, refl, sym, ap, subst}
use lib.Dec.{eqb}
use lib.ListN.{length}
use borrow.Author.Tests.{eqb-true, eqb-false}
use Rattle.refusal.specs.Reply.{Reply, refused}
use Rattle.numbers.specs.Times.{times}
use Rattle.channel.specs.declared.Channel.{Channel}
use Rattle.channel.specs.declared.PitType.{PitType}
use Rattle.channel.proofs.Keeps.{kept-dirty}
use Rattle.load.specs.Write.{write_byte}
use Rattle.load.proofs.Keeps.{write_keeps}
use Rattle.gate.specs.Gate.{set_gate}
use Rattle.gate.proofs.Keeps.{gate-keeps}
use Rattle.board.specs.declared.Board.{Board}
use Rattle.board.specs.Board.{channel_at, with_channel}
use Rattle.board.proofs.Channels.{put-found, not-above, by-channel}
use Rattle.board.specs.Outcome.{Outcome, Value, on_channel, unless_owed}
use Rattle.board.specs.Counting.{counts}
use Rattle.board.specs.Queries.{is_dirty}
use Rattle.ports.specs.declared.port.Port.{Port}
use Rattle.ports.specs.declared.port.Port.TheVariants.{Data, Command}
use Rattle.std.specs.Prelude.{Option, Some, None}
use Rattle.ports.specs.Port.{port_of}
use Rattle.ports.specs.Settle.{settle}
use Rattle.ports.proofs.Settling.{settle-holds}
use Rattle.ports.specs.Gates.{set_channel_gate}
use Rattle.ports.specs.Writes.{write_to, write_port}
use Rattle.owed.specs.BoardTick.{board_tick}
use Rattle.step.specs.Operation.{Operation, WritePort, ReadPort, SetChannelGate, Counts, LoadCycle, CatchUp, Run, Reset, GetOutputState, GetChannelCount, DoesChannelRetrigger, IsDirty, GetTimerAccum, WorkOff}
use Rattle.step.specs.Step.{step, steps}
use Rattle.step.specs.Accepted.{IsAccepted, unless_refused, accepted_of}
use Rattle.step.specs.Time.{if_accepted}
use Rattle.step.specs.Touched.{Touches}
use Rattle.step.proofs.Owing.{by-owed}
use Rattle.step.proofs.Kept.{settings-kept}
use Rattle.step.proofs.Leaves.{refused-leaves}
use Rattle.step.proofs.Accepted.{by-reply}
use Rattle.step.proofs.Made.{ticks-made}
use Rattle.step.proofs.Three.{step-three}
use Rattle.step.proofs.Touched.{write-stays, untouched-stays}
use Rattle.reading.specs.Passing.{MayWrite, MayPass, AllMayPass, Unloaded, NoLoad, NoLoads}
use Rattle.reading.specs.Counts.{taken_in, counts_by, counts_in, counts_on}
use Rattle.reading.proofs.Counted.{Counted, counted_none, counted-kept, counted-then, counted-counts}
use Rattle.reading.proofs.Ticked.{ticks-counted}

-- channel n is the one that is read, or another
pub by-same : (i n : ℕ) (P : Type 0) → (n ≡ i → P) → ((i ≡ n → ⊥) → P) → P
by-same i n P same other = go (eqb n i) refl
  where
    go : (b : Bool) → eqb n i ≡ b → P
    go true e = same (eqb-true n i e)
    go false e = other (λ is. eqb-false n i e (sym is))

module _ (b : Board) (three : length b.channels ≡ 3) (i : ℕ) (on : i < 3) where
  -- of a call that makes no tick
  abbrev After : ℕ → Outcome → Type 0
  After k outcome = Counted (Unloaded i b 0) k (channel_at b i) (channel_at outcome.board i)

  put-counted : (k : ℕ) (c : Channel) → Counted (Unloaded i b 0) k (channel_at b i) c → Counted (Unloaded i b 0) k (channel_at b i) (channel_at (with_channel b i c) i)
  put-counted k c p = subst (λ (d : Channel). Counted (Unloaded i b 0) k (channel_at b i) d) (sym (put-found b three i on c)) p

  stays-counted : (outcome : Outcome) → channel_at outcome.board i ≡ channel_at b i → After 0 outcome
  stays-counted outcome stays = subst (λ (d : Channel). Counted (Unloaded i b 0) 0 (channel_at b i) d) (sym stays) (counted_none (channel_at b i))

  leaves : (o : Operation) → (Touches b.model o i → ⊥) → After 0 (step b o)
  leaves o other = stays-counted (step b o) (untouched-stays b i o other)

  -- a call that is refused while ticks are owed
  settled : (c : Channel) (events : List ℕ) (place : ℕ) → Counted (Unloaded i b 0) 0 (channel_at b i) c → After 0 (unless_owed b events (settle b i c events place))
  settled c events place p =
      by-owed (After 0) b events (settle b i c events place) (λ owes. counted_none (channel_at b i))
      (λ none.
      settle-holds b events place i c (λ (d : Board). Counted (Unloaded i b 0) 0 (channel_at b i) (channel_at d i)) (counted_none (channel_at b i)) (put-counted 0 c p))

  on-channel : (events : List ℕ) (outcome : Outcome) → After 0 outcome → After 0 (on_channel b i events outcome)
  on-channel events outcome p = by-channel (After 0) b i events outcome (counted_none (channel_at b i)) (λ on. p)

  write-passes : (port : Option Port) (byte : ℕ) (events : List ℕ) (place : ℕ) → MayWrite b.model i port byte → After 0 (write_to b port byte events place)
  write-passes (Some (Data n)) byte events place may =
      by-same i n (After 0 (write_to b (Some (Data n)) byte events place))
      (λ same.
      subst (λ (m : ℕ). After 0 (write_to b (Some (Data m)) byte events place)) (sym same)
      (settled (write_byte (channel_at b i) byte b.defer) events place (counted-kept (write_keeps (channel_at b i) byte b.defer))))
      (λ other. stays-counted (write_to b (Some (Data n)) byte events place) (write-stays b i (Some (Data n)) byte events place other))
  write-passes (Some Command) byte events place may = stays-counted (write_to b (Some Command) byte events place) (write-stays b i (Some Command) byte events place may)
  write-passes None byte events place may = stays-counted (write_to b None byte events place) (write-stays b i None byte events place (λ none. none))

  gate-passes : (n : ℕ) (level : Bool) (events : List ℕ) (place : ℕ) → After 0 (set_channel_gate b n level events place)
  unfolding set_channel_gate
  gate-passes n level events place =
      by-same i n (After 0 (set_channel_gate b n level events place))
      (λ same.
      subst (λ (m : ℕ). After 0 (set_channel_gate b m level events place)) (sym same)
      (on-channel events _ (settled (set_gate (channel_at b i) level) events place (counted-kept (gate-keeps (channel_at b i) level)))))
      (λ other. leaves (SetChannelGate n level events place) other)

  dirty-passes : (n : ℕ) → After 0 (is_dirty b n)
  unfolding is_dirty
  dirty-passes n =
      by-same i n (After 0 (is_dirty b n))
      (λ same.
      subst (λ (m : ℕ). After 0 (is_dirty b m)) (sym same)
      (on-channel [] _ (put-counted 0 _ (counted-kept (kept-dirty (channel_at b i) false)))))
      (λ other. leaves (IsDirty n) other)

  -- the counts of a call are all made, however many
  counts-here : (number : ℕ) → After number (counts b i number)
  unfolding counts
  counts-here number = rw (not-above i on) (put-counted number _ (counted-counts number (channel_at b i)))

  counts-passes : (n number : ℕ) (same : Bool) → eqb n i ≡ same → After (cond same number 0) (counts b n number)
  counts-passes n number true e = subst (λ (m : ℕ). After number (counts b m number)) (sym (eqb-true n i e)) (counts-here number)
  counts-passes n number false e = leaves (Counts n number) (λ is. eqb-false n i e (sym is))

  -- ticks worked off, so many
  work-passes : (made : ℕ) (outcome : Outcome) → outcome.board ≡ times made board_tick b
      → Counted (Unloaded i b made) (taken_in i b made) (channel_at b i) (channel_at outcome.board i)
  work-passes made outcome is =
      subst (λ (d : Board). Counted (Unloaded i b made) (taken_in i b made) (channel_at b i) (channel_at d i)) (sym is) (ticks-counted b i on made)

  passes : (o : Operation) → MayPass b.model i o → Counted (NoLoad i b o) (counts_by i b o) (channel_at b i) (channel_at (step b o).board i)
  unfolding write_port
  passes (WritePort port byte events place) may = write-passes (port_of port) byte events place may
  passes (ReadPort port) may = leaves (ReadPort port) may
  passes (SetChannelGate n level events place) may = gate-passes n level events place
  passes (Counts n number) may = counts-passes n number (eqb n i) refl
  passes (LoadCycle n) may = leaves (LoadCycle n) may
  passes (CatchUp given) may = leaves (CatchUp given) (λ none. none)
  passes (Run given) may = leaves (Run given) (λ none. none)
  passes Reset may = absurd may
  passes (GetOutputState n) may = leaves (GetOutputState n) (λ none. none)
  passes (GetChannelCount n) may = leaves (GetChannelCount n) (λ none. none)
  passes (DoesChannelRetrigger n) may = leaves (DoesChannelRetrigger n) (λ none. none)
  passes (IsDirty n) may = dirty-passes n
  passes GetTimerAccum may = leaves GetTimerAccum (λ none. none)
  passes (WorkOff stated events place) may = work-passes _ (step b (WorkOff stated events place)) (ticks-made b stated events place)

  abbrev Passed : Operation → Type 0
  Passed o = Counted (NoLoad i b o) (counts_in i b o) (channel_at b i) (channel_at (step b o).board i)

  -- a refused call leaves the channel, and makes no count
  refused-passes : (o : Operation) (number : ℕ) → (step b o).reply ≡ refused number → Passed o
  refused-passes o number e =
      let none : counts_in i b o ≡ 0 = ap (λ (reply : Reply Value). if_accepted reply (counts_by i b o)) e in
      rw (none, (refused-leaves b o number e).0) (counted_none (channel_at b i))

  pub accepted-passes : (o : Operation) → MayPass b.model i o → IsAccepted b o → Passed o
  accepted-passes o may took =
      let all : counts_in i b o ≡ counts_by i b o = ap (λ (reply : Reply Value). if_accepted reply (counts_by i b o)) took.1 in
      rw all (passes o may)

  -- the first call of a list, of which the accepted ones may pass, and what is left of the list
  first_passes : (o : Operation) (os : List Operation) → AllMayPass b.model i (accepted_of b (o ∷ os)) → Passed o × AllMayPass b.model i (accepted_of (step b o).board os)
  first_passes o os =
      let later = accepted_of (step b o).board os in
      by-reply b o (λ (reply : Reply Value). AllMayPass b.model i (unless_refused reply later (o ∷ later)) → Passed o × AllMayPass b.model i later)
      (λ number e may. (refused-passes o number e, may))
      (λ value e may. (accepted-passes o may.0 (value, e), may.1))

pub all_pass : (b : Board) → length b.channels ≡ 3 → (i : ℕ) → i < 3 → (os : List Operation) → AllMayPass b.model i (accepted_of b os)
    → Counted (NoLoads i b os) (counts_on i b os) (channel_at b i) (channel_at (steps b os) i)
all_pass b three i on [] may = counted_none (channel_at b i)
all_pass b three i on (o ∷ os) may =
    let first = first_passes b three i on o os may in
    let later = subst (λ (model : PitType). AllMayPass model i (accepted_of (step b o).board os)) (sym (settings-kept b o).0) first.1 in
    counted-then (counts_in i b o) (counts_on i (step b o).board os) first.0 (all_pass (step b o).board (step-three b three o) i on os later)
