-- An operation leaves the record of every channel that it does not name. Assumes nothing.
use Prim.Native.Nat.{ℕ}
use mathlib.Core.Bool.{Bool, true, false}
use mathlib.Core.List.{List, []}
use mathlib.Core.Path.{◌≡◌, refl}
use Rattle.refusal.specs.Reply.{Reply, refused, accepted}
use Rattle.channel.specs.declared.Channel.{Channel}
use Rattle.control.specs.declared.Command.{Command}
use Rattle.control.specs.declared.Command.TheVariants.{Nothing, LatchCount, SetMode, ReadBack}
use Rattle.control.specs.Control.{names, command_of}
use Rattle.time.specs.Time.{Yield}
use Rattle.board.specs.declared.Board.{Board}
use Rattle.board.specs.Board.{channel_at}
use Rattle.board.proofs.Channels.{put_other, by-channel}
use Rattle.board.specs.Outcome.{Outcome, accept, unless_owed}
use Rattle.board.specs.Counting.{counts, load_cycle}
use Rattle.board.specs.Queries.{get_output_state, get_channel_count, does_channel_retrigger, is_dirty}
use Rattle.clock.specs.Clock.{elapsed, yielding, timely, catch_up, run}
use Rattle.ports.specs.declared.port.Port.{Port}
use Rattle.ports.specs.declared.port.Port.TheVariants.{Data, Command as CommandPort}
use Rattle.std.specs.Prelude.{Option, Some, None}
use Rattle.ports.specs.Port.{port_of}
use Rattle.ports.specs.Settle.{settle}
use Rattle.ports.proofs.Settling.{untouched-holds, settle-holds}
use Rattle.ports.proofs.ReadingBacks.{unnamed-stays, read-backs-hold}
use Rattle.ports.specs.Gates.{set_channel_gate}
use Rattle.ports.specs.Reads.{read_from, read_port}
use Rattle.ports.specs.Writes.{control_register_write, write_to, write_port}
use Rattle.step.specs.Operation.{Operation, WritePort, ReadPort, SetChannelGate, Counts, LoadCycle, CatchUp, Run, Reset, GetOutputState, GetChannelCount, DoesChannelRetrigger, IsDirty, GetTimerAccum, WorkOff}
use Rattle.step.specs.Step.{step}
use Rattle.step.specs.Touched.{CommandTouches, WriteTouches, ReadTouches, Touches}
use Rattle.step.proofs.Owing.{by-owed, by-timely}

not_named : (named : Bool) → (named ≡ true → ⊥) → named ≡ false
not_named true other = absurd (other refl)
not_named false other = refl

module _ (b : Board) (m : ℕ) where
  abbrev Stays : Outcome → Type 0
  Stays outcome = channel_at outcome.board m ≡ channel_at b m

  owing-stays : (events : List ℕ) (outcome : Outcome) → Stays outcome → Stays (unless_owed b events outcome)
  owing-stays events outcome stays = by-owed Stays b events outcome (λ owes. refl) (λ none. stays)

  settle-stays : (n : ℕ) (c : Channel) (events : List ℕ) (place : ℕ) → (m ≡ n → ⊥) → Stays (settle b n c events place)
  settle-stays n c events place other = settle-holds b events place n c (λ (d : Board). channel_at d m ≡ channel_at b m) refl (put_other b n m c other)

  command-stays : (command : Command) (events : List ℕ) (place : ℕ) → (CommandTouches command m → ⊥) → Stays (control_register_write b command events place)
  command-stays Nothing events place other = untouched-holds b events place (λ (d : Board). channel_at d m ≡ channel_at b m) refl
  command-stays (LatchCount n) events place other = settle-stays n _ events place other
  command-stays (SetMode n word) events place other = settle-stays n _ events place other
  command-stays (ReadBack word) events place other =
      read-backs-hold b events place word (λ (d : Board). channel_at d m ≡ channel_at b m) refl (unnamed-stays b word m (not_named (names word m) other))

  pub write-stays : (port : Option Port) (byte : ℕ) (events : List ℕ) (place : ℕ) → (WriteTouches b.model port byte m → ⊥) → Stays (write_to b port byte events place)
  write-stays (Some (Data n)) byte events place other = owing-stays events _ (settle-stays n _ events place other)
  write-stays (Some CommandPort) byte events place other = owing-stays events _ (command-stays (command_of b.model byte) events place other)
  write-stays None byte events place other = refl

  read_stays : (port : Option Port) → (ReadTouches port m → ⊥) → Stays (read_from b port)
  read_stays (Some (Data n)) other = put_other b n m _ other
  read_stays (Some CommandPort) other = refl
  read_stays None other = refl

  yielding-stays : (warp : ℕ) (defer : Bool) (made : Reply Yield) → Stays (yielding b warp defer made)
  yielding-stays warp defer (refused number) = refl
  yielding-stays warp defer (accepted yield) = refl

  time-stays : (warp : ℕ) (defer : Bool) (made : Reply Yield) → Stays (timely b (yielding b warp defer made))
  time-stays warp defer made = by-timely Stays b (yielding b warp defer made) refl (λ owes. refl) (λ none. yielding-stays warp defer made)

  pub untouched-stays : (o : Operation) → (Touches b.model o m → ⊥) → channel_at (step b o).board m ≡ channel_at b m
  unfolding set_channel_gate write_port read_port counts load_cycle catch_up run get_output_state get_channel_count does_channel_retrigger is_dirty
  untouched-stays (WritePort port byte events place) other = write-stays (port_of port) byte events place other
  untouched-stays (ReadPort port) other = read_stays (port_of port) other
  untouched-stays (SetChannelGate n level events place) other = by-channel Stays b n events _ refl (λ on. owing-stays events _ (settle-stays n _ events place other))
  untouched-stays (Counts n number) other = by-channel Stays b n [] _ refl (λ on. put_other b n m _ other)
  untouched-stays (LoadCycle n) other = by-channel Stays b n [] _ refl (λ on. put_other b n m _ other)
  untouched-stays (CatchUp given) other = time-stays given true (elapsed b given)
  untouched-stays (Run given) other = time-stays 0 b.defer (elapsed b given)
  untouched-stays Reset other = absurd (other tt)
  untouched-stays (GetOutputState n) other = by-channel Stays b n [] (accept _ b) refl (λ on. refl)
  untouched-stays (GetChannelCount n) other = by-channel Stays b n [] (accept _ b) refl (λ on. refl)
  untouched-stays (DoesChannelRetrigger n) other = by-channel Stays b n [] (accept _ b) refl (λ on. refl)
  untouched-stays (IsDirty n) other = by-channel Stays b n [] _ refl (λ on. put_other b n m _ other)
  untouched-stays GetTimerAccum other = refl
  untouched-stays (WorkOff stated events place) other = absurd (other tt)
