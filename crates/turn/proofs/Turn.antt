-- The turn of an operation comes to the call of the board, on every board, with any event bytes lent at any place. Assumes nothing.
use Prim.Native.Nat.{ℕ}
use mathlib.Core.Bool.{Bool, true, false, cond, not}
use mathlib.Core.List.{List, []}
use mathlib.Core.Path.{◌≡◌, refl, ◌∙◌, ap}
use lib.Dec.{eqb, ltb}
use Rattle.refusal.specs.Reply.{Reply, refused, accepted}
use Rattle.refusal.specs.declared.Refusal.{Refusal}
use Rattle.refusal.specs.declared.Refusal.TheVariants as refusal
use Rattle.refusal.specs.Refusal.{refusal_number}
use Rattle.control.specs.declared.Command.{Command}
use Rattle.control.specs.declared.Command.TheVariants as command
use Rattle.control.specs.Control.{command_of}
use Rattle.time.specs.declared.SystemTicks.{SystemTicks}
use Rattle.time.specs.Time.{Yield}
use Rattle.board.specs.declared.Board.{Board}
use Rattle.board.specs.Outcome.{Outcome, refuse, on_channel, unless_owed}
use Rattle.board.specs.Making.{reset}
use Rattle.board.specs.Counting.{counts, load_cycle}
use Rattle.clock.specs.Clock.{elapsed, yielding, catch_up, run}
use Rattle.ports.specs.declared.port.Port.{Port}
use Rattle.ports.specs.declared.port.Port.TheVariants as port
use Rattle.ports.specs.Port.{port_of}
use Rattle.ports.specs.Gates.{set_channel_gate}
use Rattle.ports.specs.Reads.{read_from, read_port}
use Rattle.ports.specs.Writes.{control_register_write, write_to, write_port}
use Rattle.turn.specs.declared.finding.Work.TheVariants as work
use Rattle.turn.specs.declared.finding.Turn.{Turn}
use Rattle.turn.specs.declared.finding.Turn.TheVariants as turn
use Rattle.turn.specs.Finding as finding
use Rattle.turn.specs.Inner.{owes, Bare}
use Rattle.turn.specs.Turn.{turned, taken}
use Rattle.std.specs.Prelude.{Option, Some, None, Result, Ok, Err}

-- what is refused on a condition ..
unless : (x : Bool) (r : Refusal) (b : Board) (t : Result Turn Refusal) (events : List ℕ) (place : ℕ)
    → cond x (refuse (refusal_number r) b events) (taken b t events place) ≡ taken b (cond x (Err r) t) events place
unless true r b t events place = refl
unless false r b t events place = refl

-- .. and while ticks are owed
unless-owed : (none : Bool) (b : Board) (t : Result Turn Refusal) (events : List ℕ) (place : ℕ)
    → cond none (taken b t events place) (refuse 16 b events) ≡ taken b (finding.unless_owing (not none) t) events place
unless-owed true b t events place = refl
unless-owed false b t events place = refl

module _ (b : Board) (events : List ℕ) (place : ℕ) where
  commanded : (k : Command) → control_register_write b k events place ≡ turned b (finding.command_turn k) events place
  commanded command.Nothing = refl
  commanded (command.LatchCount n) = refl
  commanded (command.SetMode n word) = refl
  commanded (command.ReadBack word) = refl

  written : (p : Option Port) (byte : ℕ) → write_to b p byte events place ≡ taken b (finding.write_turn (owes b) b.model p byte) events place
  written (Some (port.Data n)) byte = unless-owed (eqb b.owed.0 0) b (Ok (turn.OnChannel n (work.Write byte))) events place
  written (Some port.Command) byte =
      ap (unless_owed b events) (commanded (command_of b.model byte)) ∙ unless-owed (eqb b.owed.0 0) b (Ok (finding.command_turn (command_of b.model byte))) events place
  written None byte = refl

  pub write-is : (number byte : ℕ) → write_port b number byte events place ≡ taken b (finding.write_turn (owes b) b.model (port_of number) byte) events place
  unfolding write_port
  write-is number byte = written (port_of number) byte

  pub gate-is : (n : ℕ) (level : Bool) → set_channel_gate b n level events place ≡ taken b (finding.gate_turn (owes b) n level) events place
  unfolding set_channel_gate
  gate-is n level =
      ap (on_channel b n events) (unless-owed (eqb b.owed.0 0) b (Ok (turn.OnChannel n (work.SetGate level))) events place)
      ∙ unless (ltb 2 n) refusal.ChannelAbove2 b _ events place

-- A call that lends no bytes, where it is refused on a condition ..
bare-unless : (x : Bool) (r : Refusal) (b : Board) (o : Outcome) (t : Result Turn Refusal) → Bare b o t
    → Bare b (cond x (refuse (refusal_number r) b []) o) (cond x (Err r) t)
bare-unless true r b o t is = record { same = λ events place. refl; none = refl }
bare-unless false r b o t is = is

-- .. and while ticks are owed
bare-owed : (none : Bool) (b : Board) (o : Outcome) (t : Result Turn Refusal) → Bare b o t
    → Bare b (cond none o (refuse 16 b [])) (finding.unless_owing (not none) t)
bare-owed true b o t is = is
bare-owed false b o t is = record { same = λ events place. refl; none = refl }

-- a call of time lends none
no-event : (b : Board) (next : ℕ) (defer zero none : Bool) (reply : Reply Yield)
    → (cond zero (refuse 3 b []) (cond none (yielding b next defer reply) (refuse 16 b []))).events ≡ []
no-event b next defer true none reply = refl
no-event b next defer false false reply = refl
no-event b next defer false true (refused number) = refl
no-event b next defer false true (accepted made) = refl

module _ (b : Board) where
  from : (p : Option Port) → Bare b (read_from b p) (finding.read_turn p)
  from (Some (port.Data n)) = record { same = λ events place. refl; none = refl }
  from (Some port.Command) = record { same = λ events place. refl; none = refl }
  from None = record { same = λ events place. refl; none = refl }

  pub read_is : (number : ℕ) → Bare b (read_port b number) (finding.read_turn (port_of number))
  unfolding read_port
  read_is number = from (port_of number)

  pub counts-is : (n number : ℕ) → Bare b (counts b n number) (finding.counts_turn n number)
  unfolding counts
  counts-is n number =
      bare-unless (ltb 2 n) refusal.ChannelAbove2 b _ (Ok (turn.OnChannel n (work.Counts number))) (record { same = λ events place. refl; none = refl })

  pub load-cycle-is : (n : ℕ) → Bare b (load_cycle b n) (finding.load_cycle_turn n)
  unfolding load_cycle
  load-cycle-is n =
      bare-unless (ltb 2 n) refusal.ChannelAbove2 b _ (Ok (turn.OnChannel n work.LoadCycle)) (record { same = λ events place. refl; none = refl })

  pub catch-up-is : (given : SystemTicks) → Bare b (catch_up b given.0) (Ok (finding.catch_up_turn given))
  unfolding catch_up
  catch-up-is given =
      record { same = λ events place. refl; none = no-event b given.0 true (eqb b.divisor 0) (eqb b.owed.0 0) (elapsed b given.0) }

  pub run_is : (given : SystemTicks) → Bare b (run b given.0) (Ok (finding.run_turn given))
  unfolding run
  run_is given =
      record { same = λ events place. refl; none = no-event b 0 b.defer (eqb b.divisor 0) (eqb b.owed.0 0) (elapsed b given.0) }

  pub reset-is : Bare b (reset b) (finding.reset_turn (owes b))
  unfolding reset
  reset-is = bare-owed (eqb b.owed.0 0) b _ (Ok turn.Reset) (record { same = λ events place. refl; none = refl })
