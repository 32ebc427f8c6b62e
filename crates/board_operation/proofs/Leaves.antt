-- A refused operation leaves the board and the lent event bytes as they were, and every operation leaves as many event bytes. Assumes nothing.
use Prim.Native.Nat.{ℕ}
use mathlib.Core.Path.{◌≡◌, refl, ap, ◌∙◌}
use mathlib.Core.List.{List}
use lib.ListN.{length}
use Rattle.refusal.specs.Reply.{Reply, refused, accepted}
use Rattle.board.specs.declared.Board.{Board}
use Rattle.board.specs.Outcome.{Value, done, new_place, byte, ticks, output_state, channel_count, retriggers, dirty_marks, timer_accum, worked}
use Rattle.step.specs.Operation.{lent}
use Rattle.step.specs.Step.{step}
use Rattle.step.proofs.Leaves.{refused-leaves}
use Rattle.step.proofs.Lent.{lent_length}
use Rattle.board_operation.specs.declared.Operation.{Operation}
use Rattle.board_operation.specs.declared.Operation.TheVariants.{WritePort, ReadPort, SetChannelGate, Counts, LoadCycle, CatchUp, Run, Reset, GetOutputState, GetChannelCount, DoesChannelRetrigger, IsDirty, GetTimerAccum, WorkOff}
use Rattle.board_operation.specs.Made.{asked, events_after, value_numbers, numbers_of, operate}

-- an accepted step answers with refusal 0
accepted-zero : (value : Value) → (value_numbers value).refusal ≡ 0
accepted-zero done = refl
accepted-zero (new_place p) = refl
accepted-zero (byte x) = refl
accepted-zero (ticks n) = refl
accepted-zero (output_state level) = refl
accepted-zero (channel_count register element counting) = refl
accepted-zero (retriggers answer) = refl
accepted-zero (dirty_marks dirty counting ticked) = refl
accepted-zero (timer_accum n) = refl
accepted-zero (worked n p) = refl

refused-by : (reply : Reply Value) → ((numbers_of reply).refusal ≡ 0 → ⊥) → reply ≡ refused (numbers_of reply).refusal
refused-by (refused number) set = refl
refused-by (accepted value) set = absurd (set (accepted-zero value))

-- what holds of the lent bytes, and of those that the step leaves where they are what it was lent, holds of the bytes after
after_holds : (P : List ℕ → Type 0) (op : Operation) (events stepped : List ℕ) (place : ℕ) → P events
    → (lent (asked op events place) ≡ events → P stepped)
    → P (events_after op events stepped)
after_holds P (WritePort port x) events stepped place before after = after refl
after_holds P (ReadPort port) events stepped place before after = before
after_holds P (SetChannelGate channel level) events stepped place before after = after refl
after_holds P (Counts channel number) events stepped place before after = before
after_holds P (LoadCycle channel) events stepped place before after = before
after_holds P (CatchUp given) events stepped place before after = before
after_holds P (Run given) events stepped place before after = before
after_holds P Reset events stepped place before after = before
after_holds P (GetOutputState channel) events stepped place before after = before
after_holds P (GetChannelCount channel) events stepped place before after = before
after_holds P (DoesChannelRetrigger channel) events stepped place before after = before
after_holds P (IsDirty channel) events stepped place before after = before
after_holds P GetTimerAccum events stepped place before after = before
after_holds P (WorkOff stated) events stepped place before after = after refl

module _ (b : Board) (op : Operation) (events : List ℕ) (place : ℕ) where
  pub refused-leaves-all : ((operate b op events place).numbers.refusal ≡ 0 → ⊥)
      → ((operate b op events place).board ≡ b) × ((operate b op events place).events ≡ events)
  unfolding operate
  refused-leaves-all set =
      let kept = refused-leaves b (asked op events place) _ (refused-by (step b (asked op events place)).reply set) in
      (kept.0, after_holds (λ l. l ≡ events) op events (step b (asked op events place)).events place refl (λ e. kept.1 ∙ e))

  pub events-length : length (operate b op events place).events ≡ length events
  unfolding operate
  events-length =
      after_holds (λ l. length l ≡ length events) op events (step b (asked op events place)).events place refl
      (λ e. lent_length b (asked op events place) ∙ ap length e)
