-- Of the operations other than a port write, a gate and ticks worked off none moves an output, but a reset, which raises no event. Assumes nothing.
use Prim.Native.Nat.{ℕ, zero, suc, ◌<◌}
use mathlib.Core.Bool.{false, true≢false}
use mathlib.Core.List.{[]}
use mathlib.Core.Path.{◌≡◌, refl, ap, ◌∙◌}
use lib.ListN.{length}
use Rattle.numbers.specs.Times.{times}
use Rattle.channel.specs.declared.Channel.{Channel}
use Rattle.channel.specs.declared.Pins.{Pins}
use Rattle.channel.specs.Shared.{put_element}
use Rattle.count.specs.Count.{count}
use Rattle.latch.specs.Reading.{read_byte}
use Rattle.latch.proofs.Words.{read-pins}
use Rattle.load.proofs.Stays.{pins-stay}
use Rattle.board.specs.declared.Board.{Board}
use Rattle.board.specs.Board.{channel_at, with_channel}
use Rattle.board.specs.Outcome.{Outcome}
use Rattle.board.proofs.Channels.{by-channel}
use Rattle.board.specs.Counting.{counts, load_cycle}
use Rattle.board.specs.Queries.{is_dirty}
use Rattle.ports.specs.declared.port.Port.{Port}
use Rattle.ports.specs.declared.port.Port.TheVariants.{Data, Command}
use Rattle.std.specs.Prelude.{Option, Some, None}
use Rattle.ports.specs.Port.{port_of}
use Rattle.ports.proofs.Below.{data-below}
use Rattle.ports.specs.Reads.{read_from, read_port}
use Rattle.step.specs.Operation.{Operation, WritePort, ReadPort, SetChannelGate, Counts, LoadCycle, CatchUp, Run, Reset, GetOutputState, GetChannelCount, DoesChannelRetrigger, IsDirty, GetTimerAccum, WorkOff}
use Rattle.step.specs.Step.{step}
use Rattle.step.specs.Levels.{level_at}
use Rattle.step.specs.Events.{may_move}
use Rattle.step.specs.Touched.{Touches}
use Rattle.step.proofs.Events.{all-stand}
use Rattle.step.proofs.Touched.{untouched-stays}

count-pins : (c : Channel) → (count c).pins ≡ c.pins
unfolding count put_element
count-pins c = refl

counts-pins : (k : ℕ) (c : Channel) → (times k count c).pins ≡ c.pins
counts-pins zero c = refl
counts-pins (suc k) c = count-pins (times k count c) ∙ counts-pins k c

module _ (b : Board) (three : length b.channels ≡ 3) (m : ℕ) where
  abbrev Still : Outcome → Type 0
  Still outcome = level_at outcome.board m ≡ level_at b m

  put-still : (n : ℕ) → n < 3 → (c : Channel) → c.pins ≡ (channel_at b n).pins → level_at (with_channel b n c) m ≡ level_at b m
  put-still n on c same = all-stand b three n on c (ap (λ (p : Pins). p.output) same) m

  -- an operation that leaves this channel's record leaves its output
  stays-still : (o : Operation) → (Touches b.model o m → ⊥) → level_at (step b o).board m ≡ level_at b m
  stays-still o other = ap (λ (c : Channel). c.pins.output) (untouched-stays b m o other)

  read-still : (number : ℕ) (port : Option Port) → port_of number ≡ port → Still (read_from b port)
  read-still number (Some (Data n)) is = put-still n (data-below number n is) (read_byte (channel_at b n)).channel (read-pins (channel_at b n))
  read-still number (Some Command) is = refl
  read-still number None is = refl

  pub others-still : (o : Operation) → may_move o ≡ false → level_at (step b o).board m ≡ level_at b m
  unfolding read_port counts load_cycle is_dirty
  others-still (WritePort port x events place) moves = absurd (true≢false moves)
  others-still (ReadPort port) moves = read-still port (port_of port) refl
  others-still (SetChannelGate n level events place) moves = absurd (true≢false moves)
  others-still (Counts n number) moves = by-channel Still b n [] _ refl (λ on. put-still n on _ (counts-pins number (channel_at b n)))
  others-still (LoadCycle n) moves = by-channel Still b n [] _ refl (λ on. put-still n on _ (pins-stay (channel_at b n)))
  others-still (CatchUp given) moves = stays-still (CatchUp given) (λ none. none)
  others-still (Run given) moves = stays-still (Run given) (λ none. none)
  others-still Reset moves = absurd (true≢false moves)
  others-still (GetOutputState n) moves = stays-still (GetOutputState n) (λ none. none)
  others-still (GetChannelCount n) moves = stays-still (GetChannelCount n) (λ none. none)
  others-still (DoesChannelRetrigger n) moves = stays-still (DoesChannelRetrigger n) (λ none. none)
  others-still (IsDirty n) moves = by-channel Still b n [] _ refl (λ on. put-still n on _ refl)
  others-still GetTimerAccum moves = stays-still GetTimerAccum (λ none. none)
  others-still (WorkOff stated events place) moves = absurd (true≢false moves)
