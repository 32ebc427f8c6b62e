-- Document 01, "Time and reset": what a list of operations took in and gave out.
use Rattle.std.specs.Prelude.{ℕ, ◌+◌, ◌-◌, Bool, cond, List, [], ◌∷◌, ◌≡◌}
use Rattle.refusal.specs.Reply.{Reply, refused, accepted}
use Rattle.board.specs.declared.Board.{Board}
use Rattle.board.specs.Outcome.{Value, done, new_place, byte, ticks, output_state, channel_count, retriggers, dirty_marks, timer_accum, worked}
use Rattle.step.specs.Operation.{Operation, Run, kind_of}
use Rattle.step.specs.Step.{step}

-- the numbers of ticks in what an accepted call says: timer ticks yielded, ticks made; and its new place
pub record Amounts : Type 0 where
  pub yields : ℕ
  pub made : ℕ
  pub place : ℕ

abbrev pub telling : ℕ → ℕ → ℕ → Amounts
telling yields made place = record { yields = yields; made = made; place = place }

abbrev pub amounts_in : Value → Amounts
amounts_in done = telling 0 0 0
amounts_in (new_place p) = telling 0 0 p
amounts_in (byte x) = telling 0 0 0
amounts_in (ticks n) = telling n 0 0
amounts_in (output_state level) = telling 0 0 0
amounts_in (channel_count register element counting) = telling 0 0 0
amounts_in (retriggers answer) = telling 0 0 0
amounts_in (dirty_marks dirty counting ticked) = telling 0 0 0
amounts_in (timer_accum left) = telling 0 0 0
amounts_in (worked made p) = telling 0 made p

abbrev pub ticks_in : Value → ℕ
ticks_in value = (amounts_in value).yields

-- timer ticks that a reply yields
abbrev pub yielded : Reply Value → ℕ
yielded (refused number) = 0
yielded (accepted value) = ticks_in value

-- a number, where the call was accepted
abbrev pub if_accepted : Reply Value → ℕ → ℕ
if_accepted (refused number) n = 0
if_accepted (accepted value) n = n

-- the system ticks that a call takes in: "ticks minus warp", the warp being the board's when the call comes
abbrev pub system_taken : Board → Operation → ℕ
system_taken b o = cond (kind_of o).timed (if_accepted (step b o).reply ((kind_of o).given - b.warp.0)) 0

-- "all timer ticks yielded"
abbrev pub all_yielded : Board → List Operation → ℕ
all_yielded b [] = 0
all_yielded b (o ∷ os) = yielded (step b o).reply + all_yielded (step b o).board os

-- "all (ticks - warp)"
abbrev pub all_taken : Board → List Operation → ℕ
all_taken b [] = 0
all_taken b (o ∷ os) = system_taken b o + all_taken (step b o).board os

-- catch-up and run
abbrev pub is_time_call : Operation → Bool
is_time_call o = (kind_of o).timed

-- what is no time call's to change: "keeps model ..., and keeps remainder, warp and defer flag"
pub record TimeKept (before after : Board) : Type 0 where
  pub model-kept : after.model ≡ before.model
  pub divisor-kept : after.divisor ≡ before.divisor
  pub remainder-kept : after.remainder ≡ before.remainder
  pub warp-kept : after.warp ≡ before.warp
  pub defer-kept : after.defer ≡ before.defer

-- operations with no run among them
abbrev pub NoRun : List Operation → Type 0
NoRun [] = Unit
NoRun (o ∷ os) = ((given : ℕ) → o ≡ Run given → ⊥) × NoRun os
