-- Not for readers: how the loop that works ticks off makes a run of quiet ticks in one step (docs/TICK.md, "Many ticks at once"). It says nothing new of owed ticks:
-- the contract of `work_channels` is about ticks made one after another.
use Rattle.std.specs.Prelude.{ℕ, ◌-◌, ◌<◌, ◌≤◌, cond, List, [], ◌∷◌, ◌≡◌, ltb, length}
use Rattle.numbers.specs.Times.{times}
use Rattle.channel.specs.declared.Channel.{Channel}
use Rattle.channel.specs.declared.PitType.{PitType}
use Rattle.tick.specs.Tick.{tick}
use Rattle.quiet.specs.Inner.{quiet, skip}
use Rattle.refusal.specs.Reply.{accepted}
use Rattle.board.specs.declared.Board.{Board}
use Rattle.board.specs.Outcome.{worked}
use Rattle.board.specs.Board.{owing}
use Rattle.owed.specs.Worked.{work_off}
use Rattle.owed.specs.Told.{smaller}
use Rattle.owed.specs.Ticked.{Has}

-- "the least of what is left, what is owed and the three channels' quiet"
abbrev pub alike : ℕ → ℕ → Channel → Channel → Channel → ℕ
alike left owed c₀ c₁ c₂ = smaller left (smaller owed (smaller (quiet c₀) (smaller (quiet c₁) (quiet c₂))))

-- so many ticks of a channel come to a skip, and none of them moves its output
pub record Skips (ticks : ℕ) (c : Channel) : Type 0 where
  pub ticked : (model : PitType) → skip ticks c ≡ times ticks (tick model) c
  pub still : (model : PitType) (j : ℕ) → j ≤ ticks → (times j (tick model) c).pins.output ≡ c.pins.output

-- that many can be skipped on all three channels
pub record Alike (left owed : ℕ) (c₀ c₁ c₂ : Channel) (ticks : ℕ) : Type 0 where
  pub number_is : ticks ≡ alike left owed c₀ c₁ c₂
  pub skips₀ : Skips ticks c₀
  pub skips₁ : Skips ticks c₁
  pub skips₂ : Skips ticks c₂

-- all ticks of a call, where they can be skipped and the call is not refused for their number; else 0
abbrev pub quiet_run : Channel → Channel → Channel → ℕ → ℕ → ℕ
quiet_run c₀ c₁ c₂ owed stated =
    let run = alike stated owed c₀ c₁ c₂ in cond (ltb 65536 stated) 0 (cond (ltb run (smaller stated owed)) 0 run)

-- where that is not 0 it is all that the call makes: each channel skips so many, there is no event, and no byte changes
pub record QuietRun (c₀ c₁ c₂ : Channel) (owed stated run : ℕ) : Type 0 where
  pub run_is : run ≡ quiet_run c₀ c₁ c₂ owed stated
  pub in-owed : run ≤ owed
  pub all_quiet : 0 < run → (b : Board) (model : PitType) → Has b (c₀ ∷ c₁ ∷ c₂ ∷ []) model owed → (events : List ℕ) (place : ℕ) → place ≤ length events
      → work_off b stated events place
      ≡ record {
        reply = accepted (worked run place);
        board = owing b (owed - run) (skip run c₀ ∷ skip run c₁ ∷ skip run c₂ ∷ []);
        events = events;
      }
