-- What a call of the board comes to: its reply, the board, and the event bytes that were lent.
use Rattle.std.specs.Prelude.{ℕ, Bool, cond, List, [], eqb, ltb}
use Rattle.refusal.specs.Reply.{Reply, refused, accepted}
use Rattle.channel.specs.declared.queries.ChannelCount.{ChannelCount}
use Rattle.board.specs.declared.Board.{Board}
use Rattle.board.specs.declared.PortRead.{PortRead}

-- what an accepted call says
pub data Value : Type 0 where
  done : Value
  -- "The new place is the old plus 2, or the old if no event."
  new_place : ℕ → Value
  -- what a port read says
  byte : PortRead → Value
  -- timer ticks yielded
  ticks : ℕ → Value
  output_state : Bool → Value
  -- count register, counting element, whether it is counting
  channel_count : ℕ → ℕ → Bool → Value
  retriggers : Bool → Value
  -- dirty, counting, ticked
  dirty_marks : Bool → Bool → Bool → Value
  -- the remainder
  timer_accum : ℕ → Value
  -- ticks worked off, and the new place
  worked : ℕ → ℕ → Value

-- what `get_channel_count` answers
abbrev pub count_value : ChannelCount → Value
count_value c = channel_count c.count_register c.counting_element c.counting

-- the reply, the board handed back, and the lent bytes at the call's end
pub record Outcome : Type 0 where
  pub reply : Reply Value
  pub board : Board
  pub events : List ℕ

-- "Each returns its number and the same board; no lent byte changes."
abbrev pub refuse : ℕ → Board → List ℕ → Outcome
refuse number b events = record { reply = refused number; board = b; events = events }

-- an accepted call that lends no event bytes
abbrev pub accept : Value → Board → Outcome
accept value b = record { reply = accepted value; board = b; events = [] }

-- Refusal 2: "channel above 2"
abbrev pub on_channel : Board → ℕ → List ℕ → Outcome → Outcome
on_channel b n events outcome = cond (ltb 2 n) (refuse 2 b events) outcome

-- Refusal 16: "for a port write, gate, reset, catch-up or run while ticks are owed" (02, L1)
abbrev pub unless_owed : Board → List ℕ → Outcome → Outcome
unless_owed b events outcome = cond (eqb b.owed.0 0) outcome (refuse 16 b events)
