-- What each reader of a trace is proved to write, and what its answer says.
use Rattle.std.specs.Prelude.{ℕ, List, Result, Ok, Err}
use Rattle.refusal.specs.Refusal.{refusal_number}
use Rattle.refusal.specs.Reply.{Reply, refused, accepted}
use Rattle.runner.specs.declared.lending.ReplayError.{ReplayError}
use Rattle.runner.specs.declared.lending.ReplayError.TheVariants.{Refused, Short}
use Rattle.runner.specs.Lent.{Replaying, replay_into}
use Rattle.checkpoint.specs.Check.{check_into}
use Rattle.checkpoint.specs.From.{replay_from_into}
use Rattle.checkpoint.specs.Mark.{mark_into}
use Rattle.checkpoint_limits.specs.declared.readers.Reader.{Reader}
use Rattle.checkpoint_limits.specs.declared.readers.Reader.TheVariants.{Replay, Check, From, Mark}

unfoldable pub writes : Reader → List ℕ → List ℕ → Replaying
writes Replay trace bytes = replay_into trace bytes
writes Check trace bytes = check_into trace bytes
writes (From k) trace bytes = replay_from_into trace k bytes
writes Mark trace bytes = mark_into trace bytes

-- where what is written ends: 0 where nothing is
abbrev pub end_written : Reply ℕ → ℕ
end_written (accepted n) = n
end_written (refused _) = 0

-- the number of the trace's refusal: 0 where there is none
abbrev pub refused_as : Result ℕ ReplayError → ℕ
refused_as (Ok _) = 0
refused_as (Err (Refused refusal operation)) = refusal_number refusal
refused_as (Err Short) = 0
