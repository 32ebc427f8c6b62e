-- docs/ENCODING.md, "Exported functions": what the calls on a trace return, and the lent bytes as they leave them.
use Rattle.std.specs.Prelude.{ℕ, cond, List, ltb, length}
use Rattle.refusal.specs.Reply.{Reply, refused, accepted, number_in}
use Rattle.encoding.specs.Front.{put_front}
use Rattle.in_bytes.specs.Called.{board_answer_size}
use Rattle.runner.specs.Lent.{Replaying}
use Rattle.pit.specs.Answer.{board_answer_bytes}

-- what a call returns, and the lent and the answer's bytes after it
pub record ReplayCalled : Type 0 where
  pub status : ℕ
  pub out : List ℕ
  pub answer : List ℕ

abbrev pub replay_called : ℕ → List ℕ → List ℕ → ReplayCalled
replay_called status out answer = record { status = status; out = out; answer = answer }

-- "the first number of its answer of 16 bytes is how many bytes those are"
abbrev pub reply_after : Reply ℕ → List ℕ → List ℕ
reply_after (refused number) answer = answer
reply_after (accepted n) answer = put_front (board_answer_bytes n 0 0) answer

-- "104 fewer bytes of answer than it has: .. 16 for .. a trace"; "Each returns 0 or a number of the table"
unfoldable pub replay_call : Replaying → List ℕ → List ℕ → ReplayCalled
replay_call r out answer =
    cond (ltb (length answer) board_answer_size) (replay_called 104 out answer)
    (replay_called (number_in r.reply) r.bytes (reply_after r.reply answer))
