-- docs/ENCODING.md, "Exported functions": what the calls on a channel return, and the lent bytes as they leave them.
use Rattle.std.specs.Prelude.{ℕ, ◌+◌, cond, ◌≡◌, List, ◌∷◌, ◌++◌, ltb, Option, Some, None, Result, Ok, Err}
use Rattle.numbers.specs.Flags.{flag_number}
use Rattle.channel.specs.declared.Channel.{Channel}
use Rattle.channel.specs.Fresh.{fresh}
use Rattle.channel.specs.Queries.{get_output_state}
use Rattle.encoding.specs.declared.loading.LoadError.{LoadError}
use Rattle.numbers.specs.Little.{two_bytes}
use Rattle.encoding.specs.Stored.{channel_size, channel_bytes}
use Rattle.encoding.specs.Loaded.{load_channel}
use Rattle.encoding.specs.Front.{fits, put_front}
use Rattle.channel_operation.specs.declared.Operation.{Operation}
use Rattle.channel_operation.specs.declared.making.Made.{Made}
use Rattle.channel_operation.specs.Asked.{operation_of}
use Rattle.channel_operation.specs.Made.{operate}
use Rattle.pit.specs.declared.status.Status.{Status}
use Rattle.pit.specs.declared.status.Status.TheVariants.{UnknownOperation, ShortAnswer}
use Rattle.pit.specs.Status.{status_number, load_status}

-- "An answer: 7 bytes": a level, then three numbers of two bytes
abbrev pub channel_answer_size : ℕ
channel_answer_size = 1 + 2 + 2 + 2

-- "103 the operation's code is not in the table, or its number, setting or target is not allowed there", "104 fewer bytes of answer than it has: 7 for a channel"
abbrev pub outcome_asked : Channel → Option Operation → ℕ → Result Made Status
outcome_asked c None room = Err UnknownOperation
outcome_asked c (Some op) room = cond (ltb room channel_answer_size) (Err ShortAnswer) (Ok (operate c op))

-- "101 fewer bytes of record .. than it has", "102 the record .. is not readable"; room is the number of bytes lent for the answer
abbrev pub outcome_on : Result Channel LoadError → Option Operation → ℕ → Result Made Status
outcome_on (Err error) asked room = Err (load_status error)
outcome_on (Ok c) asked room = outcome_asked c asked room

unfoldable pub outcome_of : List ℕ → ℕ → ℕ → ℕ → ℕ → Result Made Status
outcome_of bytes room code number setting = outcome_on (load_channel bytes) (operation_of code number setting) room

-- "Byte 0 is the output level after the operation. Then three numbers of two bytes each"
abbrev pub channel_answer_bytes : Made → List ℕ
channel_answer_bytes made =
    flag_number (get_output_state made.channel) ∷ two_bytes made.first ++ two_bytes made.second ++ two_bytes made.third

-- "Each returns 0 or .. a number of the table; with such a number no lent byte changes."
abbrev pub status : Result Made Status → ℕ
status (Err s) = status_number s
status (Ok made) = 0

-- a lent buffer after the call, where an operation that was made puts something of it at the front
abbrev pub after : (Made → List ℕ) → Result Made Status → List ℕ → List ℕ
after front (Err s) bytes = bytes
after front (Ok made) bytes = put_front (front made) bytes

abbrev pub record_bytes : Made → List ℕ
record_bytes made = channel_bytes made.channel

-- what a call returns, and the record's and the answer's bytes after it, from those before it
pub record Settles (o : Result Made Status) (bytes answer : List ℕ) (returned : ℕ) (bytes-then answer-then : List ℕ) : Type 0 where
  pub number : returned ≡ status o
  pub bytes-are : bytes-then ≡ after record_bytes o bytes
  pub answer-is : answer-then ≡ after channel_answer_bytes o answer

-- "writes the fresh channel, over whatever bytes are there"
abbrev pub fresh_status : List ℕ → ℕ
fresh_status bytes = cond (fits channel_size bytes) 0 101

abbrev pub fresh_after : List ℕ → List ℕ
fresh_after bytes = put_front (channel_bytes fresh) bytes
