-- docs/ENCODING.md, "Exported functions": the number returned for each thing that keeps a call from doing anything.
use Rattle.std.specs.Prelude.{ℕ}
use Rattle.encoding.specs.declared.loading.LoadError.{LoadError}
use Rattle.encoding.specs.declared.loading.LoadError.TheVariants as load
use Rattle.in_bytes.specs.declared.working.CallError.{CallError}
use Rattle.in_bytes.specs.declared.working.CallError.TheVariants as call
use Rattle.pit.specs.declared.status.Status.{Status}
use Rattle.pit.specs.declared.status.Status.TheVariants.{ShortRecord, UnreadableRecord, UnknownOperation, ShortAnswer, ShortOut, Refused}

abbrev pub status_number : Status → ℕ
status_number ShortRecord = 101
status_number UnreadableRecord = 102
status_number UnknownOperation = 103
status_number ShortAnswer = 104
status_number ShortOut = 105
status_number (Refused number) = number

-- "101 fewer bytes of record .. than it has", "102 the record .. is not readable"
abbrev pub load_status : LoadError → Status
load_status load.Short = ShortRecord
load_status load.Unreadable = UnreadableRecord

-- the same of a board in bytes, then "103", "104" and the refusals
abbrev pub call_status : CallError → Status
call_status call.Short = ShortRecord
call_status call.Unreadable = UnreadableRecord
call_status call.Unknown = UnknownOperation
call_status call.NoRoom = ShortAnswer
call_status (call.Refused number) = Refused number
