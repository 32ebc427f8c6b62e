-- A trace that was read and answered ends with 0, also one that is refused: the sentence on standard error tells a script so. What could not be read or written ends
-- with 2. A closed pipe has the status that a shell gives a program which its signal ended: 128 and 13.
use Rattle.std.specs.Prelude.{ℕ, Ok, Err, Result, ⊤}
use Rattle.std.specs.IoError.{error_kind}
use Rattle.std.specs.declared.io.ErrorKind.{ErrorKind}
use Rattle.std.specs.declared.io.ErrorKind.TheVariants.{BrokenPipe}
use Rattle.console.specs.declared.Verdict.{Verdict}
use Rattle.console.specs.declared.Verdict.TheVariants.{Sound, Refused}
use Rattle.console.specs.declared.Failure.{Failure}
use Rattle.console.specs.declared.Failure.TheVariants.{CannotRead, CannotWrite}

abbrev pub status_of_kind : ErrorKind → ℕ
status_of_kind BrokenPipe = 141
status_of_kind _ = 2

abbrev pub status_of : Result Verdict Failure → ℕ
status_of (Ok Sound) = 0
status_of (Ok Refused) = 0
status_of (Err (CannotRead e)) = 2
status_of (Err (CannotWrite e)) = status_of_kind (error_kind e)

abbrev pub IsReading : Failure → Type 0
IsReading (CannotRead e) = ⊤
IsReading (CannotWrite e) = ⊥

abbrev pub IsWriting : Failure → Type 0
IsWriting (CannotRead e) = ⊥
IsWriting (CannotWrite e) = ⊤
