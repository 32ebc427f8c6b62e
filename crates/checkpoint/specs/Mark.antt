-- Document 02, L7: a trace with its section three, which is made anew where there was one.
use Rattle.std.specs.Prelude.{ℕ, List, ◌++◌, length, take}
use Rattle.refusal.specs.Reply.{refused}
use Rattle.trace.specs.Judgement.{Judgement, refused_by, sound, and_then}
use Rattle.trace.specs.Operation.{place_of}
use Rattle.trace.specs.Trace.{Trace, read_trace}
use Rattle.runner.specs.Lent.{Replaying, fault_status, in_room}
use Rattle.checkpoint.specs.Boards.{size, section_of}

-- the bytes up to the last operation, and then the section
abbrev pub marked_as : List ℕ → Trace → List ℕ
marked_as bytes t = take (place_of (size t)) bytes ++ section_of t

unfoldable pub mark : List ℕ → Judgement (List ℕ)
mark bytes = and_then (read_trace bytes) (λ t. sound (marked_as bytes t))

-- docs/ENCODING.md, `pit_mark`: into lent bytes of any length
abbrev pub mark_judged : Judgement (List ℕ) → List ℕ → Replaying
mark_judged (refused_by f) bytes = record { reply = refused (fault_status f.number f.operation); bytes = bytes }
mark_judged (sound marked) bytes = in_room (length marked) marked bytes

unfoldable pub mark_into : List ℕ → List ℕ → Replaying
mark_into trace bytes = mark_judged (mark trace) bytes
