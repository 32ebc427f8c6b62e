-- Document 01, "Recorded traces": the lines that the replay program prints. "A read byte prints as two upper-case hex digits, all other numbers in
-- decimal." Document 02's L3 adds two words to the read line, and L8 the index to a fault's.
use Rattle.std.specs.Prelude.{ℕ, ◌+◌, Bool, true, false, cond, List, [], ◌++◌, eqb, ltb, get_or, Option, None, Some}
use Rattle.refusal.specs.Reply.{Reply, refused, accepted}
use Rattle.channel.specs.declared.PitType.{PitType}
use Rattle.channel.specs.declared.PitType.TheVariants.{Model8253, Model8254}
use Rattle.latch.specs.declared.reading.Half.{Half}
use Rattle.latch.specs.declared.reading.Half.TheVariants.{Low, High}
use Rattle.board.specs.declared.PortRead.{PortRead}
use Rattle.board.specs.Outcome.{Value, done, new_place, byte, ticks, output_state, channel_count, retriggers, dirty_marks, timer_accum, worked}
use Rattle.trace.specs.Judgement.{Faulted}
use Rattle.text.specs.Ascii.{ascii}
use Rattle.text.specs.Number.{decimal, hex}

-- every line ends in one
abbrev pub newline : List ℕ
newline = ascii "\n"

-- "(0 8253, 1 8254)"
abbrev pub model_name : PitType → List ℕ
model_name Model8253 = ascii "8253"
model_name Model8254 = ascii "8254"

-- "a head line"
unfoldable pub head_line : PitType → ℕ → List ℕ
head_line model divisor = ascii "pit " ++ model_name model ++ ascii " divisor " ++ decimal divisor ++ newline

-- "`refused N`"
abbrev pub refused_text : ℕ → List ℕ
refused_text number = ascii "refused " ++ decimal number

-- 02, L3: "`7 read 03 low held` and `8 read 00 high held`", "and the command port prints `read 00 none live`": the half ..
abbrev pub half_text : Option Half → List ℕ
half_text (Some Low) = ascii " low"
half_text (Some High) = ascii " high"
half_text None = ascii " none"

-- .. and held; "not latched is `live`"
abbrev pub held_text : Bool → List ℕ
held_text true = ascii " held"
held_text false = ascii " live"

-- "`read`": the byte in hex, and the two words
abbrev pub read_text : PortRead → List ℕ
read_text r = ascii "read " ++ hex r.byte ++ half_text r.label.half ++ held_text r.label.held

-- "`ticks` and `left`": the timer ticks yielded, and the remainder that is kept
abbrev pub ticks_text : ℕ → ℕ → List ℕ
ticks_text number left = ascii "ticks " ++ decimal number ++ ascii " left " ++ decimal left

-- "`out` with an event's two bytes"
abbrev pub out_text : List ℕ → List ℕ
out_text events = ascii "out " ++ decimal (get_or events 0 0) ++ ascii " " ++ decimal (get_or events 1 0)

-- "`out` and two numbers for each event" (02, L1): an event's two bytes stand at a place of the lent bytes. They are lent "at place 0", so the new place is how
-- many bytes were written, and the event is there where it stands below that
abbrev pub event_text : ℕ → ℕ → List ℕ → List ℕ
event_text written at events =
    cond (ltb at written) (ascii " out " ++ decimal (get_or events at 0) ++ ascii " " ++ decimal (get_or events (at + 1) 0)) []

-- "its line is `made N`, then `out` and two numbers for each event" (02, L1), of which six bytes hold three
abbrev pub made_text : ℕ → ℕ → List ℕ → List ℕ
made_text made place events =
    ascii "made " ++ decimal made ++ event_text place 0 events ++ event_text place 2 events ++ event_text place 4 events

-- "else `ok`"
abbrev pub ok_text : List ℕ
ok_text = ascii "ok"

-- "its index, then `refused N`; or `read`, `ticks` and `left`, `out` with an event's two bytes, else `ok`". The events were lent "at place 0", so there is
-- one where the new place is not 0; "`made N`, then `out` and two numbers for each event" (02, L1)
abbrev pub value_text : Value → List ℕ → ℕ → List ℕ
value_text (byte r) events left = read_text r
value_text (ticks number) events left = ticks_text number left
value_text (new_place place) events left = cond (eqb place 0) ok_text (out_text events)
value_text (worked made place) events left = made_text made place events
value_text done events left = ok_text
value_text (output_state level) events left = ok_text
value_text (channel_count register element counting) events left = ok_text
value_text (retriggers answer) events left = ok_text
value_text (dirty_marks dirty counting ticked) events left = ok_text
value_text (timer_accum number) events left = ok_text

-- "`refused N`; or" what an accepted operation says
abbrev pub answer_text : Reply Value → List ℕ → ℕ → List ℕ
answer_text (refused number) events left = refused_text number
answer_text (accepted value) events left = value_text value events left

-- "one line for each operation (its index, then ...)"
unfoldable pub operation_line : ℕ → Reply Value → List ℕ → ℕ → List ℕ
operation_line index reply events left = decimal index ++ ascii " " ++ answer_text reply events left ++ newline

-- "an end line with the operation count"
unfoldable pub end_line : ℕ → List ℕ
end_line number = ascii "end " ++ decimal number ++ newline

-- the full check of a trace's checkpoints (02, L7): `checked N` for N checkpoints that are right
unfoldable pub checked_line : ℕ → List ℕ
checked_line number = ascii "checked " ++ decimal number ++ newline

-- "The line becomes `trace refused N at P operation I`. The older line stays for faults outside operations" (02, L8)
abbrev pub within_text : Option ℕ → List ℕ
within_text None = []
within_text (Some index) = ascii " operation " ++ decimal index

-- "a fault prints only `trace refused N at P`"
unfoldable pub fault_line : Faulted → List ℕ
fault_line f = ascii "trace refused " ++ decimal f.number ++ ascii " at " ++ decimal f.place ++ within_text f.operation ++ newline
