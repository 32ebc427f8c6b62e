-- Document 01, "Refusal numbers": the number of each refusal; request L1 adds two, L6 takes one away, L7 adds two, and L8 splits one into
-- three.
use Rattle.std.specs.Prelude.{ℕ}
use Rattle.refusal.specs.declared.Refusal.{Refusal}
use Rattle.refusal.specs.declared.Refusal.TheVariants.{PortUnknown, ChannelAbove2, DivisorZero, TicksBelowWarp, RemainderTooLarge, PlacePastEnd, NoRoom, TraceEnds, SettingsCount, TooManyOperations, UnknownCode, BytesAfter, TooManyTicks, TicksOwed, CheckpointCount, CheckpointWrong, TargetNotZero, NumberNotZero, TooLarge}

abbrev pub refusal_number : Refusal → ℕ
-- "port not 0x40 to 0x43"
refusal_number PortUnknown = 1
-- "channel above 2"
refusal_number ChannelAbove2 = 2
-- "divisor 0"
refusal_number DivisorZero = 3
-- "ticks below the warp"
refusal_number TicksBelowWarp = 4
-- "remainder + (ticks - warp) above 4,294,967,295"
refusal_number RemainderTooLarge = 5
-- 6 was "more than 65,536 counts asked in one call". Request L6 lifts that limit: "6 is never given again"
-- "event place past the end of the event bytes"
refusal_number PlacePastEnd = 7
-- "an event is due and fewer than 2 bytes are left from the place"
refusal_number NoRoom = 8
-- "trace ends inside a field or operation"
refusal_number TraceEnds = 9
-- "settings count not 2"
refusal_number SettingsCount = 10
-- "operation count above 4,096"
refusal_number TooManyOperations = 11
-- "operation code not 1 to 8"; "12 now means not 1 to 9" (02, L1)
refusal_number UnknownCode = 12
-- "bytes after the last operation"; "13 means bytes after the last section present" (02, L7)
refusal_number BytesAfter = 13
-- 14 was "a trace's model, target or number breaks its rule". Request L8 splits it into 19, 20 and 21: "14 is no longer given"
-- "15 for a stated number above 65,536" (02, L1)
refusal_number TooManyTicks = 15
-- "16 for a port write, gate, reset, catch-up or run while ticks are owed" (02, L1)
refusal_number TicksOwed = 16
-- "17 for a checkpoint count other than the operations divided by 256, rounded down" (02, L7)
refusal_number CheckpointCount = 17
-- "18 for the first checkpoint whose bytes differ, unreadable ones too", and "for a replay from one that is missing or unreadable" (02, L7)
refusal_number CheckpointWrong = 18
-- "19 target not 0 where it must be" (02, L8)
refusal_number TargetNotZero = 19
-- "20 number not 0 where it must be" (02, L8)
refusal_number NumberNotZero = 20
-- "21 number or model too large" (02, L8)
refusal_number TooLarge = 21
