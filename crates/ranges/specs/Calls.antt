-- The numbers of a call that a board keeps, within the fields that they go to: a byte that is written is a byte, and the ticks of a catch-up, which become the warp, are a number of 32
-- bits. Every call of a program is so: the types of its arguments say so. Of other calls nothing is asked.
use Rattle.std.specs.Prelude.{◌<◌}
use Rattle.step.specs.Operation.{Operation, WritePort, ReadPort, SetChannelGate, Counts, LoadCycle, CatchUp, Run, Reset, GetOutputState, GetChannelCount, DoesChannelRetrigger, IsDirty, GetTimerAccum, WorkOff}

abbrev pub CallInRange : Operation → Type 0
CallInRange (WritePort port byte events place) = byte < 256
CallInRange (ReadPort port) = Unit
CallInRange (SetChannelGate channel level events place) = Unit
CallInRange (Counts channel number) = Unit
CallInRange (LoadCycle channel) = Unit
CallInRange (CatchUp given) = given < 4294967296
CallInRange (Run given) = Unit
CallInRange Reset = Unit
CallInRange (GetOutputState channel) = Unit
CallInRange (GetChannelCount channel) = Unit
CallInRange (DoesChannelRetrigger channel) = Unit
CallInRange (IsDirty channel) = Unit
CallInRange GetTimerAccum = Unit
CallInRange (WorkOff stated events place) = Unit
