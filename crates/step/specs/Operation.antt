-- A call of the board, with all that it is given: the lent event bytes and the place in them too.
use Rattle.std.specs.Prelude.{ℕ, Bool, true, false, List, []}

pub data Operation : Type 0 where
  WritePort : (port byte : ℕ) (events : List ℕ) (place : ℕ) → Operation
  ReadPort : (port : ℕ) → Operation
  SetChannelGate : (channel : ℕ) (level : Bool) (events : List ℕ) (place : ℕ) → Operation
  Counts : (channel number : ℕ) → Operation
  LoadCycle : (channel : ℕ) → Operation
  CatchUp : (given : ℕ) → Operation
  Run : (given : ℕ) → Operation
  Reset : Operation
  GetOutputState : (channel : ℕ) → Operation
  GetChannelCount : (channel : ℕ) → Operation
  DoesChannelRetrigger : (channel : ℕ) → Operation
  IsDirty : (channel : ℕ) → Operation
  GetTimerAccum : Operation
  WorkOff : (stated : ℕ) (events : List ℕ) (place : ℕ) → Operation

-- What kind of call it is. What is said of all calls goes by their kind, so a new call is one line of `kind_of`.
pub record Kind : Type 0 where
  -- the event bytes that it lends
  pub lends : List ℕ
  -- it may move an output
  pub moves : Bool
  -- it lets time pass, and the system ticks that it is given
  pub timed : Bool
  pub given : ℕ
  -- it works ticks off
  pub works : Bool

-- a port write or a gate, which tells of the output that it moves
abbrev pub heard : List ℕ → Kind
heard events = record { lends = events; moves = true; timed = false; given = 0; works = false }

-- so does the call that works ticks off
abbrev pub working : List ℕ → Kind
working events = record { lends = events; moves = true; timed = false; given = 0; works = true }

-- a reset raises no event
abbrev pub resetting : Kind
resetting = record { lends = []; moves = true; timed = false; given = 0; works = false }

-- catch-up and run
abbrev pub time_call : ℕ → Kind
time_call given = record { lends = []; moves = false; timed = true; given = given; works = false }

-- a read, counts, a load cycle or a query
abbrev pub still : Kind
still = record { lends = []; moves = false; timed = false; given = 0; works = false }

abbrev pub kind_of : Operation → Kind
kind_of (WritePort port byte events place) = heard events
kind_of (ReadPort port) = still
kind_of (SetChannelGate channel level events place) = heard events
kind_of (Counts channel number) = still
kind_of (LoadCycle channel) = still
kind_of (CatchUp given) = time_call given
kind_of (Run given) = time_call given
kind_of Reset = resetting
kind_of (GetOutputState channel) = still
kind_of (GetChannelCount channel) = still
kind_of (DoesChannelRetrigger channel) = still
kind_of (IsDirty channel) = still
kind_of GetTimerAccum = still
kind_of (WorkOff stated events place) = working events

-- the event bytes that a call lends: a port write's, a gate's, and those of ticks worked off, no others
abbrev pub lent : Operation → List ℕ
lent o = (kind_of o).lends
