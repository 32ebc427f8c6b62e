-- A counter as a programmer starts it: the gate high, a mode set, the bytes of a count, and a trigger where the mode wants one.
use Rattle.std.specs.Prelude.{ℕ, ◌+◌, ◌<◌, Bool, true, false, not, cond, ◌&&◌, List, [], ◌∷◌, ◌++◌, ◌≡◌, eqb}
use Rattle.channel.specs.declared.ChannelMode.{ChannelMode}
use Rattle.channel.specs.Modes.{mode_number}
use Rattle.board.specs.declared.Board.{Board}
use Rattle.step.specs.Operation.{Operation, WritePort, SetChannelGate}
use Rattle.step.specs.Step.{steps}
use Rattle.step.specs.Accepted.{AllAccepted}
use Rattle.sheet.specs.ControlByte.{Access, low_byte, high_byte, low_then_high, program, request_of}
use Rattle.sheet.specs.Gate.{fall_effect}
use Rattle.sheet.specs.Loading.{count_of}
use Rattle.sheet.specs.Counter.{Fixed, fixed_at, awaits_count}
use Rattle.sheet.specs.CounterTick.{number_written, legal}
use Rattle.agreement.specs.Watching.{Watch, unprogrammed, watching, one_now, unknown, puts_off}
use Rattle.waveform.specs.Heard.{defers_over, watch_over, OnlyBytes}

-- C1, W1: the bytes of a count, in their order, and the count that they write
abbrev pub bytes_in : Access → ℕ → ℕ → List ℕ
bytes_in low_byte low high = low ∷ []
bytes_in high_byte low high = high ∷ []
bytes_in low_then_high low high = low ∷ high ∷ []

abbrev pub written_in : Access → ℕ → ℕ → ℕ
written_in low_byte low high = count_of low 0
written_in high_byte low high = count_of 0 high
written_in low_then_high low high = count_of low high

-- G1, G5: the modes that a trigger starts
abbrev pub trigger_starts : ℕ → Bool
trigger_starts mode = not (fall_effect mode).stops

-- the calls; each lends event bytes and a place in them
module _ (i : ℕ) (events : List ℕ) (place : ℕ) where
  abbrev pub gate_call : Bool → Operation
  gate_call level = SetChannelGate i level events place

  abbrev pub byte_calls : List ℕ → List Operation
  byte_calls [] = []
  byte_calls (byte ∷ bytes) = WritePort (0x40 + i) byte events place ∷ byte_calls bytes

  abbrev pub trigger_calls : Bool → List Operation
  trigger_calls true = gate_call false ∷ gate_call true ∷ []
  trigger_calls false = []

  abbrev pub opening : ℕ → Access → ℕ → ℕ → ℕ → List Operation
  opening control access mode low high =
      gate_call true ∷ WritePort 0x43 control events place ∷ byte_calls (bytes_in access low high) ++ trigger_calls (trigger_starts mode)

-- whether mode 1 was the last of modes 0 to 3 that the calls so far set on the channel, where that is known
abbrev pub after_one : Watch → Fixed Bool
after_one (unprogrammed gate one) = one
after_one (watching k late one) = one

-- S1: the tick that loads is the first, or the second where the board defers
abbrev pub later_ticks : Bool → ℕ → Fixed Bool → ℕ
later_ticks defer mode one = cond (not (trigger_starts mode) && puts_off defer mode awaits_count one) 1 0

-- which of the two it is depends in mode 4 on the last of modes 0 to 3 (B4); it is open where none of them has been set and the board defers
abbrev pub tick_open : Bool → ℕ → Fixed Bool → Bool
tick_open defer mode one = eqb mode 4 && (defer && unknown one)

-- The opening of channel i of a board, after any calls, of which defers and start are what was known before them. The calls of the opening are accepted, and the
-- count is in range
pub record Opened (b : Board) (i : ℕ) (defers : Bool) (start : Watch) (m : ChannelMode) (bcd : Bool) (n : ℕ) : Type 0 where
  pub earlier : List Operation
  pub earlier-bytes : OnlyBytes earlier
  pub control : ℕ
  pub control-byte : control < 256
  pub access : Access
  pub names : request_of control ≡ program i access (mode_number m) bcd
  pub low : ℕ
  pub high : ℕ
  pub low-byte : low < 256
  pub high-byte : high < 256
  pub number : legal (mode_number m) (number_written bcd (written_in access low high)) ≡ fixed_at n
  pub events : List ℕ
  pub place : ℕ
  pub took : AllAccepted (steps b earlier) (opening i events place control access (mode_number m) low high)
  pub known : tick_open (defers_over b earlier defers) (mode_number m) (one_now (mode_number m) (after_one (watch_over i b earlier defers start))) ≡ false

module _ (b : Board) (i : ℕ) (defers : Bool) (start : Watch) (m : ChannelMode) (bcd : Bool) (n : ℕ) (o : Opened b i defers start m bcd n) where
  -- the board before the opening and after it
  abbrev pub before : Board
  before = steps b o.earlier

  abbrev pub after : Board
  after = steps before (opening i o.events o.place o.control o.access (mode_number m) o.low o.high)

  -- the ticks before the one that loads
  abbrev pub late_ticks : ℕ
  late_ticks = later_ticks (defers_over b o.earlier defers) (mode_number m) (one_now (mode_number m) (after_one (watch_over i b o.earlier defers start)))
