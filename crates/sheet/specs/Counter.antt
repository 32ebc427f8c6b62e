-- One counter as the sheets draw it: what a programmer has written to it and what its pins did, and from these alone its output and its value. Where the sheets leave
-- a point open and docs/TICK.md decides it the counter goes by the decision, and docs/SHEETS.md lists these points ("Left open"); everything else that the sheets do not
-- fix is open here. It starts with the mode set: "Before a counter is programmed its mode, count and output are not defined" (C5).
use Rattle.std.specs.Prelude.{ℕ, Bool}
use Rattle.sheet.specs.ControlByte.{Access}
use Rattle.sheet.specs.Output.{output_after_mode_set}

-- what the sheets fix, or leave open
pub data Fixed (A : Type 0) : Type 0 where
  left_open : Fixed A
  fixed_at : A → Fixed A

-- where a counter stands
pub data Phase : Type 0 where
  -- no count is complete: none since the mode set, or in mode 0 a two-byte count that has begun
  awaits_count : Phase
  -- M1: "The tick after a trigger loads"; M5: "loading waits for the tick after a trigger"
  awaits_trigger : Phase
  -- the next tick loads the count written
  loading : Phase
  -- n has been loaded, and the counter stands where j ticks leave it (Ticking.antt)
  counting : (n j : ℕ) → Phase
  -- the sheets do not say
  lost : Phase

pub record Counter : Type 0 where
  -- the mode set's
  pub access : Access
  pub mode : ℕ
  pub bcd : Bool
  -- the first byte of a two-byte count whose second has not come, and the last complete count, as bits; open where there is none
  pub first : Fixed ℕ
  pub count : Fixed ℕ
  pub gate : Bool
  pub phase : Phase
  -- true is high
  pub output : Fixed Bool
  pub value : Fixed ℕ

-- the same counter at another place
abbrev pub standing : Counter → Phase → Fixed Bool → Fixed ℕ → Counter
standing k phase output value =
    record {
      access = k.access;
      mode = k.mode;
      bcd = k.bcd;
      first = k.first;
      count = k.count;
      gate = k.gate;
      phase = phase;
      output = output;
      value = value;
    }

-- The mode set. O1: the output; C5, P-8254: no count is there, and the value is not defined before one is loaded. The gate is a pin, and stays
abbrev pub programmed : Bool → Access → ℕ → Bool → Counter
programmed gate access mode bcd =
    record {
      access = access;
      mode = mode;
      bcd = bcd;
      first = left_open;
      count = left_open;
      gate = gate;
      phase = awaits_count;
      output = fixed_at (output_after_mode_set mode);
      value = left_open;
    }
