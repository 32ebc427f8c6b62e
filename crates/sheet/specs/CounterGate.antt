-- The sheets' counter and its gate: what an edge does at once. What the level does to the ticks is in CounterTick.antt. Lines G0 to G5 of docs/SHEETS.md.
use Rattle.std.specs.Prelude.{ℕ, Bool, true, false, cond}
use Rattle.sheet.specs.Gate.{fall_effect, rise_effect}
use Rattle.sheet.specs.Counter.{Fixed, left_open, fixed_at, Phase, loading, lost, Counter}

-- G1, G2, G3, G5, rising: "load on the next tick". With no count written there is nothing to load: of modes 1 and 5, which a trigger starts, it is open what follows
abbrev pub on_trigger : Fixed ℕ → ℕ → Phase → Phase
on_trigger left_open mode p = cond (fall_effect mode).stops p lost
on_trigger (fixed_at w) mode p = loading

abbrev pub gated : Counter → Bool → Phase → Fixed Bool → Counter
gated k level phase output =
    record {
      access = k.access;
      mode = k.mode;
      bcd = k.bcd;
      first = k.first;
      count = k.count;
      gate = level;
      phase = phase;
      output = output;
      value = k.value;
    }

abbrev pub rise : Counter → Counter
rise k = gated k true (cond (rise_effect k.mode).loads (on_trigger k.count k.mode k.phase) k.phase) k.output

-- G2, G3, going low: "output high at once"
abbrev pub fall : Counter → Counter
fall k = gated k false k.phase (cond (fall_effect k.mode).raises (fixed_at true) k.output)

-- the gate at a level
abbrev pub edge : Bool → Bool → Counter → Counter
edge false false k = k
edge false true k = rise k
edge true false k = fall k
edge true true k = k

abbrev pub gate_to : Counter → Bool → Counter
gate_to k level = edge k.gate level k
