-- Where the output goes: docs/TICK.md, table D. True is high.
use Rattle.std.specs.Prelude.{ℕ, Bool, true, false, not, ◌||◌, ◌&&◌, eqb}
use Rattle.channel.specs.declared.ChannelMode.{ChannelMode}
use Rattle.channel.specs.Modes.{by_mode}

-- M2, M4 and M5 have the output low for one tick only
abbrev pub pulses : ChannelMode → Bool
pulses = by_mode false false true false true true

-- a tick that neither loads nor counts
abbrev pub rest_level : ChannelMode → Bool → Bool
rest_level m level = pulses m || level

-- whether such a tick leaves the output where it is
abbrev pub rests_at : ChannelMode → Bool → Bool
rests_at m level = not (pulses m) || level

-- a tick that loads a count: M0, M1 low; M2 to M5 high
abbrev pub load_level : ChannelMode → Bool
load_level = by_mode false false true true true true

-- one that loads it again: M3, the other level
abbrev pub reload_level : ChannelMode → Bool → Bool
reload_level m level = by_mode false false true (not level) true true m

-- M4, M5: the strobe, once for each load (docs/TICK.md, T9)
abbrev pub strobes : ChannelMode → Bool → ℕ → Bool
strobes m armed e = by_mode false false false false (armed && eqb e 0) (armed && eqb e 0) m

-- a tick that counts to e: M0, M1 high at zero; M2 low at 1; M4, M5 low for the strobe
abbrev pub count_level : ChannelMode → Bool → Bool → ℕ → Bool
count_level m level armed e =
    by_mode (level || eqb e 0) (level || eqb e 0) (not (eqb e 1)) level (not (strobes m armed e)) (not (strobes m armed e)) m
