-- What a tick does to a channel: docs/TICK.md, table A. Ids such as M2 and G0 are lines of docs/SHEETS.md.
use Rattle.std.specs.Prelude.{ℕ, Bool, true, false, cond, ◌||◌, eqb}
use Rattle.channel.specs.declared.Channel.{Channel}
use Rattle.channel.specs.declared.ChannelMode.{ChannelMode}
use Rattle.channel.specs.declared.ChannelState.{ChannelState}
use Rattle.channel.specs.declared.ChannelState.TheVariants.{WaitingForReload, WaitingForGate, DeferLoadCycle, WaitingForLoadCycle, WaitingForLoadTrigger, Counting}
use Rattle.channel.specs.declared.ReloadFlag.{ReloadFlag}
use Rattle.channel.specs.declared.ReloadFlag.TheVariants.{Normal, ReloadNextCycle}
use Rattle.channel.specs.Modes.{by_mode}
use Rattle.tick.specs.declared.due.Kind.{Kind}
use Rattle.tick.specs.declared.due.Kind.TheVariants.{Idle, Deferred, Load, Reload, Count}

-- G1, G5: the gate's level is nothing, a trigger starts the mode
abbrev pub triggered : ChannelMode → Bool
triggered = by_mode false true false false false true

-- G0 to G5: a channel runs if its mode is a triggered one or its gate is high
abbrev pub runs : Channel → Bool
runs c = triggered c.control.mode || c.pins.gate

-- G0, G2, G3, G4: with the gate low a channel that counts does nothing
abbrev pub while_running : Bool → Kind → Kind
while_running running due = cond running due Idle

-- M2: "low for the one tick at which the element is 1; the next tick reloads"
abbrev pub reloads_from : ChannelMode → ℕ → Bool
reloads_from m e = by_mode false false (eqb e 1) false false false m

-- what a channel that counts is due for
abbrev pub counting_due : Channel → Kind
counting_due c = while_running (runs c) (cond (reloads_from c.control.mode c.counter.counting_element) Reload Count)

-- M3-8254: one tick passes after zero, and the next reloads
abbrev pub flag_due : ReloadFlag → Channel → Kind
flag_due Normal c = counting_due c
flag_due ReloadNextCycle c = while_running (runs c) Reload

-- table A, a line for each state. A trigger is waited for in modes 1 and 5 alone (M1, M5): mode 4 has none (M4)
abbrev pub due_in : ChannelState → Channel → Kind
due_in WaitingForReload c = Idle
due_in WaitingForGate c = counting_due c
due_in DeferLoadCycle c = Deferred
due_in WaitingForLoadCycle c = Load
due_in WaitingForLoadTrigger c = cond (triggered c.control.mode) Idle Load
due_in (Counting f) c = flag_due f c

unfoldable pub due : Channel → Kind
due c = due_in c.counter.channel_state c
