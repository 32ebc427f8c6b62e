-- Document 01, "Loads and gates": what a complete load does.
use Rattle.std.specs.Prelude.{Bool, true, false, cond}
use Rattle.channel.specs.declared.Channel.{Channel}
use Rattle.channel.specs.declared.ChannelMode.{ChannelMode}
use Rattle.channel.specs.declared.ChannelState.{ChannelState}
use Rattle.channel.specs.declared.ChannelState.TheVariants.{DeferLoadCycle, WaitingForLoadCycle, WaitingForLoadTrigger}
use Rattle.channel.specs.declared.Load.{Load}
use Rattle.channel.specs.declared.LoadType.{LoadType}
use Rattle.channel.specs.declared.LoadType.TheVariants.{InitialLoad, SubsequentLoad}
use Rattle.channel.specs.Record.{with_load, with_dirty}
use Rattle.channel.specs.Modes.{by_mode}
use Rattle.channel.specs.Shared.{change_channel_state, with_null_count}

-- "the waiting state: `DeferLoadCycle` if the board's defer flag is set, else `WaitingForLoadCycle`"
abbrev pub waiting_state : Bool → ChannelState
waiting_state true = DeferLoadCycle
waiting_state false = WaitingForLoadCycle

-- "goes to `WaitingForLoadTrigger` if `reload_on_trigger`, otherwise to the waiting state"
abbrev pub first_state : Bool → Bool → ChannelState
first_state true defer = WaitingForLoadTrigger
first_state false defer = waiting_state defer

-- "A later load enters the waiting state in modes 0 and 4 only."
abbrev pub loads_again : ChannelMode → Bool
loads_again = by_mode true false false false true false

-- "A first load arms the channel"
abbrev pub armed_by : LoadType → Bool → Bool
armed_by InitialLoad armed = true
armed_by SubsequentLoad armed = armed

-- what a complete load leaves in the load group; the load after it is a later one
abbrev pub completed : Load → Load
completed l =
    record {
      count_register = l.count_register;
      reload_value = l.count_register;
      load_state = l.load_state;
      load_type = SubsequentLoad;
      armed = armed_by l.load_type l.armed;
    }

-- "A complete load copies the count register to the reload value and sets dirty."; by L5 it sets the null-count mark, also where it enters no state
unfoldable pub complete_load : Channel → Channel
complete_load c = with_null_count (with_dirty (with_load c (completed c.load)) true) true

-- the channel in the state that a first or a later load enters, if it enters one
abbrev pub enter_after : LoadType → Bool → Channel → Channel
enter_after InitialLoad defer c = change_channel_state c (first_state c.reloading.reload_on_trigger defer)
enter_after SubsequentLoad defer c = cond (loads_again c.control.mode) (change_channel_state c (waiting_state defer)) c

unfoldable pub finalize_load : Channel → Bool → Channel
finalize_load c defer = enter_after c.load.load_type defer (complete_load c)
