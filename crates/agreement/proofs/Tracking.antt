-- When the sheets' counter and a channel's record stand at one place: the relation that every call keeps. Assumes nothing.
use Prim.Native.Nat.{ℕ, ◌%◌, ◌<◌, ◌≤◌}
use mathlib.Core.Bool.{Bool, true, false}
use mathlib.Core.Logic.{◌⊎◌}
use mathlib.Core.Path.{◌≡◌}
use lib.Dec.{ltb}
use Rattle.numbers.specs.Radix.{radix_counts}
use Rattle.channel.specs.declared.Channel.{Channel}
use Rattle.channel.specs.declared.ChannelMode.{ChannelMode}
use Rattle.channel.specs.declared.ChannelMode.TheVariants.{InterruptOnTerminalCount, HardwareRetriggerableOneShot, RateGenerator, SquareWaveGenerator, SoftwareTriggeredStrobe, HardwareTriggeredStrobe}
use Rattle.channel.specs.declared.ChannelState.{ChannelState}
use Rattle.channel.specs.declared.ChannelState.TheVariants.{WaitingForReload, WaitingForGate, DeferLoadCycle, WaitingForLoadCycle, WaitingForLoadTrigger, Counting}
use Rattle.channel.specs.declared.ControlWord.{ControlWord}
use Rattle.channel.specs.declared.Load.{Load}
use Rattle.channel.specs.declared.LoadState.{LoadState}
use Rattle.channel.specs.declared.LoadState.TheVariants.{WaitingForLsb, WaitingForMsb}
use Rattle.channel.specs.declared.LoadType.{LoadType}
use Rattle.channel.specs.declared.LoadType.TheVariants.{InitialLoad, SubsequentLoad}
use Rattle.channel.specs.declared.Pins.{Pins}
use Rattle.channel.specs.declared.PitType.{PitType}
use Rattle.channel.specs.declared.ReloadFlag.TheVariants.{Normal}
use Rattle.channel.specs.declared.Reloading.{Reloading}
use Rattle.channel.specs.declared.RwMode.{RwMode}
use Rattle.channel.specs.declared.RwMode.TheVariants.{Lsb, Msb, LsbMsb}
use Rattle.channel.specs.Modes.{by_mode, mode_number}
use Rattle.channel.specs.Shared.{waits_for_reload}
use Rattle.channel.specs.Queries.{does_retrigger}
use Rattle.mode.specs.Mode.{square_mask}
use Rattle.tick.specs.Due.{triggered}
use Rattle.sheet.specs.Gate.{fall_effect}
use Rattle.sheet.specs.Ticking.{held, down_value, rate_value, rate_high, high_from, value_after, output_after, smallest}
use Rattle.sheet.specs.Counter.{Fixed, left_open, fixed_at, Phase, awaits_count, awaits_trigger, loading, counting, lost, Counter}
use Rattle.agreement.specs.Words.{sheet_access}
use Rattle.agreement.specs.Words.{sheet_chip}
use Rattle.agreement.specs.Gating.{underway, goes_on}
use Rattle.agreement.specs.Watching.{Watch, unprogrammed, watching, IsFixed, HoldsValue}
use Rattle.agreement.proofs.CountsDown.{counts_down, ends_high, is_strobe}
use Rattle.agreement.proofs.SquarePlace.{Stands}
use Rattle.agreement.proofs.SquareValue.{half_value, loaded_count, waits_at_zero}
use Rattle.agreement.proofs.Square.{flag_of}

-- what the chip has of a channel's record: all but the output latch, the marks and the cycles in state
pub record Core : Type 0 where
  pub control : ControlWord
  pub reloading : Reloading
  pub load : Load
  pub state : ChannelState
  pub element : ℕ
  pub pins : Pins

abbrev pub core_of : Channel → Core
core_of c =
    record {
      control = c.control;
      reloading = c.reloading;
      load = c.load;
      state = c.counter.channel_state;
      element = c.counter.counting_element;
      pins = c.pins;
    }

-- the sheets' counter that has this record's control word, bytes and gate
abbrev pub first_of : RwMode → LoadState → ℕ → Fixed ℕ
first_of Lsb s register = left_open
first_of Msb s register = left_open
first_of LsbMsb WaitingForLsb register = left_open
first_of LsbMsb WaitingForMsb register = fixed_at (register % 256)

abbrev pub last_of : LoadType → ℕ → Fixed ℕ
last_of InitialLoad reload = left_open
last_of SubsequentLoad reload = fixed_at reload

abbrev pub view : Core → Phase → Fixed Bool → Fixed ℕ → Counter
view c p o v =
    record {
      access = sheet_access c.control.rw_mode;
      mode = mode_number c.control.mode;
      bcd = c.control.bcd_mode;
      first = first_of c.control.rw_mode c.load.load_state c.load.count_register;
      count = last_of c.load.load_type c.load.reload_value;
      gate = c.pins.gate;
      phase = p;
      output = o;
      value = v;
    }

-- "`reload_on_trigger` false, true, false, false" in modes 0 to 3 (01)
abbrev pub RuleIn : ChannelMode → Bool → Type 0
RuleIn InterruptOnTerminalCount r = r ≡ false
RuleIn HardwareRetriggerableOneShot r = r ≡ true
RuleIn RateGenerator r = r ≡ false
RuleIn SquareWaveGenerator r = r ≡ false
RuleIn SoftwareTriggeredStrobe r = Unit
RuleIn HardwareTriggeredStrobe r = Unit

-- M0: between the two bytes of a count it stands still with its output low
abbrev pub Halved : Core → Type 0
Halved c = c.control.rw_mode ≡ LsbMsb → c.control.mode ≡ InterruptOnTerminalCount → c.load.load_state ≡ WaitingForMsb
    → (c.state ≡ WaitingForReload) × (c.pins.output ≡ false)

-- what no tick, write or gate changes, or only by a whole count
pub record Rules (model : PitType) (one : Fixed Bool) (c : Core) : Type 0 where
  pub masked : c.control.mode ≡ SquareWaveGenerator → c.reloading.load_mask ≡ square_mask model
  pub one-is : IsFixed one c.reloading.reload_on_trigger
  pub rule-is : RuleIn c.control.mode c.reloading.reload_on_trigger
  pub sixteen : c.load.load_type ≡ SubsequentLoad → c.load.reload_value < 65536
  pub half : Halved c

-- a counter at tick j of n
pub record Down (c : Core) (n j : ℕ) : Type 0 where
  pub down : counts_down c.control.mode ≡ true
  pub has_value : c.element ≡ held c.control.bcd_mode (down_value c.control.bcd_mode n j)
  pub goes : goes_on c.state ≡ true
  pub level : ends_high c.control.mode ≡ true → c.pins.output ≡ high_from n j
  pub armed : is_strobe c.control.mode ≡ true → c.load.armed ≡ ltb j n

pub record Rate (c : Core) (n j : ℕ) : Type 0 where
  pub rate : c.control.mode ≡ RateGenerator
  pub in-period : j < n
  pub has_value : c.element ≡ held c.control.bcd_mode (rate_value n j)
  pub level : c.pins.output ≡ rate_high n j
  pub counts : c.state ≡ Counting Normal
  pub gate-high : c.pins.gate ≡ true

pub record Square (model : PitType) (c : Core) (n j : ℕ) : Type 0 where
  pub square : c.control.mode ≡ SquareWaveGenerator
  pub high : Bool
  pub age : ℕ
  pub in-period : j < n
  pub stands : Stands n j high age
  pub has_value : c.element ≡ held c.control.bcd_mode (half_value (sheet_chip model) n high age)
  pub level : c.pins.output ≡ high
  pub counts : c.state ≡ Counting (flag_of (half_value (sheet_chip model) n high age))
  pub gate-high : c.pins.gate ≡ true
  pub alike : 0 < half_value (sheet_chip model) n high age → waits_at_zero model c.load.reload_value high ≡ waits_at_zero model n high

-- modes 2 and 3, whose gate is low
pub record Paused (model : PitType) (c : Core) (n j : ℕ) : Type 0 where
  pub repeats : does_retrigger c.control.mode ≡ true
  pub in-period : j < n
  pub has_value : c.element
      ≡ held c.control.bcd_mode (value_after (sheet_chip model) c.control.bcd_mode (mode_number c.control.mode) n j)
  pub holds : underway c.state ≡ true
  pub gate-low : c.pins.gate ≡ false

pub data Standing (model : PitType) (c : Core) (n j : ℕ) : Type 0 where
  down : Down c n j → Standing model c n j
  rate : Rate c n j → Standing model c n j
  square : Square model c n j → Standing model c n j
  paused : Paused model c n j → Standing model c n j

-- the phases
pub record AwaitsCount (c : Core) : Type 0 where
  pub waits : c.state ≡ WaitingForReload
  pub none : (c.control.mode ≡ InterruptOnTerminalCount → ⊥) → c.load.load_type ≡ InitialLoad
  pub is-high : (fall_effect (mode_number c.control.mode)).raises ≡ true → c.pins.output ≡ true

-- a trigger is waited for in modes 1 and 5, and in modes 2 and 3 with the gate low, where a load was put off to it (S2)
abbrev pub TriggerAwaited : Core → Type 0
TriggerAwaited c =
    ((c.state ≡ WaitingForLoadTrigger) × (triggered c.control.mode ≡ true))
    ⊎ ((underway c.state ≡ true) × ((does_retrigger c.control.mode ≡ true) × (c.pins.gate ≡ false)))

pub record AwaitsTrigger (c : Core) : Type 0 where
  pub waits : TriggerAwaited c
  pub complete : c.load.load_type ≡ SubsequentLoad

-- a load that the next tick makes: 01's waiting state, or in mode 4 the state that waits for a trigger
abbrev pub LoadDue : ChannelState → ChannelMode → Type 0
LoadDue WaitingForReload m = ⊥
LoadDue WaitingForGate m = ⊥
LoadDue DeferLoadCycle m = ⊥
LoadDue WaitingForLoadCycle m = Unit
LoadDue WaitingForLoadTrigger m = triggered m ≡ false
LoadDue (Counting f) m = ⊥

abbrev pub WaitsIn : Bool → ChannelState → ChannelMode → Type 0
WaitsIn true s m = s ≡ DeferLoadCycle
WaitsIn false s m = LoadDue s m

pub record Loading (late : Bool) (c : Core) : Type 0 where
  pub waits : WaitsIn late c.state c.control.mode
  pub complete : c.load.load_type ≡ SubsequentLoad

-- what is loaded of a count is not above the largest. In mode 3 on the 8254 the half that S4 leaves may be that of the count above the largest, which loads the largest
abbrev pub top_of : PitType → ChannelMode → ℕ → ℕ
top_of model m n = by_mode n n n (loaded_count model n) n n m

pub record Counts (model : PitType) (c : Core) (n j : ℕ) : Type 0 where
  pub complete : c.load.load_type ≡ SubsequentLoad
  pub at_least : smallest (mode_number c.control.mode) ≤ n
  pub at_most : top_of model c.control.mode n ≤ radix_counts c.control.bcd_mode
  pub there : Standing model c n j

-- a channel that stands there, and shows what the sheets say of it
pub record Arrived (model : PitType) (c : Channel) (n j : ℕ) : Type 0 where
  pub counts : Counts model (core_of c) n j
  pub shows-output : c.pins.output ≡ output_after (mode_number c.control.mode) n j
  pub shows-value : c.counter.counting_element
      ≡ held c.control.bcd_mode (value_after (sheet_chip model) c.control.bcd_mode (mode_number c.control.mode) n j)

pub record Lost (c : Core) : Type 0 where
  pub complete : c.load.load_type ≡ SubsequentLoad
  pub come : (c.control.mode ≡ InterruptOnTerminalCount → ⊥) → waits_for_reload c.state ≡ false

abbrev pub PhaseAt : Phase → Bool → PitType → Core → Type 0
PhaseAt awaits_count late model c = AwaitsCount c
PhaseAt awaits_trigger late model c = AwaitsTrigger c
PhaseAt loading late model c = Loading late c
PhaseAt (counting n j) late model c = Counts model c n j
PhaseAt lost late model c = Lost c

pub record Holds (model : PitType) (p : Phase) (o : Fixed Bool) (v : Fixed ℕ) (late : Bool) (one : Fixed Bool) (c : Core) : Type 0 where
  pub rules : Rules model one c
  pub phase-is : PhaseAt p late model c
  pub output-is : IsFixed o c.pins.output
  pub value-is : HoldsValue v c.control.bcd_mode c.element

pub data Tracks (model : PitType) (w : Watch) (c : Core) : Type 0 where
  not_yet : (one : Fixed Bool) → w ≡ unprogrammed c.pins.gate one → IsFixed one c.reloading.reload_on_trigger → Tracks model w c
  tracked : (p : Phase) (o : Fixed Bool) (v : Fixed ℕ) (late : Bool) (one : Fixed Bool) → w ≡ watching (view c p o v) late one
      → Holds model p o v late one c → Tracks model w c
