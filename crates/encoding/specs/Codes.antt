-- docs/ENCODING.md, "A channel's record": the byte of each value that is no number, and the value of each byte. Of a byte above its limit a value
-- is named too, so that these are functions; such a byte is never loaded.
use Rattle.std.specs.Prelude.{ℕ, ◌≡◌, refl, Bool, true, false, cond, List, [], ◌∷◌, eqb, get_or}
use Rattle.numbers.specs.Flags.{flag_number}
use Rattle.channel.specs.declared.RwMode.{RwMode}
use Rattle.channel.specs.declared.RwMode.TheVariants.{Lsb, Msb, LsbMsb}
use Rattle.channel.specs.declared.LoadState.{LoadState}
use Rattle.channel.specs.declared.LoadState.TheVariants.{WaitingForLsb, WaitingForMsb}
use Rattle.channel.specs.declared.LoadType.{LoadType}
use Rattle.channel.specs.declared.LoadType.TheVariants.{InitialLoad, SubsequentLoad}
use Rattle.channel.specs.declared.ReadState.{ReadState}
use Rattle.channel.specs.declared.ReadState.TheVariants.{NoRead, ReadLsb}
use Rattle.channel.specs.declared.ReloadFlag.{ReloadFlag}
use Rattle.channel.specs.declared.ReloadFlag.TheVariants.{Normal, ReloadNextCycle}
use Rattle.channel.specs.declared.ChannelState.{ChannelState}
use Rattle.channel.specs.declared.ChannelState.TheVariants.{WaitingForReload, WaitingForGate, DeferLoadCycle, WaitingForLoadCycle, WaitingForLoadTrigger, Counting}

-- "0 no, 1 yes, as for every flag below": the byte is `flag_number`
abbrev pub flag_coded : ℕ → Bool
flag_coded byte = eqb byte 1

-- "0 low byte, 1 high byte, 2 low then high"
abbrev pub access_byte : RwMode → ℕ
access_byte Lsb = 0
access_byte Msb = 1
access_byte LsbMsb = 2

abbrev pub access_coded : ℕ → RwMode
access_coded byte = cond (eqb byte 0) Lsb (cond (eqb byte 1) Msb LsbMsb)

-- "0 waiting for the low byte, 1 for the high"
abbrev pub load_state_byte : LoadState → ℕ
load_state_byte WaitingForLsb = 0
load_state_byte WaitingForMsb = 1

abbrev pub load_state_coded : ℕ → LoadState
load_state_coded byte = cond (eqb byte 0) WaitingForLsb WaitingForMsb

-- "0 first load, 1 later load"
abbrev pub load_type_byte : LoadType → ℕ
load_type_byte InitialLoad = 0
load_type_byte SubsequentLoad = 1

abbrev pub load_type_coded : ℕ → LoadType
load_type_coded byte = cond (eqb byte 0) InitialLoad SubsequentLoad

-- "0 no read, 1 the low byte was read"
abbrev pub read_state_byte : ReadState → ℕ
read_state_byte NoRead = 0
read_state_byte ReadLsb = 1

abbrev pub read_state_coded : ℕ → ReadState
read_state_coded byte = cond (eqb byte 0) NoRead ReadLsb

-- "0 `WaitingForReload`, 1 `WaitingForGate`, 2 `DeferLoadCycle`, 3 `WaitingForLoadCycle`, 4 `WaitingForLoadTrigger`, 5 `Counting(Normal)`, 6
-- `Counting(ReloadNextCycle)`"
abbrev pub counting_byte : ReloadFlag → ℕ
counting_byte Normal = 5
counting_byte ReloadNextCycle = 6

abbrev pub state_byte : ChannelState → ℕ
state_byte WaitingForReload = 0
state_byte WaitingForGate = 1
state_byte DeferLoadCycle = 2
state_byte WaitingForLoadCycle = 3
state_byte WaitingForLoadTrigger = 4
state_byte (Counting f) = counting_byte f

abbrev pub waiting_states : List ChannelState
waiting_states = WaitingForReload ∷ WaitingForGate ∷ DeferLoadCycle ∷ WaitingForLoadCycle ∷ WaitingForLoadTrigger ∷ []

abbrev pub state_coded : ℕ → ChannelState
state_coded byte = get_or waiting_states byte (Counting (cond (eqb byte 5) Normal ReloadNextCycle))

-- A byte that is stored means what was stored.

pub flag_back : (b : Bool) → flag_coded (flag_number b) ≡ b
flag_back true = refl
flag_back false = refl

pub access_back : (a : RwMode) → access_coded (access_byte a) ≡ a
access_back Lsb = refl
access_back Msb = refl
access_back LsbMsb = refl

pub load_state_back : (s : LoadState) → load_state_coded (load_state_byte s) ≡ s
load_state_back WaitingForLsb = refl
load_state_back WaitingForMsb = refl

pub load_type_back : (t : LoadType) → load_type_coded (load_type_byte t) ≡ t
load_type_back InitialLoad = refl
load_type_back SubsequentLoad = refl

pub read_state_back : (s : ReadState) → read_state_coded (read_state_byte s) ≡ s
read_state_back NoRead = refl
read_state_back ReadLsb = refl

pub state_back : (s : ChannelState) → state_coded (state_byte s) ≡ s
state_back WaitingForReload = refl
state_back WaitingForGate = refl
state_back DeferLoadCycle = refl
state_back WaitingForLoadCycle = refl
state_back WaitingForLoadTrigger = refl
state_back (Counting Normal) = refl
state_back (Counting ReloadNextCycle) = refl
