-- A channel that is stored and loaded again is the same channel, so equal bytes are of equal channels. Assumes nothing.
use Prim.Native.Nat.{ℕ, ◌%◌, ◌≤◌, ◌<◌}
use mathlib.Core.Path.{◌≡◌, refl}
use mathlib.Core.Bool.{Bool, true, false}
use mathlib.Core.List.{List, [], ◌++◌}
use native.Mathlib.Omega.{arith}
use lib.Dec.{ltb}
use lib.ListN.{length, length-append}
use borrow.Author.Tests.{le-ltb}
use Rattle.numbers.specs.Flags.{flag_number}
use Rattle.numbers.specs.Number.{number_at}
use Rattle.numbers.proofs.Little.{word_back, long-back}
use Rattle.channel.specs.declared.Channel.{Channel}
use Rattle.channel.specs.declared.ChannelMode.{ChannelMode}
use Rattle.channel.specs.declared.RwMode.{RwMode}
use Rattle.channel.specs.declared.RwMode.TheVariants.{Lsb, Msb, LsbMsb}
use Rattle.channel.specs.declared.LoadState.{LoadState}
use Rattle.channel.specs.declared.LoadState.TheVariants.{WaitingForLsb, WaitingForMsb}
use Rattle.channel.specs.declared.LoadType.{LoadType}
use Rattle.channel.specs.declared.LoadType.TheVariants.{InitialLoad, SubsequentLoad}
use Rattle.channel.specs.declared.ReadState.{ReadState}
use Rattle.channel.specs.declared.ReadState.TheVariants.{NoRead, ReadLsb}
use Rattle.channel.specs.declared.ReloadFlag.TheVariants.{Normal, ReloadNextCycle}
use Rattle.channel.specs.declared.ChannelState.{ChannelState}
use Rattle.channel.specs.declared.ChannelState.TheVariants.{WaitingForReload, WaitingForGate, DeferLoadCycle, WaitingForLoadCycle, WaitingForLoadTrigger, Counting}
use Rattle.channel.specs.Modes.{mode_number, mode_numbered}
use Rattle.channel.proofs.Modes.{every-mode}
use Rattle.std.specs.Prelude.{Ok}
use Rattle.encoding.specs.Codes.{access_byte, load_state_byte, load_type_byte, read_state_byte, state_byte, flag_back, access_back, load_state_back, load_type_back, read_state_back, state_back}
use Rattle.encoding.specs.Stored.{channel_size, channel_bytes}
use Rattle.encoding.specs.Loaded.{readable_to, readable, channel_spelled, load_channel}
use Rattle.encoding.specs.Range.{InRange}
use Rattle.encoding.proofs.Length.{bytes-length}

-- A byte that is stored is within its limit; that it means what was stored specs/Codes.antt says.

pub flag-within : (b : Bool) → ltb 1 (flag_number b) ≡ false
flag-within true = refl
flag-within false = refl

mode-within : (m : ChannelMode) → ltb 5 (mode_number m) ≡ false
mode-within = every-mode (λ m. ltb 5 (mode_number m) ≡ false) refl refl refl refl refl refl

mode-back : (m : ChannelMode) → mode_numbered (mode_number m) ≡ m
mode-back = every-mode (λ m. mode_numbered (mode_number m) ≡ m) refl refl refl refl refl refl

access-within : (a : RwMode) → ltb 2 (access_byte a) ≡ false
access-within Lsb = refl
access-within Msb = refl
access-within LsbMsb = refl

load-state-within : (s : LoadState) → ltb 1 (load_state_byte s) ≡ false
load-state-within WaitingForLsb = refl
load-state-within WaitingForMsb = refl

load-type-within : (t : LoadType) → ltb 1 (load_type_byte t) ≡ false
load-type-within InitialLoad = refl
load-type-within SubsequentLoad = refl

read-state-within : (s : ReadState) → ltb 1 (read_state_byte s) ≡ false
read-state-within NoRead = refl
read-state-within ReadLsb = refl

state-within : (s : ChannelState) → ltb 6 (state_byte s) ≡ false
state-within WaitingForReload = refl
state-within WaitingForGate = refl
state-within DeferLoadCycle = refl
state-within WaitingForLoadCycle = refl
state-within WaitingForLoadTrigger = refl
state-within (Counting Normal) = refl
state-within (Counting ReloadNextCycle) = refl

byte-within : (n : ℕ) → ltb 255 (n % 256) ≡ false
byte-within n = le-ltb _ _ (let h : n % 256 ≤ 255 = omega arith in h)

pub all-readable : (c : Channel) → c.status.status_latch < 256 → (rest : List ℕ) → readable (channel_bytes c ++ rest) ≡ true
unfolding channel_bytes readable_to
all-readable c status rest =
    simp (
      flag-within,
      mode-within,
      access-within,
      load-state-within,
      load-type-within,
      read-state-within,
      state-within,
      byte-within,
      le-ltb 255 c.status.status_latch (let h : c.status.status_latch ≤ 255 = omega arith in h),
    )

pub same-channel : (c : Channel) → InRange c → (rest : List ℕ) → channel_spelled (channel_bytes c ++ rest) ≡ c
unfolding channel_bytes channel_spelled number_at
same-channel c r rest =
    simp (
      flag_back,
      mode-back,
      access_back,
      load_state_back,
      load_type_back,
      read_state_back,
      state_back,
      word_back _ r.mask,
      word_back _ r.register,
      word_back _ r.reload,
      long-back _ r.cycles,
      word_back _ r.element,
      word_back _ r.held,
    )

pub load_stored : (c : Channel) → InRange c → (rest : List ℕ) → load_channel (channel_bytes c ++ rest) ≡ Ok c
unfolding load_channel
load_stored c r rest =
    let long : channel_size ≤ length (channel_bytes c ++ rest) = simp (length-append, bytes-length) (omega arith) in
    simp (le-ltb _ _ long, all-readable c r.status rest, same-channel c r rest)

-- equal bytes are of equal channels
pub stored-alike : (c d : Channel) → InRange c → InRange d → channel_bytes c ≡ channel_bytes d → c ≡ d
stored-alike c d rc rd e =
    let loaded-c = load_stored c rc [] in
    let loaded-d = load_stored d rd [] in
    cc
