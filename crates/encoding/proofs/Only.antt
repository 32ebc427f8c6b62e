-- A readable record has one form only: its bytes are those of the channel that is loaded from them. Assumes nothing.
use Prim.Native.Nat.{ℕ, zero, suc, ◌+◌, ◌≤◌, ◌<◌}
use mathlib.Core.Path.{◌≡◌, refl, ◌∙◌}
use mathlib.Core.Bool.{Bool, true, false, cond}
use mathlib.Core.List.{List, [], ◌∷◌, ◌++◌}
use native.Mathlib.Omega.{arith}
use lib.Dec.{eqb, ltb}
use lib.ListN.{length, get_or, take}
use borrow.Author.Tests.{ltb-false}
use Rattle.numbers.specs.Flags.{flag_number}
use Rattle.numbers.specs.Little.{two_bytes, word_at}
use Rattle.numbers.proofs.Little.{two-of}
use Rattle.channel.specs.declared.Channel.{Channel}
use Rattle.channel.specs.Modes.{mode_number, mode_numbered}
use Rattle.std.specs.Prelude.{Ok, Err}
use Rattle.encoding.specs.declared.loading.LoadError.TheVariants.{Short, Unreadable}
use Rattle.encoding.specs.Codes.{access_byte, access_coded, load_state_byte, load_state_coded, load_type_byte, load_type_coded, read_state_byte, read_state_coded, state_byte, state_coded}
use Rattle.encoding.specs.Stored.{channel_size, channel_bytes}
use Rattle.encoding.specs.Loaded.{limits, readable, flag_at, channel_spelled, load_channel}
use Rattle.encoding.proofs.Readable.{within}
use Rattle.encoding.proofs.Spelled.{spelled, spelled-part, four}

-- A byte within its limit is the byte of what it means.

pub flag-only : (byte : ℕ) → byte ≤ 1 → flag_number (eqb byte 1) ≡ byte
flag-only zero h = refl
flag-only (suc zero) h = refl
flag-only (suc (suc byte)) h = absurd (omega arith)

mode-only : (byte : ℕ) → byte ≤ 5 → mode_number (mode_numbered byte) ≡ byte
mode-only zero h = refl
mode-only (suc zero) h = refl
mode-only (suc (suc zero)) h = refl
mode-only (suc (suc (suc zero))) h = refl
mode-only (suc (suc (suc (suc zero)))) h = refl
mode-only (suc (suc (suc (suc (suc zero))))) h = refl
mode-only (suc (suc (suc (suc (suc (suc byte)))))) h = absurd (omega arith)

access-only : (byte : ℕ) → byte ≤ 2 → access_byte (access_coded byte) ≡ byte
access-only zero h = refl
access-only (suc zero) h = refl
access-only (suc (suc zero)) h = refl
access-only (suc (suc (suc byte))) h = absurd (omega arith)

load-state-only : (byte : ℕ) → byte ≤ 1 → load_state_byte (load_state_coded byte) ≡ byte
load-state-only zero h = refl
load-state-only (suc zero) h = refl
load-state-only (suc (suc byte)) h = absurd (omega arith)

load-type-only : (byte : ℕ) → byte ≤ 1 → load_type_byte (load_type_coded byte) ≡ byte
load-type-only zero h = refl
load-type-only (suc zero) h = refl
load-type-only (suc (suc byte)) h = absurd (omega arith)

read-state-only : (byte : ℕ) → byte ≤ 1 → read_state_byte (read_state_coded byte) ≡ byte
read-state-only zero h = refl
read-state-only (suc zero) h = refl
read-state-only (suc (suc byte)) h = absurd (omega arith)

state-only : (byte : ℕ) → byte ≤ 6 → state_byte (state_coded byte) ≡ byte
state-only zero h = refl
state-only (suc zero) h = refl
state-only (suc (suc zero)) h = refl
state-only (suc (suc (suc zero))) h = refl
state-only (suc (suc (suc (suc zero)))) h = refl
state-only (suc (suc (suc (suc (suc zero))))) h = refl
state-only (suc (suc (suc (suc (suc (suc zero)))))) h = refl
state-only (suc (suc (suc (suc (suc (suc (suc byte))))))) h = absurd (omega arith)

module _ (bytes : List ℕ) (all : readable bytes ≡ true) where
  at : (k : ℕ) → k < channel_size → get_or bytes k 0 ≤ get_or limits k 0
  at k h = within channel_size k bytes h all

  flag : (k : ℕ) → k < channel_size → get_or limits k 0 ≡ 1 → flag_number (flag_at bytes k) ≡ get_or bytes k 0
  flag k h one = flag-only (get_or bytes k 0) (omega (arith, at k h))

  two : (k : ℕ) → k + 1 < channel_size → get_or limits k 0 ≡ 255 → get_or limits (k + 1) 0 ≡ 255
      → two_bytes (word_at bytes k) ≡ get_or bytes k 0 ∷ get_or bytes (k + 1) 0 ∷ []
  two k h low high = two-of (get_or bytes k 0) (get_or bytes (k + 1) 0) (omega (arith, at k (omega arith))) (omega (arith, at (k + 1) h))

  all-spelled : channel_bytes (channel_spelled bytes) ≡ spelled bytes 0 channel_size
  unfolding channel_bytes channel_spelled
  all-spelled =
      let mode = mode-only (get_or bytes 0 0) (at 0 (omega arith)) in
      let access = access-only (get_or bytes 1 0) (at 1 (omega arith)) in
      let load-state = load-state-only (get_or bytes 11 0) (at 11 (omega arith)) in
      let load-type = load-type-only (get_or bytes 12 0) (at 12 (omega arith)) in
      let state = state-only (get_or bytes 14 0) (at 14 (omega arith)) in
      let read-state = read-state-only (get_or bytes 25 0) (at 25 (omega arith)) in
      let cycles =
      four bytes 15 (omega (arith, at 15 (omega arith))) (omega (arith, at 16 (omega arith))) (omega (arith, at 17 (omega arith))) (omega (arith, at 18 (omega arith))) in
      λ i.
      mode i ∷ access i ∷ flag 2 (omega arith) refl i ∷ flag 3 (omega arith) refl i ∷ flag 4 (omega arith) refl i ∷ two 5 (omega arith) refl refl i
      ++ two 7 (omega arith) refl refl i
      ++ two 9 (omega arith) refl refl i
      ++ load-state i ∷ load-type i ∷ flag 13 (omega arith) refl i ∷ state i ∷ cycles i
      ++ two 19 (omega arith) refl refl i
      ++ flag 21 (omega arith) refl i ∷ two 22 (omega arith) refl refl i
      ++ flag 24 (omega arith) refl i ∷ read-state i ∷ flag 26 (omega arith) refl i ∷ flag 27 (omega arith) refl i ∷ flag 28 (omega arith) refl i ∷ get_or bytes 29 0 ∷ flag 30 (omega arith) refl i ∷ []

  -- the bytes of a record that is readable are those of the channel that it spells
  pub form : channel_size ≤ length bytes → channel_bytes (channel_spelled bytes) ≡ take channel_size bytes
  form long = all-spelled ∙ spelled-part bytes 0 channel_size long

only-by : (bytes : List ℕ) (c : Channel) (short good : Bool) → ltb (length bytes) channel_size ≡ short → readable bytes ≡ good
    → cond short (Err Short) (cond good (Ok (channel_spelled bytes)) (Err Unreadable)) ≡ Ok c
    → channel_bytes c ≡ take channel_size bytes
only-by bytes c true good len all e = let z : ◌≡◌ {A = ℕ} 0 1 = cc in absurd (omega arith)
only-by bytes c false true len all e =
    let same : channel_spelled bytes ≡ c = cc in rw (← same) (form bytes all (ltb-false (length bytes) channel_size len))
only-by bytes c false false len all e = let z : ◌≡◌ {A = ℕ} 0 1 = cc in absurd (omega arith)

pub only-bytes : (bytes : List ℕ) (c : Channel) → load_channel bytes ≡ Ok c → channel_bytes c ≡ take channel_size bytes
unfolding load_channel
only-bytes bytes c = only-by bytes c (ltb (length bytes) channel_size) (readable bytes) refl refl
