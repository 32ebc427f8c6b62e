-- The output after each rule that may move it is the level that document 01's sentences give (specs/Levels.antt). Assumes nothing.
use Prim.Native.Nat.{ℕ}
use mathlib.Core.Path.{◌≡◌, refl}
use mathlib.Core.Bool.{Bool, true, false, cond}
use Rattle.channel.specs.declared.Channel.{Channel}
use Rattle.channel.specs.declared.ChannelMode.{ChannelMode}
use Rattle.channel.specs.declared.ControlWord.{ControlWord}
use Rattle.channel.specs.declared.LoadState.{LoadState}
use Rattle.channel.specs.declared.LoadState.TheVariants.{WaitingForLsb, WaitingForMsb}
use Rattle.channel.specs.declared.LoadType.{LoadType}
use Rattle.channel.specs.declared.LoadType.TheVariants.{InitialLoad, SubsequentLoad}
use Rattle.channel.specs.declared.PitType.{PitType}
use Rattle.channel.specs.declared.RwMode.{RwMode}
use Rattle.channel.specs.declared.RwMode.TheVariants.{Lsb, Msb, LsbMsb}
use Rattle.channel.specs.Modes.{by_mode}
use Rattle.channel.specs.Queries.{get_output_state}
use Rattle.channel.specs.Shared.{change_channel_state, change_output_state}
use Rattle.channel.proofs.Modes.{every-mode}
use Rattle.channel.proofs.Pick.{of-pick, pick_same}
use Rattle.latch.specs.Latching.{latch_count}
use Rattle.load.specs.Finalize.{complete_load, enter_after, finalize_load}
use Rattle.load.specs.Write.{put_register, begins_word, write_at, write_byte}
use Rattle.gate.specs.Gate.{high_on_fall, edge, set_gate}
use Rattle.mode.specs.Mode.{output_after, set_mode}
use Rattle.step.specs.Levels.{level_after_write, falls, level_after_gate}

-- a row with one entry throughout
row_same : (x : Bool) (m : ChannelMode) → by_mode x x x x x x m ≡ x
row_same x = every-mode (λ (m : ChannelMode). by_mode x x x x x x m ≡ x) refl refl refl refl refl refl

after-output : (t : LoadType) (defer : Bool) (c : Channel) → (enter_after t defer c).pins.output ≡ c.pins.output
unfolding change_channel_state
after-output InitialLoad defer c = refl
after-output SubsequentLoad defer c = simp (of-pick get_output_state, pick_same)

complete-output : (c : Channel) (defer : Bool) → (finalize_load c defer).pins.output ≡ c.pins.output
unfolding finalize_load complete_load
complete-output c defer = after-output c.load.load_type defer (complete_load c)

write-output : (access : RwMode) (state : LoadState) (c : Channel) (byte : ℕ) (defer : Bool)
    → (write_at access state c byte defer).pins.output
    ≡ cond (by_mode (begins_word access state) false false false false false c.control.mode) false c.pins.output
unfolding put_register change_channel_state change_output_state
write-output Lsb state c byte defer = simp (complete-output, row_same)
write-output Msb state c byte defer = simp (complete-output, row_same)
write-output LsbMsb WaitingForLsb c byte defer = simp (of-pick get_output_state)
write-output LsbMsb WaitingForMsb c byte defer = simp (complete-output, row_same)

pub write-level : (c : Channel) (byte : ℕ) (defer : Bool) → (write_byte c byte defer).pins.output ≡ level_after_write c
unfolding write_byte
write-level c byte defer = write-output c.control.rw_mode c.load.load_state c byte defer

-- a fall in modes 2 and 3, as a row and as a test
fall-row : (x : Bool) (m : ChannelMode) → cond (high_on_fall m) true x ≡ by_mode x x true true x x m
fall-row x = every-mode (λ (m : ChannelMode). cond (high_on_fall m) true x ≡ by_mode x x true true x x m) refl refl refl refl refl refl

edge-output : (gate level : Bool) (c : Channel)
    → (edge gate level c).pins.output
    ≡ cond (falls gate level) (by_mode c.pins.output c.pins.output true true c.pins.output c.pins.output c.control.mode) c.pins.output
unfolding change_channel_state change_output_state
edge-output false false c = refl
edge-output false true c = simp (of-pick get_output_state, pick_same)
edge-output true false c = simp (of-pick get_output_state, of-pick (λ (d : Channel). d.control), pick_same, fall-row)
edge-output true true c = refl

pub gate-level : (c : Channel) (level : Bool) → (set_gate c level).pins.output ≡ level_after_gate c level
unfolding set_gate
gate-level c level = simp (of-pick get_output_state, edge-output)

pub mode-level : (c : Channel) (word : ControlWord) (model : PitType) → (set_mode c word model).pins.output ≡ output_after word.mode
unfolding set_mode
mode-level c word model = refl

-- a latch moves no output
pub latch-level : (c : Channel) → (latch_count c).pins.output ≡ c.pins.output
unfolding latch_count
latch-level c = refl
