-- W1, M0 in step with the sheets' counter: the first byte of two. Assumes nothing.
use Prim.Native.Nat.{ℕ}
use mathlib.Core.Bool.{Bool, true, false, true≢false, false≢true, cond}
use mathlib.Core.Path.{◌≡◌, refl, sym, ap, ◌∙◌}
use Rattle.channel.specs.declared.Channel.{Channel}
use Rattle.channel.specs.declared.ChannelMode.{ChannelMode}
use Rattle.channel.specs.declared.ChannelMode.TheVariants.{InterruptOnTerminalCount}
use Rattle.channel.specs.declared.ChannelState.TheVariants.{WaitingForReload}
use Rattle.channel.specs.declared.LoadState.TheVariants.{WaitingForLsb, WaitingForMsb}
use Rattle.channel.specs.declared.PitType.{PitType}
use Rattle.channel.specs.declared.RwMode.TheVariants.{LsbMsb}
use Rattle.channel.specs.Modes.{mode_number}
use Rattle.channel.specs.Shared.{change_channel_state, change_output_state}
use Rattle.channel.proofs.Modes.{every-mode}
use Rattle.load.specs.Write.{put_register, stops_on_low_byte, write_byte}
use Rattle.sheet.specs.Gate.{fall_effect}
use Rattle.sheet.specs.Counter.{Fixed, fixed_at, Phase, awaits_count, awaits_trigger, loading, counting, lost}
use Rattle.agreement.specs.Watching.{watching}
use Rattle.agreement.proofs.Tracking.{Core, core_of, view, Rules, down, rate, square, paused, Standing, PhaseAt, Holds, Tracks, tracked}

-- the first byte of two
abbrev pub begun_core : ℕ → Bool → Core → Core
begun_core byte stops c =
    record {
      control = c.control;
      reloading = c.reloading;
      load =
          record {
            count_register = byte;
            reload_value = c.load.reload_value;
            load_state = WaitingForMsb;
            load_type = c.load.load_type;
            armed = c.load.armed;
          };
      state = cond stops WaitingForReload c.state;
      element = c.element;
      pins = record { gate = c.pins.gate; output = cond stops false c.pins.output };
    }

pub begun-core : (c : Channel) (byte : ℕ) (defer stops : Bool) → c.control.rw_mode ≡ LsbMsb → c.load.load_state ≡ WaitingForLsb
    → stops_on_low_byte c.control.mode ≡ stops → core_of (write_byte c byte defer) ≡ begun_core byte stops (core_of c)
unfolding write_byte put_register change_channel_state change_output_state
begun-core c byte defer true both waits stops = simp (both, waits, stops)
begun-core c byte defer false both waits stops = simp (both, waits, stops)

only_zero : (m : ChannelMode) → stops_on_low_byte m ≡ true → m ≡ InterruptOnTerminalCount
only_zero =
    every-mode (λ (m : ChannelMode). stops_on_low_byte m ≡ true → m ≡ InterruptOnTerminalCount)
    (λ s. refl) (λ s. absurd (false≢true s)) (λ s. absurd (false≢true s)) (λ s. absurd (false≢true s)) (λ s. absurd (false≢true s)) (λ s. absurd (false≢true s))

module _ (model : PitType) (c : Core) (byte : ℕ) where
  there-begun : (n j : ℕ) → Standing model c n j → Standing model (begun_core byte false c) n j
  there-begun n j (down d) = down (record { down = d.down; has_value = d.has_value; goes = d.goes; level = d.level; armed = d.armed })
  there-begun n j (rate r) =
      rate (record { rate = r.rate; in-period = r.in-period; has_value = r.has_value; level = r.level; counts = r.counts; gate-high = r.gate-high })
  there-begun n j (square q) =
      square
      (record {
        square = q.square;
        high = q.high;
        age = q.age;
        in-period = q.in-period;
        stands = q.stands;
        has_value = q.has_value;
        level = q.level;
        counts = q.counts;
        gate-high = q.gate-high;
        alike = q.alike;
      })
  there-begun n j (paused q) =
      paused (record { repeats = q.repeats; in-period = q.in-period; has_value = q.has_value; holds = q.holds; gate-low = q.gate-low })

  phase-begun : (p : Phase) (late : Bool) → PhaseAt p late model c → PhaseAt p late model (begun_core byte false c)
  phase-begun awaits_count late h = record { waits = h.waits; none = h.none; is-high = h.is-high }
  phase-begun awaits_trigger late h = record { waits = h.waits; complete = h.complete }
  phase-begun loading late h = record { waits = h.waits; complete = h.complete }
  phase-begun (counting n j) late h = record { complete = h.complete; at_least = h.at_least; at_most = h.at_most; there = there-begun n j h.there }
  phase-begun lost late h = record { complete = h.complete; come = h.come }

  module _ (one : Fixed Bool) (o : Fixed Bool) (v : Fixed ℕ) (p : Phase) (late : Bool) (h : Holds model p o v late one c) where
    rules-begun : (stops : Bool) → stops_on_low_byte c.control.mode ≡ stops → Rules model one (begun_core byte stops c)
    rules-begun true stops =
        record { masked = h.rules.masked; one-is = h.rules.one-is; rule-is = h.rules.rule-is; sixteen = h.rules.sixteen; half = λ both zero waits. (refl, refl) }
    rules-begun false stops =
        record {
          masked = h.rules.masked;
          one-is = h.rules.one-is;
          rule-is = h.rules.rule-is;
          sixteen = h.rules.sixteen;
          half = λ both zero waits. absurd (true≢false (sym (ap stops_on_low_byte zero) ∙ stops));
        }

    abbrev begun_output : Bool → Fixed Bool
    begun_output stops = cond stops (fixed_at false) o

    pub begins : (stops : Bool) → stops_on_low_byte c.control.mode ≡ stops
        → Tracks model (watching (view (begun_core byte stops c) (cond stops awaits_count p) (begun_output stops) v) late one) (begun_core byte stops c)
    begins true stops =
        let zero : c.control.mode ≡ InterruptOnTerminalCount = only_zero c.control.mode stops in
        tracked awaits_count (fixed_at false) v late one refl
        (record {
          rules = rules-begun true stops;
          phase-is =
              record {
                waits = refl;
                none = λ other. absurd (other zero);
                is-high = λ raises. absurd (false≢true (sym (ap (λ (m : ChannelMode). (fall_effect (mode_number m)).raises) zero) ∙ raises));
              };
          output-is = refl;
          value-is = h.value-is;
        })
    begins false stops =
        tracked p o v late one refl
        (record { rules = rules-begun false stops; phase-is = phase-begun p late h.phase-is; output-is = h.output-is; value-is = h.value-is })
