-- Document 01, "Output events".
use Rattle.std.specs.Prelude.{ℕ, ◌+◌, ◌-◌, Bool, true, false, cond, List, [], ◌∷◌, ◌++◌, ltb, length, take, drop, Option, Some, None, Result}
use Rattle.numbers.specs.Flags.{flag_number}
use Rattle.refusal.specs.Reply.{Reply, refused, accepted, reply_of}
use Rattle.refusal.specs.declared.Refusal.{Refusal}
use Rattle.channel.specs.declared.Channel.{Channel}
use Rattle.event.specs.declared.Event.{Event}

-- whether a level "already stands"
abbrev pub same_level : Bool → Bool → Bool
same_level true true = true
same_level true false = false
same_level false true = false
same_level false false = true

-- "a change of output level"; "Setting a level that already stands is no event."
abbrev pub event_of : ℕ → Bool → Bool → Option Event
event_of channel was is = cond (same_level was is) None (Some (record { channel = channel; level = is }))

-- .. of a channel whose record a call or a tick replaces: the level after it against the level before
abbrev pub level_event : ℕ → Channel → Channel → Option Event
level_event n old new = event_of n old.pins.output new.pins.output

-- "two bytes, the channel's place on the board (0 to 2) then level (0 or 1)", and none where the output stays
abbrev pub event_bytes : Option Event → List ℕ
event_bytes None = []
event_bytes (Some event) = event.channel ∷ flag_number event.level ∷ []

-- "written into the rest of the lent event bytes, from the given place on ... No other byte changes."
abbrev pub event_at : ℕ → Bool → List ℕ → ℕ → List ℕ
event_at channel level bytes place = take place bytes ++ (event_bytes (Some (record { channel = channel; level = level })) ++ drop 2 (drop place bytes))

-- what a call replies about its event, and the lent bytes that it leaves
pub record Placing : Type 0 where
  pub reply : Reply ℕ
  pub bytes : List ℕ

-- Refusal 8: "an event is due and fewer than 2 bytes are left from the place". "The new place is the old plus 2, or the old if no event."
abbrev pub place_due : Option Event → List ℕ → ℕ → Placing
place_due None bytes place = record { reply = accepted place; bytes = bytes }
place_due (Some event) bytes place =
    cond (ltb (length bytes - place) 2) (record { reply = refused 8; bytes = bytes })
    (record { reply = accepted (place + 2); bytes = event_at event.channel event.level bytes place })

-- Refusal 7 comes first: "event place past the end of the event bytes"
unfoldable pub place_event : Option Event → List ℕ → ℕ → Placing
place_event event bytes place =
    cond (ltb (length bytes) place) (record { reply = refused 7; bytes = bytes }) (place_due event bytes place)

-- document 01's number or place for each answer of the code
abbrev pub placed_reply : Result ℕ Refusal → Reply ℕ
placed_reply = reply_of (λ place. place)

-- .. and with it the lent bytes at the call's end
abbrev pub placing : Result ℕ Refusal → List ℕ → Placing
placing answer bytes = record { reply = placed_reply answer; bytes = bytes }
