-- The parts of a board that stands in lent bytes: what each part is, and what the bytes are once a part is written. Assumes nothing.
use Prim.Native.Nat.{ℕ, zero, suc, ◌+◌, ◌-◌, ◌<◌}
use mathlib.Core.Bool.{Bool}
use mathlib.Core.List.{List, [], ◌∷◌, ◌++◌, append_assoc}
use mathlib.Core.Path.{◌≡◌, refl, sym, ap, ◌∙◌}
use native.Mathlib.Omega.{arith}
use lib.ListN.{length, get_or, take, drop, length-append, take-append-drop}
use lib.Seq.{drop-drop, take-append-add, drop-append-add}
use borrow.Author.Tests.{le-leb}
use Rattle.numbers.specs.Little.{four_bytes}
use Rattle.channel.specs.declared.Channel.{Channel}
use Rattle.encoding.specs.Stored.{channel_size, channel_bytes}
use Rattle.encoding.specs.Loaded.{channel_spelled}
use Rattle.encoding.specs.Front.{put_front}
use Rattle.encoding.proofs.Length as record-length
use Rattle.text.specs.Put.{over, put, answered}
use Rattle.text.proofs.Puts.{Wrote, put-fits, put-length}
use Rattle.board.specs.declared.Board.{Board}
use Rattle.board.specs.Board as board
use Rattle.board_encoding.specs.Places.{record_place, model_place, remainder_place, owed_place, board_size}
use Rattle.board_encoding.specs.Stored.{settings_bytes, time_bytes, board_bytes}
use Rattle.board_encoding.specs.Loaded.{record_part, board_in, HoldsBoard}
use Rattle.board_encoding.proofs.Length.{bytes-length}
use Rattle.board_encoding.proofs.Only.{between, before-third, before-time, first-form, second-form, third-form, settings-form, time-form, owing-form, only-bytes-before}
use Rattle.in_bytes.specs.Called.{stored}

-- the channel at a place
pub found : (bytes : List ℕ) (n : ℕ) → n < 3 → channel_spelled (record_part bytes n) ≡ board.channel_at (board_in bytes) n
unfolding board_in
found bytes zero on = refl
found bytes (suc zero) on = refl
found bytes (suc (suc zero)) on = refl
found bytes (suc (suc (suc n))) on = absurd (omega arith)

module _ (bytes : List ℕ) (all : (p : ℕ) → get_or bytes p 0 < 256) (h : HoldsBoard bytes) where
  stored_is : (b : Board) → stored b bytes ≡ board_bytes b ++ drop board_size bytes
  unfolding put_front
  stored_is b = simp (bytes-length b, le-leb board_size (length bytes) h.long)

  -- a board written back as it stands changes nothing
  pub kept : stored (board_in bytes) bytes ≡ bytes
  kept = stored_is (board_in bytes) ∙ ap (λ l. l ++ drop board_size bytes) (only-bytes-before bytes all h) ∙ take-append-drop board_size bytes

  join : (a k : ℕ) → take k (drop a bytes) ++ drop (a + k) bytes ≡ drop a bytes
  join a k = rw (← drop-drop k a bytes) (take-append-drop k (drop a bytes))

  -- a part and what lies behind it
  behind : (before : List ℕ) (a k : ℕ) → (before ++ take k (drop a bytes)) ++ drop (a + k) bytes ≡ before ++ drop a bytes
  behind before a k = append_assoc before (take k (drop a bytes)) (drop (a + k) bytes) ∙ ap (λ l. before ++ l) (join a k)

  own_behind : (before : List ℕ) → (before ++ between bytes model_place remainder_place ++ between bytes remainder_place board_size) ++ drop board_size bytes ≡ before ++ drop model_place bytes
  own_behind before =
      behind (before ++ between bytes model_place remainder_place) remainder_place (board_size - remainder_place)
      ∙ behind before model_place (remainder_place - model_place)

  onto : (front : List ℕ) (p k : ℕ) → length front ≡ k → (take p bytes ++ front) ++ drop (p + k) bytes ≡ over front bytes p
  onto front p k len = ap (λ n. (take p bytes ++ front) ++ drop (p + n) bytes) (sym len)

  module _ (front : List ℕ) (len : length front ≡ channel_size) where
    at-first : (front ++ record_part bytes 1 ++ record_part bytes 2 ++ between bytes model_place remainder_place ++ between bytes remainder_place board_size) ++ drop board_size bytes
        ≡ over front bytes (record_place 0)
    at-first =
        own_behind (front ++ record_part bytes 1 ++ record_part bytes 2)
        ∙ behind (front ++ record_part bytes 1) (record_place 2) channel_size
        ∙ behind front (record_place 1) channel_size
        ∙ onto front (record_place 0) channel_size len

    at-second : (record_part bytes 0 ++ front ++ record_part bytes 2 ++ between bytes model_place remainder_place ++ between bytes remainder_place board_size) ++ drop board_size bytes
        ≡ over front bytes (record_place 1)
    at-second =
        own_behind (record_part bytes 0 ++ front ++ record_part bytes 2)
        ∙ behind (record_part bytes 0 ++ front) (record_place 2) channel_size
        ∙ onto front (record_place 1) channel_size len

    at-third : (record_part bytes 0 ++ record_part bytes 1 ++ front ++ between bytes model_place remainder_place ++ between bytes remainder_place board_size) ++ drop board_size bytes
        ≡ over front bytes (record_place 2)
    at-third =
        own_behind (record_part bytes 0 ++ record_part bytes 1 ++ front)
        ∙ ap (λ l. (l ++ front) ++ drop model_place bytes) (sym (before-third bytes))
        ∙ onto front (record_place 2) channel_size len

  -- one channel written: its record
  pub replaced : (n : ℕ) → n < 3 → (c : Channel) → stored (board.with_channel (board_in bytes) n c) bytes ≡ over (channel_bytes c) bytes (record_place n)
  unfolding board_bytes board_in
  replaced zero on c =
      stored_is (board.with_channel (board_in bytes) 0 c)
      ∙ (λ i. (channel_bytes c ++ second-form bytes all h i ++ third-form bytes all h i ++ settings-form bytes all h i ++ time-form bytes all h i) ++ drop board_size bytes)
      ∙ at-first (channel_bytes c) (record-length.bytes-length c)
  replaced (suc zero) on c =
      stored_is (board.with_channel (board_in bytes) 1 c)
      ∙ (λ i. (first-form bytes all h i ++ channel_bytes c ++ third-form bytes all h i ++ settings-form bytes all h i ++ time-form bytes all h i) ++ drop board_size bytes)
      ∙ at-second (channel_bytes c) (record-length.bytes-length c)
  replaced (suc (suc zero)) on c =
      stored_is (board.with_channel (board_in bytes) 2 c)
      ∙ (λ i. (first-form bytes all h i ++ second-form bytes all h i ++ channel_bytes c ++ settings-form bytes all h i ++ time-form bytes all h i) ++ drop board_size bytes)
      ∙ at-third (channel_bytes c) (record-length.bytes-length c)
  replaced (suc (suc (suc n))) on c = absurd (omega arith)

  at-time : (front : List ℕ) → length front ≡ board_size - remainder_place
      → (record_part bytes 0 ++ record_part bytes 1 ++ record_part bytes 2 ++ between bytes model_place remainder_place ++ front) ++ drop board_size bytes
      ≡ over front bytes remainder_place
  at-time front len =
      ap (λ l. (l ++ front) ++ drop board_size bytes) (sym (before-time bytes)) ∙ onto front remainder_place (board_size - remainder_place) len

  -- the board's time written
  pub timed : (remainder warp : ℕ) (defer : Bool) (owed : ℕ)
      → stored (board.with_time (board_in bytes) remainder warp defer owed) bytes ≡ over (time_bytes remainder warp defer owed) bytes remainder_place
  unfolding board_bytes board_in
  timed remainder warp defer owed =
      stored_is (board.with_time (board_in bytes) remainder warp defer owed)
      ∙ (λ i. (first-form bytes all h i ++ second-form bytes all h i ++ third-form bytes all h i ++ settings-form bytes all h i ++ time_bytes remainder warp defer owed)
      ++ drop board_size bytes)
      ∙ at-time (time_bytes remainder warp defer owed) refl

  at_owed : (front last : List ℕ) → length front ≡ model_place → length last ≡ board_size - owed_place
      → (front ++ between bytes model_place owed_place ++ last) ++ drop board_size bytes ≡ over last (front ++ drop model_place bytes) owed_place
  at_owed front last len four =
      let before : take owed_place (front ++ drop model_place bytes) ≡ front ++ between bytes model_place owed_place =
      ap (λ n. take (n + (owed_place - model_place)) (front ++ drop model_place bytes)) (sym len)
      ∙ take-append-add front (drop model_place bytes) (owed_place - model_place) in
      let behind : drop board_size (front ++ drop model_place bytes) ≡ drop board_size bytes =
      ap (λ n. drop (n + (board_size - model_place)) (front ++ drop model_place bytes)) (sym len)
      ∙ drop-append-add front (drop model_place bytes) (board_size - model_place)
      ∙ drop-drop (board_size - model_place) model_place bytes in
      simp (four, before, behind, append_assoc)

  -- the three records and the owed ticks written
  pub all-ticked : (c0 c1 c2 : Channel) (owed : ℕ) → stored (board.owing (board_in bytes) owed (c0 ∷ c1 ∷ c2 ∷ [])) bytes
      ≡ over (four_bytes owed) ((channel_bytes c0 ++ channel_bytes c1 ++ channel_bytes c2) ++ drop model_place bytes) owed_place
  unfolding board_bytes board_in
  all-ticked c0 c1 c2 owed =
      let front = channel_bytes c0 ++ channel_bytes c1 ++ channel_bytes c2 in
      let len : length front ≡ model_place = simp (length-append, record-length.bytes-length) in
      stored_is (board.owing (board_in bytes) owed (c0 ∷ c1 ∷ c2 ∷ []))
      ∙ ap (λ l. l ++ drop board_size bytes) (append_assoc front (settings_bytes (board_in bytes)) _ ∙ ap (λ own. front ++ own) (owing-form bytes all h owed) ∙ sym (append_assoc front _ (four_bytes owed)))
      ∙ at_owed front (four_bytes owed) len refl

-- the parts as the code puts them
module _ (bytes : List ℕ) (all : (p : ℕ) → get_or bytes p 0 < 256) (h : HoldsBoard bytes) (text : List ℕ) (r : ℕ) (after : List ℕ) where
  pub channel-put : (n : ℕ) → n < 3 → (c : Channel) → text ≡ channel_bytes c → answered r after ≡ put text bytes (record_place n)
      → after ≡ stored (board.with_channel (board_in bytes) n c) bytes
  channel-put n on c is e =
      let len : length text ≡ channel_size = ap length is ∙ record-length.bytes-length c in
      let long = h.long in
      ap (λ p. p.bytes) (e ∙ put-fits text bytes (record_place n) (omega arith)) ∙ ap (λ l. over l bytes (record_place n)) is ∙ sym (replaced bytes all h n on c)

  pub time-put : (remainder warp : ℕ) (defer : Bool) (owed : ℕ) → text ≡ time_bytes remainder warp defer owed → answered r after ≡ put text bytes remainder_place
      → after ≡ stored (board.with_time (board_in bytes) remainder warp defer owed) bytes
  time-put remainder warp defer owed is e =
      let len : length text ≡ board_size - remainder_place = ap length is in
      let long = h.long in
      ap (λ p. p.bytes) (e ∙ put-fits text bytes remainder_place (omega arith)) ∙ ap (λ l. over l bytes remainder_place) is ∙ sym (timed bytes all h remainder warp defer owed)

-- the three records one behind the other, then the owed ticks
module _ (bytes : List ℕ) (all : (p : ℕ) → get_or bytes p 0 < 256) (h : HoldsBoard bytes) (c0 c1 c2 : Channel) (owed : ℕ) where
  pub channels-put : (text last then : List ℕ) (place r : ℕ) (after : List ℕ) → text ≡ channel_bytes c0 ++ channel_bytes c1 ++ channel_bytes c2
      → Wrote text bytes 0 place then
      → last ≡ four_bytes owed
      → answered r after ≡ put last then owed_place
      → after ≡ stored (board.owing (board_in bytes) owed (c0 ∷ c1 ∷ c2 ∷ [])) bytes
  channels-put text last then place r after is first four e =
      let long = h.long in
      let len : length text ≡ model_place = ap length is ∙ simp (length-append, record-length.bytes-length) in
      let stands : then ≡ over text bytes 0 = ap (λ p. p.bytes) (first.so (omega arith) ∙ put-fits text bytes 0 (omega arith)) in
      let same : length then ≡ length bytes = put-length text bytes 0 place then (first.so (omega arith)) in
      let short : length last ≡ board_size - owed_place = ap length four in
      ap (λ p. p.bytes) (e ∙ put-fits last then owed_place (omega arith))
      ∙ (simp (stands, is, four, record-length.bytes-length, length-append))
      ∙ sym (all-ticked bytes all h c0 c1 c2 owed)
