-- A board that is stored and loaded again is the same board, so equal bytes are of equal boards. Assumes nothing.
use Prim.Native.Nat.{ℕ}
use mathlib.Core.Path.{◌≡◌, refl, sym, ap, ◌∙◌}
use mathlib.Core.Bool.{true, false}
use mathlib.Core.List.{List, [], ◌∷◌, ◌++◌, append-nil}
use native.Mathlib.Omega.{arith}
use lib.Dec.{ltb}
use lib.ListN.{length, get_or}
use borrow.Author.Tests.{le-ltb}
use Rattle.numbers.specs.Number.{number_at}
use Rattle.numbers.proofs.Little.{long-back}
use Rattle.channel.specs.declared.Channel.{Channel}
use Rattle.channel.specs.declared.PitType.{PitType}
use Rattle.channel.specs.Blank.{blank}
use Rattle.channel.specs.Models.{model_number, model_numbered}
use Rattle.channel.proofs.Models.{model-back}
use Rattle.encoding.specs.Stored.{channel_bytes}
use Rattle.encoding.specs.Codes.{flag_back}
use Rattle.encoding.proofs.Back.{flag-within, all-readable, same-channel}
use Rattle.board.specs.declared.Board.{Board}
use Rattle.board.specs.Board.{channel_at}
use Rattle.board_encoding.specs.Stored.{board_bytes}
use Rattle.board_encoding.specs.Loaded.{record_part, own_readable, board_readable, board_in}
use Rattle.board_encoding.specs.Range.{BoardInRange}

model-within : (m : PitType) → ltb 1 (model_number m) ≡ false
model-within m = le-ltb _ _ (model-back m).0

same-model : (m : PitType) → model_numbered (model_number m) ≡ m
same-model m = (model-back m).1

three-channels : (cs : List Channel) → length cs ≡ 3 → get_or cs 0 blank ∷ get_or cs 1 blank ∷ get_or cs 2 blank ∷ [] ≡ cs
three-channels [] three = absurd (omega arith)
three-channels (c0 ∷ []) three = absurd (omega arith)
three-channels (c0 ∷ c1 ∷ []) three = absurd (omega arith)
three-channels (c0 ∷ c1 ∷ c2 ∷ []) three = refl
three-channels (c0 ∷ c1 ∷ c2 ∷ c3 ∷ cs) three = absurd (omega arith)

module _ (b : Board) (rest : List ℕ) where
  first-at : record_part (board_bytes b ++ rest) 0 ≡ channel_bytes (channel_at b 0) ++ []
  unfolding board_bytes channel_bytes
  first-at = refl

  second_at : record_part (board_bytes b ++ rest) 1 ≡ channel_bytes (channel_at b 1) ++ []
  unfolding board_bytes channel_bytes
  second_at = refl

  third_at : record_part (board_bytes b ++ rest) 2 ≡ channel_bytes (channel_at b 2) ++ []
  unfolding board_bytes channel_bytes
  third_at = refl

  own-readable : own_readable (board_bytes b ++ rest) ≡ true
  unfolding board_bytes channel_bytes
  own-readable = simp (model-within, flag-within)

  module _ (r : BoardInRange b) where
    -- whatever lies behind
    pub readable-before : board_readable (board_bytes b ++ rest) ≡ true
    unfolding board_readable
    readable-before =
        simp (
          first-at,
          second_at,
          third_at,
          all-readable (channel_at b 0) r.first.status,
          all-readable (channel_at b 1) r.second.status,
          all-readable (channel_at b 2) r.third.status,
          own-readable,
        )

    same-channels : (board_in (board_bytes b ++ rest)).channels ≡ b.channels
    unfolding board_in
    same-channels =
        simp (first-at, second_at, third_at, same-channel _ r.first, same-channel _ r.second, same-channel _ r.third)
        (three-channels b.channels r.three)

    same-own : (cs : List Channel) → cs ≡ b.channels → (board_in (board_bytes b ++ rest)).channels ≡ cs → board_in (board_bytes b ++ rest) ≡ b
    unfolding board_bytes channel_bytes board_in number_at
    same-own cs are is =
        simp (is, are, same-model, flag_back, long-back _ r.divisor, long-back _ r.remainder, long-back _ r.warp, long-back _ r.owed)

    pub board-back-before : board_in (board_bytes b ++ rest) ≡ b
    board-back-before = same-own b.channels refl same-channels

-- stored bytes are readable, and spell the board that was stored
pub board-back : (b : Board) → BoardInRange b → (board_readable (board_bytes b) ≡ true) × (board_in (board_bytes b) ≡ b)
board-back b r = (rw append-nil at (readable-before b [] r), rw append-nil at (board-back-before b [] r))

-- equal bytes are of equal boards
pub stored-alike : (b d : Board) → BoardInRange b → BoardInRange d → board_bytes b ≡ board_bytes d → b ≡ d
stored-alike b d rb rd e = sym (board-back b rb).1 ∙ ap board_in e ∙ (board-back d rd).1
