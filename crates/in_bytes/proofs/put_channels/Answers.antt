use Rattle.std.proofs.Common.{ℕ, ◌<◌, get_or, length, ◌≡◌, ◌∙◌, ◌++◌, sym, ap, rules}
use Rattle.channel.specs.Blank.{blank}
use Rattle.encoding.specs.Stored.{channel_bytes}
use Rattle.text.proofs.Puts.{wrote, and_then}
use Rattle.board.specs.Board.{owing}
use Rattle.board.proofs.Channels.{three-are}
use Rattle.board_encoding.specs.Loaded.{board_in}
use Rattle.in_bytes.specs.Called.{stored}
use Rattle.in_bytes.proofs.Standing.{channels-put}
use Rattle.in_bytes.proofs.put_channels.Goals as goal

pub returns : goal.returns
returns c =
    let a = c.args in
    let bytes = a.bytes.now in
    let c0 = c.channel_bytes-first in
    let c1 = c.channel_bytes-second in
    let c2 = c.channel_bytes-third in
    let all : (p : ℕ) → get_or bytes p 0 < 256 = search rules in
    let one = wrote c0.result bytes 0 _ _ c.put-place.ensures in
    let two = and_then one c1.result _ _ c.put-place-2.ensures in
    let three = and_then two c2.result _ _ c.put.ensures in
    let length-is : length a.channels ≡ 3 = search rules in
    let text : c0.result ++ c1.result ++ c2.result ≡ channel_bytes (get_or a.channels 0 blank) ++ channel_bytes (get_or a.channels 1 blank) ++ channel_bytes (get_or a.channels 2 blank) =
    simp (c0.ensures, c1.ensures, c2.ensures) in
    channels-put bytes all c.requires (get_or a.channels 0 blank) (get_or a.channels 1 blank) (get_or a.channels 2 blank) a.owed.0 _ _ _ _ _ _ text three c.four_bytes-last.ensures c.put-2.ensures
    ∙ ap (λ l. stored (owing (board_in bytes) a.owed.0 l) bytes) (sym (three-are a.channels length-is))
