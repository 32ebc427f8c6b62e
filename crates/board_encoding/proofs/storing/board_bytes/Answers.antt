use Rattle.std.proofs.Common.{◌≡◌, ◌∙◌, ◌++◌}
use lib.ListN.{replicate}
use Rattle.text.proofs.Puts.{wrote, and_then}
use Rattle.board_encoding.specs.Places.{board_size}
use Rattle.board_encoding.specs.Stored.{board_bytes}
use Rattle.board_encoding.proofs.Length.{bytes-length}
use Rattle.board_encoding.proofs.Filled.{filled}
use Rattle.board_encoding.proofs.storing.board_bytes.Goals as goal

pub returns : goal.returns
unfolding board_bytes
returns c =
    let c0 = c.channel_bytes-c0 in
    let c1 = c.channel_bytes-c1 in
    let c2 = c.channel_bytes-c2 in
    let settings = c.settings_bytes-settings in
    let time = c.time_bytes-time in
    let one = wrote c0.result (replicate board_size 0) 0 _ _ c.put-place.ensures in
    let two = and_then one c1.result _ _ c.put-place-2.ensures in
    let three = and_then two c2.result _ _ c.put-place-3.ensures in
    let four = and_then three settings.result _ _ c.put-place-4.ensures in
    let all = and_then four time.result _ _ c.put.ensures in
    let same : c0.result ++ c1.result ++ c2.result ++ settings.result ++ time.result ≡ board_bytes c.args.b =
    λ i. c0.ensures i ++ c1.ensures i ++ c2.ensures i ++ settings.ensures i ++ time.ensures i in
    filled all (rw same (bytes-length c.args.b)) ∙ same
