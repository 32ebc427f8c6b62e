use Rattle.std.proofs.Common.{ℕ, ◌<◌, get_or, rules}
use Rattle.in_bytes.proofs.Standing.{time-put}
use Rattle.in_bytes.proofs.put_clock.Goals as goal

pub returns : goal.returns
returns c =
    let a = c.args in
    let bytes = a.bytes.now in
    let all : (p : ℕ) → get_or bytes p 0 < 256 = search rules in
    time-put bytes all c.requires _ _ _ a.clock.remainder.0 a.clock.warp.0 a.clock.defer a.clock.owed.0 c.time_bytes-part.ensures c.put.ensures
