use Rattle.std.proofs.Common.{ℕ, ◌<◌, get_or, rules}
use Rattle.in_bytes.proofs.Standing.{channel-put}
use Rattle.in_bytes.proofs.put_channel.Goals as goal

pub returns : goal.returns
returns c =
    let bytes = c.args.bytes.now in
    let all : (p : ℕ) → get_or bytes p 0 < 256 = search rules in
    channel-put bytes all c.requires.holds_board _ _ _ c.args.n c.requires.n_bound c.args.c c.channel_bytes-part.ensures c.put.ensures
