-- How many bytes a stored channel has. Assumes nothing.
use mathlib.Core.Path.{◌≡◌, refl}
use lib.ListN.{length}
use Rattle.channel.specs.declared.Channel.{Channel}
use Rattle.encoding.specs.Stored.{channel_size, channel_bytes}

pub bytes-length : (c : Channel) → length (channel_bytes c) ≡ channel_size
unfolding channel_bytes
bytes-length c = refl
