-- Document 02, L5: what a read-back does to a channel that it names. "A count or status already held is not latched again by this command": each is judged by itself.
use Rattle.std.specs.Prelude.{Bool, cond}
use Rattle.channel.specs.declared.Channel.{Channel}
use Rattle.latch.specs.Latching.{latch_count}
use Rattle.latch.specs.Status.{no_status, status_byte, with_status_latch}

-- a count that is latched already, by whatever command, is left; else it is latched as the plain latch does: "A count latched so sets dirty"
abbrev pub count_held : Bool → Channel → Channel
count_held asked c = cond asked (cond c.latch.count_is_latched c (latch_count c)) c

-- a status that is held already is left; else the status of this moment is held, and dirty stays
abbrev pub status_held : Bool → Channel → Channel
status_held asked c = cond asked (cond (no_status c) (with_status_latch c (status_byte c)) c) c

-- counts and status as asked for; neither asked for, nothing changes
unfoldable pub read_back : Bool → Bool → Channel → Channel
read_back counts status c = status_held status (count_held counts c)
