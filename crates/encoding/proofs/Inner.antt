-- Where the bytes of a record are there, it is readable, and it spells its channel. Assumes nothing.
use Prim.Native.Nat.{ℕ, ◌≤◌}
use mathlib.Core.List.{List}
use mathlib.Core.Path.{◌≡◌}
use lib.ListN.{length}
use borrow.Author.Tests.{le-ltb}
use Rattle.encoding.specs.Stored.{channel_size}
use Rattle.encoding.specs.Loaded.{readable, channel_spelled}
use Rattle.encoding.specs.Inner.{is_record, record_in}

module _ (bytes : List ℕ) (long : channel_size ≤ length bytes) where
  pub is-record : is_record bytes ≡ readable bytes
  is-record = simp (le-ltb _ _ long)

  pub record-in : record_in bytes ≡ channel_spelled bytes
  record-in = simp (le-ltb _ _ long)
