-- What it puts together is that many single counts, by `counted-at-once`.
use Rattle.count.proofs.Many.{counted-at-once}
use Rattle.count.proofs.counts.Goals as goal

pub returns : goal.returns
returns c = rw counted-at-once (simp (c.ticked_by-next.ensures, c.followed_by-next.ensures, c.counted_element-element.ensures))
