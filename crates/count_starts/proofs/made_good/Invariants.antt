-- `made_good` ends: each leap leaves fewer counts.
use Rattle.count_starts.proofs.made_good.Given as goal

abbrev pub decreases-loop-l : goal.decreases-loop-l
decreases-loop-l l = l.l.number
