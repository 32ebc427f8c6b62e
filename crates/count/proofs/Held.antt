-- Counts leave a held latch as it was, however many, and they make, end and half read none. Assumes nothing.
use Rattle.std.proofs.Common.{◌≡◌, ℕ, zero, suc, true, refl, ap, ◌∙◌}
use Rattle.numbers.specs.Times.{times}
use Rattle.channel.specs.declared.Channel.{Channel}
use Rattle.channel.specs.declared.Latch.{Latch}
use Rattle.channel.specs.Shared.{followed, put_element}
use Rattle.channel.proofs.Follows.{held-follows, follows-latched, follows-half}
use Rattle.count.specs.Count.{next_element, count}

pub held_after : (n : ℕ) (c : Channel) → c.latch.count_is_latched ≡ true → (times n count c).latch ≡ c.latch
unfolding count put_element
held_after zero c held = refl
held_after (suc n) c held = ap (λ (l : Latch). followed l (next_element (times n count c))) (held_after n c held) ∙ held-follows c.latch _ held

pub latched-after : (n : ℕ) (c : Channel) → (times n count c).latch.count_is_latched ≡ c.latch.count_is_latched
unfolding count put_element
latched-after zero c = refl
latched-after (suc n) c = follows-latched (times n count c).latch _ ∙ latched-after n c

pub half-after : (n : ℕ) (c : Channel) → (times n count c).latch.read_state ≡ c.latch.read_state
unfolding count put_element
half-after zero c = refl
half-after (suc n) c = follows-half (times n count c).latch _ ∙ half-after n c
