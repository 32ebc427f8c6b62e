-- Document 01, "Recorded traces": "Section one: count 2, then divisor and model (0 8253, 1 8254). Section two: operation count, then operations".
use Rattle.std.specs.Prelude.{ℕ, ◌+◌, Bool, not, List, eqb, ltb}
use Rattle.numbers.specs.Number.{number_at}
use Rattle.channel.specs.Models.{model_numbered}
use Rattle.trace.specs.declared.head.Head.{Head}
use Rattle.trace.specs.Sizes.{most_operations}
use Rattle.trace.specs.Judgement.{Judgement, sound, present, ruled}

-- a number of four bytes that is first there and then by its rule
abbrev pub field : {A : Type 0} → List ℕ → ℕ → (ℕ → Bool) → ℕ → Judgement A → Judgement A
field bytes place broken number after = present bytes (place + 4) (ruled (broken (number_at bytes place)) number place after)

-- "count 2, then divisor and model", then the "operation count"
abbrev pub head_of : List ℕ → Head
head_of bytes = record { divisor = number_at bytes 4; model = model_numbered (number_at bytes 8); operations = number_at bytes 12 }

-- 10 "settings count not 2"; "A zero divisor is 3."; 21 "number or model too large" (02, L8); 11 "operation count above 4,096"
unfoldable pub read_head : List ℕ → Judgement Head
read_head bytes =
    field bytes 0 (λ count. not (eqb count 2)) 10
    (field bytes 4 (λ divisor. eqb divisor 0) 3
    (field bytes 8 (λ model. ltb 1 model) 21
    (field bytes 12 (λ operations. ltb most_operations operations) 11
    (sound (head_of bytes)))))
