use Rattle.std.proofs.Common.{ℕ, List, ◌++◌, ◌≡◌, ◌≤◌, ◌∙◌, ap, length, take, arith}
use lib.ListN.{length-append}
use Rattle.refusal.specs.Refusal.{refusal_number}
use Rattle.text.proofs.Rooms.{first, and_pushed, said}
use Rattle.line.specs.Lines.{newline}
use Rattle.words.specs.Faults.{where_words, rule_words, code_in, there_words, fault_sentence, fault_room}
use Rattle.words.proofs.faults.fault_sentence.Goals as goal

-- a text that is pushed, by what it says
in_words : (before after text words : List ℕ) → text ≡ words → after ≡ take fault_room (before ++ text) → after ≡ take fault_room (before ++ words)
in_words before after text words same pushed = pushed ∙ ap (λ (t : List ℕ). take fault_room (before ++ t)) same

pub returns : goal.returns
unfolding fault_sentence
returns c =
    let f = c.args.fault in
    let n = refusal_number f.refusal in
    let t = c.args.trace.now in
    let lead = where_words f.operation f.place in
    let rule = rule_words n (code_in t f.operation) in
    let there = there_words n t f.place in
    let one = c.as_bytes.ensures.text ∙ c.where_words-lead.ensures.says in
    let two = c.as_bytes-2.ensures.text ∙ c.rule_words-rule.ensures.says ∙ ap (rule_words n) c.code_in.ensures in
    let three = c.as_bytes-3.ensures.text ∙ c.there_words-there.ensures.says in
    let rule_fits : length rule ≤ 64 = rw (← c.code_in.ensures) c.rule_words-rule.ensures.fits in
    let fits : length (lead ++ rule ++ there ++ newline) ≤ fault_room
    = simp length-append (omega (arith, c.where_words-lead.ensures.fits, rule_fits, c.there_words-there.ensures.fits)) in
    let t1 = first {room = fault_room} {before = c.new-sentence.result} lead c.push.new.self (in_words c.new-sentence.result c.push.new.self c.as_bytes.result.now lead one c.push.ensures) in
    let t2 = and_pushed t1 rule c.push-2.new.self (in_words c.push.new.self c.push-2.new.self c.as_bytes-2.result.now rule two c.push-2.ensures) in
    let t3 = and_pushed t2 there c.push-3.new.self (in_words c.push-2.new.self c.push-3.new.self c.as_bytes-3.result.now there three c.push-3.ensures) in
    let t4 = and_pushed t3 newline c.push-4.new.self c.push-4.ensures in
    record { says = said t4 c.new-sentence.ensures fits; fits = fits }
