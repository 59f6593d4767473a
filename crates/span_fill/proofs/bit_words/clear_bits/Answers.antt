use Rattle.std.proofs.Common.{ℕ, ◌<◌, ◌&&◌, ap, nat_le, not, arith, ◌∙◌, ◌/◌, ◌-◌}
use Rattle.std.proofs.Math.ListN.{length-set}
use Rattle.span_fill.specs.BitWords.{word_bit}
use Rattle.span_fill.proofs.BitWordLemmas.{before_end}
use Rattle.span_fill.proofs.ClearedBits.{one_word_cleared, several_words_cleared}
use Rattle.span_fill.proofs.bit_words.clear_bits.Goals as goal

pub returns-then-first-last : goal.returns-then-first-last
returns-then-first-last c =
    let a = c.args in
    let more : a.from < a.to = omega arith in
    λ n.
    one_word_cleared a.words.now a.from (a.to - 1) n (omega arith) (omega arith) c.if-first-last.true
    ∙ ap (λ t. word_bit a.words.now n && not (nat_le a.from n && t)) (before_end n a.to (omega arith))

pub returns : goal.returns
returns c =
    let a = c.args in
    let more : a.from < a.to = omega arith in
    let apart : a.from / 64 < (a.to - 1) / 64 = omega arith in
    λ n.
    several_words_cleared a.words.now a.from (a.to - 1) n (omega arith) (omega arith) apart c.fill_words.new.words (omega (arith, length-set {A = ℕ}))
    c.fill_words.ensures.below c.fill_words.ensures.filled c.fill_words.ensures.above
    ∙ ap (λ t. word_bit a.words.now n && not (nat_le a.from n && t)) (before_end n a.to (omega arith))
