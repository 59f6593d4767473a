use Rattle.std.proofs.Common.{arith}
use Rattle.span_fill.proofs.RunsOfBits.{run_in_one_word, run_in_two_words}
use Rattle.span_fill.proofs.bit_words.set_run.Goals as goal

pub returns-then-bit-count-gt64 : goal.returns-then-bit-count-gt64
returns-then-bit-count-gt64 c =
    let a = c.args in
    λ n. run_in_two_words a.words.now a.from a.count n c.requires.some c.requires.limit c.requires.within (omega arith)

pub returns-else-bit-count-gt64 : goal.returns-else-bit-count-gt64
returns-else-bit-count-gt64 c =
    let a = c.args in
    λ n. run_in_one_word a.words.now a.from a.count n c.requires.some c.requires.limit c.requires.within (omega arith)
