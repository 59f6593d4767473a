use Rattle.std.proofs.Common.{arith}
use Rattle.span_fill.proofs.CommonBits.{common_with_one_more}
use Rattle.span_fill.proofs.bit_words.keep_common_bits.Goals as goal

pub loop-at-preserved : goal.loop-at-preserved
loop-at-preserved c =
    let a = c.args in
    common_with_one_more a.words.now c.loop-at.words a.from a.other c.loop-at.at a.count c.loop-at.invariant (omega arith) (omega arith) c.requires.apart
