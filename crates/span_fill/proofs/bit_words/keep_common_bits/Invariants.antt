use Rattle.span_fill.proofs.CommonBits.{AreCommonSoFar}
use Rattle.span_fill.proofs.bit_words.keep_common_bits.Given as goal

-- the words so far are done
abbrev pub invariant-loop-at : goal.invariant-loop-at
invariant-loop-at l = AreCommonSoFar l.fn.words l.words l.from l.other l.at
