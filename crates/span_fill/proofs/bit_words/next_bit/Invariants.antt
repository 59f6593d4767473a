use Rattle.std.proofs.Common.{◌≡◌, ℕ, ◌-◌, ◌<◌, ◌≤◌, not}
use Rattle.span_fill.specs.BitWords.{word_bit}
use Rattle.span_fill.proofs.bit_words.next_bit.Given as goal

-- none of the bits so far is the one that is looked for
abbrev pub invariant-loop-at : goal.invariant-loop-at
invariant-loop-at l = record {
  low : l.from ≤ l.at;
  none_before : (m : ℕ) → l.from ≤ m → m < l.at → m < l.to → word_bit l.words m ≡ not l.bit;
}

abbrev pub decreases-loop-at : goal.decreases-loop-at
decreases-loop-at l = l.to - l.at
