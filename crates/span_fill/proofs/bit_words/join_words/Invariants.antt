use Rattle.std.proofs.Common.{◌≡◌, ℕ, ◌<◌, ◌≤◌, slice_index}
use Rattle.span_fill.specs.BitWords.{joined_word}
use Rattle.span_fill.proofs.bit_words.join_words.Given as goal

-- the words so far are joined, and the others are what they were
abbrev pub invariant-loop-at : goal.invariant-loop-at
invariant-loop-at l = record {
  joined : (k : ℕ) → k < l.at → slice_index l.words k ≡ joined_word l.fn.words l.ahead k;
  others : (k : ℕ) → l.at ≤ k → slice_index l.words k ≡ slice_index l.fn.words k;
}
