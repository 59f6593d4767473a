use Rattle.std.proofs.Common.{◌≡◌, ℕ, ◌<◌, length, get_or}
use Rattle.painting.proofs.visited_mask.clear.Given as goal

-- the words so far have no bit set
abbrev pub invariant-loop-at : goal.invariant-loop-at
invariant-loop-at l = record {
  long : length l.words ≡ 16384;
  each : (k : ℕ) → k < l.at → get_or l.words k 0 ≡ 0;
}
