use Rattle.std.proofs.Common.{◌≡◌, ◌≤◌, ◌-◌, drop, length, false}
use Rattle.canvas.specs.PpmReading.{after_gap}
use Rattle.canvas.proofs.reading.gap_end.Given as goal

-- what stands behind the gap from here on is what stands behind the whole of it
abbrev pub invariant-loop-at : goal.invariant-loop-at
invariant-loop-at l = record {
  within : l.at ≤ length l.bytes;
  after : after_gap l.in_comment (drop l.at l.bytes) ≡ after_gap false (drop l.from l.bytes);
}

abbrev pub decreases-loop-at : goal.decreases-loop-at
decreases-loop-at l = length l.bytes - l.at
