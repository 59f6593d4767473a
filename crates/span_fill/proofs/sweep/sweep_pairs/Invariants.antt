-- What is still to come follows what is there, as if it were the first.
use Rattle.std.proofs.Common.{◌≡◌, ◌+◌, ◌-◌, ◌≤◌, ◌++◌, drop, length}
use Rattle.smallvec.specs.SmallVec.{small_vec_len}
use Rattle.span_fill.specs.Sweep.{swept, swept_within}
use Rattle.span_fill.proofs.sweep.sweep_pairs.Given as goal

abbrev pub invariant-loop-from : goal.invariant-loop-from
invariant-loop-from l = record {
  spans : l.spans.items ++ swept l.rule l.interval.to (drop l.place l.edges) l.at 0 0 l.run ≡ l.initial.spans.items ++ swept_within l.rule l.edges l.interval;
  within : l.place ≤ length l.edges;
  length : small_vec_len l.spans ≤ small_vec_len l.initial.spans + l.place;
  capacity : l.spans.capacity ≡ l.initial.spans.capacity;
}

abbrev pub decreases-loop-from : goal.decreases-loop-from
decreases-loop-from l = length l.edges - l.place
