-- What is still to come follows what is there.
use Rattle.std.proofs.Common.{◌≡◌, ◌≤◌, ◌++◌, drop}
use Rattle.smallvec.specs.SmallVec.{small_vec_len}
use Rattle.span_fill.specs.Joining.{joined}
use Rattle.span_fill.proofs.joining.join.Given as goal

abbrev pub invariant-loop-part : goal.invariant-loop-part
invariant-loop-part l = record {
  spans : l.spans.items ++ joined l.interval.to (drop l.part-index l.parts) l.run ≡ joined l.interval.to l.parts l.initial.run;
  length : small_vec_len l.spans ≤ l.part-index;
  capacity : l.spans.capacity ≡ l.initial.spans.capacity;
}
