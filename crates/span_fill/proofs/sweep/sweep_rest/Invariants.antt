-- What is still to come follows what is there.
use Rattle.std.proofs.Common.{◌≡◌, ◌+◌, ◌-◌, ◌≤◌, ◌++◌, drop}
use Rattle.smallvec.specs.SmallVec.{small_vec_len}
use Rattle.span_fill.specs.Sweep.{swept}
use Rattle.span_fill.proofs.sweep.sweep_rest.Given as goal

abbrev pub invariant-loop-next : goal.invariant-loop-next
invariant-loop-next l = record {
  spans : l.spans.items ++ swept l.rule l.rest.to (drop l.next l.edges) l.at l.downs l.ups l.run ≡ l.initial.spans.items ++ swept l.rule l.rest.to (drop l.place l.edges) l.rest.from 0 0 l.fn.begun;
  counts : l.downs + l.ups ≤ l.next;
  length : small_vec_len l.spans ≤ small_vec_len l.initial.spans + (l.next - l.place);
  capacity : l.spans.capacity ≡ l.initial.spans.capacity;
}
