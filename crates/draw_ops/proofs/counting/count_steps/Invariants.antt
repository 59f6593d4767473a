-- What is counted and what is left are the steps that there were, and the fault stays.
use Rattle.std.proofs.Common.{◌≡◌, ◌+◌, length}
use Rattle.draw_ops.proofs.counting.count_steps.Given as goal

abbrev pub invariant-loop-count : goal.invariant-loop-count
invariant-loop-count g l = record {
  steps : l.count + length (g.S.HasContent.content l.source).steps ≡ length (g.S.HasContent.content l.fn.source).steps;
  fault : (g.S.HasContent.content l.source).fault ≡ (g.S.HasContent.content l.fn.source).fault;
}

abbrev pub decreases-loop-count : goal.decreases-loop-count
decreases-loop-count g l = length (g.S.HasContent.content l.source).steps
