-- The counts before the index are added, and the others as they were.
use Rattle.std.proofs.Common.{◌≡◌}
use Rattle.draw_ops.proofs.NoteLemmas.{added_prefix}
use Rattle.draw_ops.proofs.notes.Notes.plus.Given as goal

abbrev pub invariant-loop-i : goal.invariant-loop-i
invariant-loop-i l = l.counts ≡ added_prefix l.i l.fn.self.counts l.fn.other.counts
