use Rattle.std.proofs.Common.{◌≡◌, ◌+◌, take, sum}
use Rattle.point_views.specs.Counts.{counts_of}
use Rattle.point_views.proofs.counts.Counts.sum_within.Given as goal

-- the counts so far and what is left are the most
abbrev pub invariant-loop-i : goal.invariant-loop-i
invariant-loop-i l = sum (take l.i (counts_of l.self)) + l.left ≡ l.most
