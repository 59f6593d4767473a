use Rattle.std.proofs.Common.{◌≡◌, take, sum}
use Rattle.point_views.specs.Counts.{counts_of}
use Rattle.point_views.proofs.counts.Counts.sum_before.Given as goal

-- the sum so far
abbrev pub invariant-loop-i : goal.invariant-loop-i
invariant-loop-i l = l.before ≡ sum (take l.i (counts_of l.self))
