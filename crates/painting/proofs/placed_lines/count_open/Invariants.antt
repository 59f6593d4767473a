use Rattle.std.proofs.Common.{◌≡◌, ◌+◌, length}
use Rattle.point_views.specs.Polys.{lists_of}
use Rattle.dc_stack.specs.Drawing.{points_of_lists}
use Rattle.preflight_cert.specs.Outlines.{open_lines_of}
use Rattle.painting.proofs.placed_lines.count_open.Given as goal

-- what is counted beyond the lines are the points of the remaining lists, minus their lines
abbrev pub invariant-loop-points : goal.invariant-loop-points
invariant-loop-points l =
    l.count + length (open_lines_of (lists_of l.rest)) ≡ length (open_lines_of (lists_of l.lists)) + length (points_of_lists (lists_of l.rest))

abbrev pub decreases-loop-points : goal.decreases-loop-points
decreases-loop-points l = length (lists_of l.rest)
