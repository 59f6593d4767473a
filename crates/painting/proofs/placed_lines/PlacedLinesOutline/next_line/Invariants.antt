use Rattle.std.proofs.Common.{◌≡◌, length}
use Rattle.point_views.specs.Polys.{lists_of}
use Rattle.painting.specs.LinesToCome.{lines_to_come}
use Rattle.painting.proofs.placed_lines.PlacedLinesOutline.next_line.Given as goal

-- no line was left out
abbrev pub invariant-loop-line : goal.invariant-loop-line
invariant-loop-line l = lines_to_come l.self ≡ lines_to_come l.initial.self

abbrev pub decreases-loop-line : goal.decreases-loop-line
decreases-loop-line l = length (lists_of l.self.lists)
