use Rattle.std.proofs.Common.{length}
use Rattle.painting.proofs.VisitingLemmas.{HasVisited}
use Rattle.painting.proofs.visiting.visit_lines.Given as goal

-- the lines before the remaining ones are stroked and marked
abbrev pub invariant-loop-line : goal.invariant-loop-line
invariant-loop-line g l =
    HasVisited l.mix (g.O.Outline.lines l.fn.outline) (g.O.Outline.lines l.lines) l.fn.visited.region l.visited l.fn.canvas l.canvas

abbrev pub decreases-loop-line : goal.decreases-loop-line
decreases-loop-line g l = length (g.O.Outline.lines l.lines)
