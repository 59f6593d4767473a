use Rattle.std.proofs.Common.{◌≡◌, ◌+◌, length}
use Rattle.painting.specs.MovesToCome.{figure_lines_left}
use Rattle.painting.proofs.piece_lines.PieceLinesOutline.count.Given as goal

-- each line is counted or remains
abbrev pub invariant-loop-count : goal.invariant-loop-count
invariant-loop-count l = l.count + length (figure_lines_left l.rest) ≡ length (figure_lines_left l.self.lines)

abbrev pub decreases-loop-count : goal.decreases-loop-count
decreases-loop-count l = length (figure_lines_left l.rest)
