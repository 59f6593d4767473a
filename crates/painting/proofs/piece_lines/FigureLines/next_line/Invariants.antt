use Rattle.std.proofs.Common.{◌≡◌, length}
use Rattle.painting.specs.MovesToCome.{figure_lines_left, path_moves_left}
use Rattle.painting.proofs.piece_lines.FigureLines.next_line.Given as goal

-- no line was left out
abbrev pub invariant-loop-step : goal.invariant-loop-step
invariant-loop-step l = figure_lines_left l.self ≡ figure_lines_left l.initial.self

abbrev pub decreases-loop-step : goal.decreases-loop-step
decreases-loop-step l = length (path_moves_left l.self.moves)
