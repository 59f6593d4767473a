use Rattle.std.proofs.Common.{◌≡◌, length}
use Rattle.painting.specs.MovesToCome.{path_moves_left}
use Rattle.painting.proofs.path_moves.PathMoves.next_move.Given as goal

-- no move was left out
abbrev pub invariant-loop-step : goal.invariant-loop-step
invariant-loop-step l = path_moves_left l.self ≡ path_moves_left l.initial.self

abbrev pub decreases-loop-step : goal.decreases-loop-step
decreases-loop-step l = length l.self.pieces.now
