use Rattle.std.proofs.Common.{◌≡◌, length}
use Rattle.point_views.specs.Polys.{lists_of}
use Rattle.painting.specs.MovesToCome.{piece_moves_left}
use Rattle.painting.proofs.path_moves.PieceMoves.next_move.Given as goal

-- no move was left out
abbrev pub invariant-loop-step : goal.invariant-loop-step
invariant-loop-step l = piece_moves_left l.self ≡ piece_moves_left l.initial.self

abbrev pub decreases-loop-step : goal.decreases-loop-step
decreases-loop-step l = length (lists_of l.self.lists)
