use Rattle.std.proofs.Common.{◌-◌, ◌++◌, List, length, take, drop, ap, sym, ◌∙◌}
use Rattle.mapping.specs.PlaceOf.{surface_of}
use Rattle.painting.specs.Moves.{moves_of_pieces}
use Rattle.painting.specs.declared.moves.Move.{Move}
use Rattle.painting.proofs.PieceLemmas.{first_and_others, other_pieces_land}
use Rattle.painting.proofs.path_moves.PathMoves.next_move.Goals as goal

pub invariant_of-self-in-loop-step : goal.invariant_of-self-in-loop-step
invariant_of-self-in-loop-step c =
    let path = c.loop-step.self in
    let pieces = path.pieces.now in
    let rest = take (length pieces - 1) (drop 1 pieces) in
    let whole = first_and_others pieces c.piece-item.result c.in-len1-up.len_at_least c.piece-item.is in
    record { land = other_pieces_land (surface_of path.place) c.piece-item.result rest pieces whole path.land }

pub loop-step-preserved : goal.loop-step-preserved
loop-step-preserved c =
    let path = c.loop-step.self in
    let s = surface_of path.place in
    let pieces = path.pieces.now in
    let rest = take (length pieces - 1) (drop 1 pieces) in
    let whole = first_and_others pieces c.piece-item.result c.in-len1-up.len_at_least c.piece-item.is in
    let h = c.in_default.ensures {u = tt} in
    ap (λ (moves : List Move). moves ++ moves_of_pieces s rest) c.new.ensures
    ∙ ap (moves_of_pieces s) (sym whole)
    ∙ ap (λ (moves : List Move). moves ++ moves_of_pieces s pieces) (sym h.next.0)
    ∙ c.loop-step.invariant
