use Rattle.std.proofs.Common.{List, [], ◌∷◌, ◌++◌, ap, subst, sym, ◌∙◌}
use Rattle.dc_stack.specs.Extents.{IsExtent}
use Rattle.mapping.specs.PageMap.{map_numbers}
use Rattle.mapping.specs.PlaceOf.{surface_of}
use Rattle.dc_stack.specs.Drawing.{points_of_lists}
use Rattle.dc_stack.specs.GatheredPath.{gathered_points, open_piece}
use Rattle.dc_stack.specs.Pieces.{plane_lists}
use Rattle.dc_stack.specs.declared.piece.Piece.{Piece}
use Rattle.dc_stack.proofs.GatheringLemmas.{lands_with}
use Rattle.dc_stack.proofs.path.GatheredPath.add.Goals as goal

pub returns-in-Ok-ensure_capacity-clause-lands : goal.returns-in-Ok-ensure_capacity-clause-lands
returns-in-Ok-ensure_capacity-clause-lands c =
    let s = surface_of c.args.by.now.place in
    let piece = open_piece c.args.points c.args.by.now.map c.args.verb in
    let before = c.args.self.now in
    let new = c.push.new.self in
    let items = c.push.ensures.pieces ∙ ap (λ (pieces : List Piece). pieces ++ piece ∷ []) c.in-Ok-ensure_capacity.ensures.same.pieces in
    let gathered = gathered_points before.pieces.items in
    let added = points_of_lists (plane_lists (map_numbers piece.map) piece.points) in
    let grows = λ (h : IsExtent before.bounds gathered). subst (λ box. IsExtent box (gathered ++ added)) (sym c.push.ensures.bounds) (c.joined-bounds.ensures gathered added (subst (λ box. IsExtent box gathered) (sym c.in-Ok-ensure_capacity.ensures.same.bounds) h) c.in-Ok.ensures.plane) in
    lands_with s before new piece items grows c.in-Ok.ensures.fault
