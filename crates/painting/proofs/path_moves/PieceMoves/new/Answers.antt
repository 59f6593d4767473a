use Rattle.std.proofs.Common.{◌∷◌, ◌++◌, List, [], ap, refl, subst, sym, ◌∙◌, map}
use Rattle.mapping.specs.PlacingLaws.{PlacingLaws}
use Rattle.mapping.specs.declared.geometry.Point.{Point}
use Rattle.point_views.specs.Polys.{lists_of}
use Rattle.dc_stack.specs.declared.projection.Projection.{Projection}
use Rattle.painting.specs.Moves.{moves_of_list, moves_of_lists}
use Rattle.painting.specs.PieceParts.{placed_part}
use Rattle.painting.specs.PlacedLines.{AllListsLand, projected_list}
use Rattle.painting.specs.declared.moves.Move.{Move}
use Rattle.painting.specs.declared.moves.Move.TheVariants.{End}
use Rattle.painting.proofs.PieceLemmas.{in_parts, page_part_lands, piece_lands}
use Rattle.painting.proofs.path_moves.PieceMoves.new.Goals as goal

pub place_part-first-requires : goal.place_part-first-requires
place_part-first-requires c =
    let by : Projection = record { map = c.args.piece.map; place = c.args.place } in
    piece_lands by c.args.piece refl c.requires

pub invariant_of-result : goal.invariant_of-result
invariant_of-result c =
    let by : Projection = record { map = c.args.piece.map; place = c.args.place } in
    let land = page_part_lands by c.args.piece.points (piece_lands by c.args.piece refl c.requires) in
    record { land = subst (AllListsLand by) (sym c.lists_to_place.ensures) land }

pub returns : goal.returns
returns c =
    let by : Projection = record { map = c.args.piece.map; place = c.args.place } in
    let verb = c.args.piece.verb in
    let end : List Move = End c.args.piece.end ∷ [] in
    let laws : PlacingLaws = c.placing_law.ensures in
    let points = c.args.piece.points in
    let after : List (List Point) → List Move = λ lists. moves_of_lists verb (map (projected_list by) lists) ++ end in
    ap (λ (moves : List Move). moves ++ after (lists_of c.lists_to_place.result)) c.new.ensures
    ∙ ap (λ (first : List Point). moves_of_list verb first ++ after (lists_of c.lists_to_place.result)) c.place_part-first.ensures
    ∙ ap (λ (lists : List (List Point)). moves_of_list verb (placed_part by points) ++ after lists) c.lists_to_place.ensures
    ∙ in_parts by laws verb points end
