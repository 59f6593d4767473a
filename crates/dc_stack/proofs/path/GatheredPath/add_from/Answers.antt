use Rattle.std.proofs.Common.{◌≡◌, ◌+◌, List, [], ◌∷◌, ◌++◌, length, None, Some, nat_le, rules, true, inl, ap, subst, sym, ◌∙◌}
use Rattle.std.specs.Option.{option_map}
use Rattle.draw_ops.specs.declared.fault.Fault.TheVariants.{Record}
use Rattle.dc_stack.specs.Extents.{IsExtent}
use Rattle.mapping.specs.PageMap.{map_numbers}
use Rattle.mapping.specs.PlaceOf.{surface_of}
use Rattle.dc_stack.specs.Drawing.{points_of_lists}
use Rattle.dc_stack.specs.GatheredPath.{gathered_points, open_piece}
use Rattle.dc_stack.specs.Mapped.{mapped_list, mapped_point}
use Rattle.dc_stack.specs.Path.{piece_limit}
use Rattle.dc_stack.specs.Pieces.{page_points, plane_lists}
use Rattle.dc_stack.specs.declared.piece.Verb.TheVariants.{GoesOn}
use Rattle.dc_stack.specs.declared.piece.Piece.{Piece}
use Rattle.dc_stack.specs.declared.piece.PiecePoints.TheVariants.{Point as OnePoint}
use Rattle.dc_stack.proofs.GatheringLemmas.{few_then, lands_with}
use Rattle.dc_stack.proofs.LandingLemmas.{first_point_off, others_off}
use Rattle.dc_stack.proofs.path.GatheredPath.add_from.Goals as goal

pub returns-in-Err-clause-answer : goal.returns-in-Err-clause-answer
returns-in-Err-clause-answer c =
    let map = map_numbers c.args.by.now.map in
    let s = surface_of c.args.by.now.place in
    let start = mapped_point map c.args.position in
    let through = mapped_list map (page_points c.args.points) in
    let few : nat_le (length c.args.self.now.pieces.items + 2) piece_limit ≡ true = search rules in
    inl (ap (option_map Record) (few_then (length c.args.self.now.pieces.items + 2) (start ∷ through) s few ∙ sym (first_point_off s start through c.in-Err.fault c.in-Err.ensures.fault)))

pub returns-in-Err-land_piece-clause-answer : goal.returns-in-Err-land_piece-clause-answer
returns-in-Err-land_piece-clause-answer c =
    let map = map_numbers c.args.by.now.map in
    let s = surface_of c.args.by.now.place in
    let start = mapped_point map c.args.position in
    let through = mapped_list map (page_points c.args.points) in
    let few : nat_le (length c.args.self.now.pieces.items + 2) piece_limit ≡ true = search rules in
    inl (ap (option_map Record) (few_then (length c.args.self.now.pieces.items + 2) (start ∷ through) s few ∙ sym (others_off s start through (Some c.in-Err-land_piece.fault) c.in-Ok.ensures.fault c.in-Err-land_piece.ensures.fault)))

pub returns-in-Ok-ensure_capacity-clause-answer : goal.returns-in-Ok-ensure_capacity-clause-answer
returns-in-Ok-ensure_capacity-clause-answer c =
    let map = map_numbers c.args.by.now.map in
    let s = surface_of c.args.by.now.place in
    let start = mapped_point map c.args.position in
    let through = mapped_list map (page_points c.args.points) in
    let few : nat_le (length c.args.self.now.pieces.items + 2) piece_limit ≡ true = search rules in
    record {
      no_fault = few_then (length c.args.self.now.pieces.items + 2) (start ∷ through) s few ∙ sym (others_off s start through None c.in-Ok.ensures.fault c.in-Ok-land_piece.ensures.fault);
      extent = c.joined.ensures (start ∷ []) through c.in-Ok.ensures.page c.in-Ok-land_piece.ensures.page;
    }

pub returns-in-Ok-ensure_capacity-clause-lands : goal.returns-in-Ok-ensure_capacity-clause-lands
returns-in-Ok-ensure_capacity-clause-lands c = λ h.
    let s = surface_of c.args.by.now.place in
    let map = map_numbers c.args.by.now.map in
    let old = c.args.self.now in
    let first = open_piece (OnePoint c.args.position) c.args.by.now.map GoesOn in
    let second = open_piece c.args.points c.args.by.now.map GoesOn in
    let between = c.push.new.self in
    let new = c.push-in-Ok-ensure_capacity.new.self in
    let first_items = c.push.ensures.pieces ∙ ap (λ (pieces : List Piece). pieces ++ first ∷ []) c.in-Ok-ensure_capacity.ensures.same.pieces in
    let gathered = gathered_points old.pieces.items in
    let first_added = points_of_lists (plane_lists map first.points) in
    let first_grows = λ (h : IsExtent old.bounds gathered). subst (λ box. IsExtent box (gathered ++ first_added)) (sym c.push.ensures.bounds) (c.joined-begun.ensures gathered first_added (subst (λ box. IsExtent box gathered) (sym c.in-Ok-ensure_capacity.ensures.same.bounds) h) c.in-Ok.ensures.plane) in
    let one = lands_with s old between first first_items first_grows c.in-Ok.ensures.fault h in
    let after = gathered_points between.pieces.items in
    let added = points_of_lists (plane_lists map second.points) in
    let second_grows = λ (h : IsExtent between.bounds after). subst (λ box. IsExtent box (after ++ added)) (sym c.push-in-Ok-ensure_capacity.ensures.bounds) (c.joined-bounds.ensures after added (subst (λ box. IsExtent box after) c.push.ensures.bounds h) c.in-Ok-land_piece.ensures.plane) in
    lands_with s between new second c.push-in-Ok-ensure_capacity.ensures.pieces second_grows c.in-Ok-land_piece.ensures.fault one
