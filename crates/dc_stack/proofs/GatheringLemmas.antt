-- Pieces that are added land, and the box grows with them.
use Rattle.std.proofs.Common.{◌≡◌, ℕ, nat_le, true, List, [], ◌∷◌, ◌++◌, None, refl, ap, subst, sym, ◌∙◌}
use Rattle.std.proofs.lemmas.List.Elements.{All-append, All-cons, All-nil}
use Rattle.mapping.specs.PageMap.{map_numbers}
use Rattle.mapping.specs.Surface.{Surface}
use Rattle.mapping.specs.declared.geometry.Point.{Point}
use Rattle.dc_stack.specs.Drawing.{points_of_lists}
use Rattle.dc_stack.specs.Extents.{IsExtent}
use Rattle.dc_stack.specs.GatheredPath.{LandsInside, gathered_points}
use Rattle.dc_stack.specs.Mapped.{mapped_list}
use Rattle.dc_stack.specs.OperationFault.{addition_fault, off_plane_fault}
use Rattle.dc_stack.specs.Path.{piece_limit}
use Rattle.dc_stack.specs.Pieces.{AllLandOn, LandsOn, page_points, plane_lists}
use Rattle.dc_stack.specs.declared.path.GatheredPath.{GatheredPath}
use Rattle.dc_stack.specs.declared.piece.Piece.{Piece}
use Rattle.dc_stack.proofs.FigureLemmas.{points_after}
use Rattle.dc_stack.proofs.LandingLemmas.{all_land}

-- pieces land where one more that has no fault is added
pieces_land : (s : Surface) (pieces : List Piece) (piece : Piece) → None ≡ off_plane_fault (mapped_list (map_numbers piece.map) (page_points piece.points)) s → AllLandOn s pieces → AllLandOn s (pieces ++ piece ∷ [])
pieces_land s pieces piece none h =
    All-append (LandsOn s) pieces (piece ∷ []) h
    (All-cons (LandsOn s) piece [] (all_land s (mapped_list (map_numbers piece.map) (page_points piece.points)) none) (All-nil (LandsOn s)))

-- so a path with one piece more lands, and has the least box around all its points
pub lands_with : (s : Surface) (old new : GatheredPath) (piece : Piece) → new.pieces.items ≡ old.pieces.items ++ piece ∷ [] → (IsExtent old.bounds (gathered_points old.pieces.items) → IsExtent new.bounds (gathered_points old.pieces.items ++ points_of_lists (plane_lists (map_numbers piece.map) piece.points))) → None ≡ off_plane_fault (mapped_list (map_numbers piece.map) (page_points piece.points)) s → LandsInside s old → LandsInside s new
lands_with s old new piece items grows none h = record {
  pieces = subst (AllLandOn s) (sym items) (pieces_land s old.pieces.items piece none h.pieces);
  least = subst (IsExtent new.bounds) (sym (ap gathered_points items ∙ points_after old.pieces.items piece)) (grows h.least);
}

-- where there are few pieces, the fault of an addition is that of its points
pub few_then : (count : ℕ) (points : List Point) (s : Surface) → nat_le count piece_limit ≡ true → addition_fault count points s ≡ off_plane_fault points s
few_then count points s few = rw few refl
