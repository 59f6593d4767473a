-- The figures that the pieces of a path define.
use Rattle.std.specs.Prelude.{◌≡◌, true, false, List, [], ◌∷◌, ◌++◌, IsTrue}
use Rattle.std.specs.List.{All, flat_map, list_all}
use Rattle.mapping.specs.PageMap.{map_numbers}
use Rattle.mapping.specs.Plane.{MapNumbers}
use Rattle.mapping.specs.Surface.{Surface, lands_within_limits}
use Rattle.mapping.specs.Boxes.{left_top_of, right_bottom_of}
use Rattle.mapping.specs.declared.geometry.Point.{Point}
use Rattle.point_views.specs.Points.{points_of}
use Rattle.point_views.specs.PartedPoints.{parts_of}
use Rattle.dc_stack.specs.Figures.{Figures, box_corners, no_figures, with_current_done, with_polygons, with_polylines}
use Rattle.dc_stack.specs.Mapped.{mapped_box, mapped_list, mapped_lists, mapped_point}
use Rattle.dc_stack.specs.declared.piece.FigureEnd.{FigureEnd}
use Rattle.dc_stack.specs.declared.piece.FigureEnd.TheVariants.{Open, Ended, Closed}
use Rattle.dc_stack.specs.declared.piece.Verb.{Verb}
use Rattle.dc_stack.specs.declared.piece.Verb.TheVariants.{GoesOn, Polylines, Polygons}
use Rattle.dc_stack.specs.declared.piece.Piece.{Piece}
use Rattle.dc_stack.specs.declared.piece.PiecePoints.{PiecePoints}
use Rattle.dc_stack.specs.declared.piece.PiecePoints.TheVariants.{Point as OnePoint, List as OneList, Lists, Corners}

-- the lists of page points in a piece; for a box, its two corners
abbrev pub page_lists : PiecePoints → List (List Point)
page_lists (OnePoint point) = (point ∷ []) ∷ []
page_lists (OneList points) = points_of points ∷ []
page_lists (Lists parted) = parts_of parted
page_lists (Corners corners) = (left_top_of corners ∷ right_bottom_of corners ∷ []) ∷ []

-- the lists of points of a piece on the plane
abbrev pub plane_lists : MapNumbers → PiecePoints → List (List Point)
plane_lists m (OnePoint point) = (mapped_point m point ∷ []) ∷ []
plane_lists m (OneList points) = mapped_list m (points_of points) ∷ []
plane_lists m (Lists parted) = mapped_lists m (parts_of parted)
plane_lists m (Corners corners) = box_corners (mapped_box m corners) ∷ []

-- the points on the plane are just the page points, mapped: this holds for all pieces but the corners of a box
abbrev pub AreMappedAlone : PiecePoints → Type 0
AreMappedAlone points = (m : MapNumbers) → flat_map (λ list. list) (plane_lists m points) ≡ mapped_list m (flat_map (λ list. list) (page_lists points))

-- the open figure continues through points; if none is open, one begins at the first point
abbrev pub gone_on : List Point → Figures → Figures
gone_on points f = record { done = f.done; current = f.current ++ points }

-- what lists of points add to figures
abbrev pub with_lists : Verb → List (List Point) → Figures → Figures
with_lists GoesOn lists f = gone_on (flat_map (λ list. list) lists) f
with_lists Polylines lists f = with_polylines lists f
with_lists Polygons lists f = with_polygons lists f

-- how the open figure ends after a piece
abbrev pub with_end : FigureEnd → Figures → Figures
with_end Open f = f
with_end Ended f = with_current_done false f
with_end Closed f = with_current_done true f

-- what a piece adds to figures
abbrev pub with_piece : Piece → Figures → Figures
with_piece piece f = with_end piece.end (with_lists piece.verb (plane_lists (map_numbers piece.map) piece.points) f)

-- what several pieces add to figures, in order
abbrev pub with_pieces : List Piece → Figures → Figures
with_pieces [] f = f
with_pieces (piece ∷ pieces) f = with_pieces pieces (with_piece piece f)

-- the figures that pieces define
abbrev pub figures_of : List Piece → Figures
figures_of pieces = with_pieces pieces no_figures

-- the page points of a piece
abbrev pub page_points : PiecePoints → List Point
page_points points = flat_map (λ list. list) (page_lists points)

-- the points of a piece lie on the plane and land on a surface, within the limits
abbrev pub LandsOn : Surface → Piece → Type 0
LandsOn s piece = IsTrue (list_all (λ point. lands_within_limits point s) (mapped_list (map_numbers piece.map) (page_points piece.points)))

-- the points of all pieces lie on the plane and land on a surface, within the limits
abbrev pub AllLandOn : Surface → List Piece → Type 0
AllLandOn s pieces = All (LandsOn s) pieces
