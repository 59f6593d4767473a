-- The value of a step's drawing.
use Rattle.std.specs.Prelude.{◌≡◌, ◌≤◌, Bool, true, false, [], ◌∷◌, IsTrue, List, Option, Some, None}
use Rattle.std.specs.List.{list_all}
use Rattle.mapping.specs.Boxes.{IsBoundingBox}
use Rattle.mapping.specs.PageMap.{map_numbers}
use Rattle.mapping.specs.Surface.{Surface, lands_within_limits}
use Rattle.mapping.specs.declared.geometry.Point.{Point}
use Rattle.mapping.specs.declared.page_map.PageMap.{PageMap}
use Rattle.point_views.specs.Points.{points_of}
use Rattle.point_views.specs.Polys.{lists_of}
use Rattle.point_views.specs.declared.points.Points.{Points}
use Rattle.point_views.specs.declared.polys.Polys.{Polys}
use Rattle.draw_ops.specs.Blits.{source_of}
use Rattle.raster_ops.specs.Sources.{is_readable}
use Rattle.raster_ops.specs.TernaryOps.{uses_source}
use Rattle.dc_stack.specs.Drawing.{MarkValue, blit_between, dot, edge_limit, figures_painted, lists_painted, mark_edges, mark_points, paints_lines, rectangle_between}
use Rattle.dc_stack.specs.Figures.{Figure, all_figures, figures_of_lists}
use Rattle.dc_stack.specs.Mapped.{mapped_list, mapped_lists}
use Rattle.dc_stack.specs.Pieces.{AllLandOn, figures_of}
use Rattle.dc_stack.specs.declared.draw.Draw.{Draw}
use Rattle.dc_stack.specs.declared.draw.FigurePoints.{FigurePoints}
use Rattle.dc_stack.specs.declared.draw.FigurePoints.TheVariants.{Lists, Path, Through}
use Rattle.dc_stack.specs.declared.draw.Mark.{Mark}
use Rattle.dc_stack.specs.declared.draw.Mark.TheVariants.{Blit, Dot, Figures, Line, Rectangle}
use Rattle.dc_stack.specs.declared.draw.Painting.TheVariants.{Stroke}
use Rattle.dc_stack.specs.declared.piece.Piece.{Piece}

-- the points of a list of the page, on the plane
abbrev pub points_on_plane : PageMap → Points → List Point
points_on_plane map points = mapped_list (map_numbers map) (points_of points)

-- the points of several lists of the page, on the plane
abbrev pub lists_on_plane : PageMap → Polys → List (List Point)
lists_on_plane map lists = mapped_lists (map_numbers map) (lists_of lists)

-- the figures of points on the plane, with these pieces of a path
abbrev pub figures_drawn : List Piece → FigurePoints → List Figure
figures_drawn pieces (Through from points map) = figures_of_lists ((from ∷ points_on_plane map points) ∷ [])
figures_drawn pieces (Lists lists map) = figures_of_lists (lists_on_plane map lists)
figures_drawn pieces Path = all_figures (figures_of pieces)

-- the value of a mark, with these pieces of a path
abbrev pub mark_value_of : List Piece → Mark → MarkValue
mark_value_of pieces (Dot at colour) = dot at colour
mark_value_of pieces (Line from to) = lists_painted Stroke ((from ∷ to ∷ []) ∷ [])
mark_value_of pieces (Figures painting points) = figures_painted painting (figures_drawn pieces points)
mark_value_of pieces (Rectangle first second edges) = rectangle_between first second edges
mark_value_of pieces (Blit blit) = blit_between blit.first blit.second blit.operation.table (source_of blit.source)

-- the value of a drawing's mark, with these pieces of a path
abbrev pub mark_of : List Piece → Draw → MarkValue
mark_of pieces draw = mark_value_of pieces draw.mark

-- the pieces of the path, if the figures use them, land on this surface
abbrev pub BorrowsLanded : Surface → List Piece → FigurePoints → Type 0
BorrowsLanded s pieces (Through from points map) = Unit
BorrowsLanded s pieces (Lists lists map) = Unit
BorrowsLanded s pieces Path = AllLandOn s pieces

-- the pieces of the path, if the mark uses them, land on this surface; and if a blit's operation depends on its source,
-- the source is readable
abbrev pub IsReady : Surface → List Piece → Mark → Type 0
IsReady s pieces (Dot at colour) = Unit
IsReady s pieces (Line from to) = Unit
IsReady s pieces (Figures painting points) = BorrowsLanded s pieces points
IsReady s pieces (Rectangle first second edges) = Unit
IsReady s pieces (Blit blit) = uses_source blit.operation.table ≡ true → is_readable (source_of blit.source) ≡ true

-- a drawing's mark is ready, its points are counted, its box is their bounding box on the plane, all its points land
-- within the limits, and it has at most as many as allowed
pub record IsPlacedDraw (s : Surface) (pieces : List Piece) (draw : Draw) : Type 0 where
  pub ready : IsReady s pieces draw.mark
  pub counted : draw.edges ≡ mark_edges (mark_of pieces draw)
  pub least : IsBoundingBox draw.bounds (mark_points (mark_of pieces draw))
  pub within : IsTrue (list_all (λ point. lands_within_limits point s) (mark_points (mark_of pieces draw)))
  pub few : mark_edges (mark_of pieces draw) ≤ edge_limit

-- the figures are those of a path
abbrev pub is_of_path : FigurePoints → Bool
is_of_path (Through from points map) = false
is_of_path (Lists lists map) = false
is_of_path Path = true

-- the mark is that of a path
abbrev pub borrows_path : Mark → Bool
borrows_path (Dot at colour) = false
borrows_path (Line from to) = false
borrows_path (Figures painting points) = is_of_path points
borrows_path (Rectangle first second edges) = false
borrows_path (Blit blit) = false

-- a mark is stroked
abbrev pub strokes : Mark → Bool
strokes (Dot at colour) = false
strokes (Line from to) = true
strokes (Figures painting points) = paints_lines painting
strokes (Rectangle first second edges) = true
strokes (Blit blit) = false

-- a path is painted
abbrev pub paints_path : Option Draw → Bool
paints_path None = false
paints_path (Some draw) = borrows_path draw.mark
