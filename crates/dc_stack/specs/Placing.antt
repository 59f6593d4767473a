-- Page points on the plane.
use Rattle.std.specs.Prelude.{List}
use Rattle.mapping.specs.PageMap.{map_numbers}
use Rattle.mapping.specs.declared.geometry.Point.{Point}
use Rattle.mapping.specs.declared.page_map.PageMap.{PageMap}
use Rattle.dc_stack.specs.Drawing.{points_of_lists}
use Rattle.dc_stack.specs.Mapped.{mapped_list, mapped_lists}
use Rattle.dc_stack.specs.Pieces.{page_points, plane_lists}
use Rattle.dc_stack.specs.declared.piece.PiecePoints.{PiecePoints}

-- points of the page, on the plane
abbrev pub plane_list : PageMap → List Point → List Point
plane_list map points = mapped_list (map_numbers map) points

-- the points of several lists of the page, on the plane, list after list
abbrev pub joined_plane_list : PageMap → List (List Point) → List Point
joined_plane_list map lists = points_of_lists (mapped_lists (map_numbers map) lists)

-- the page points of a piece, on the plane; for a box, two corners
abbrev pub mapped_piece : PageMap → PiecePoints → List Point
mapped_piece map points = plane_list map (page_points points)

-- all points of a piece, on the plane; for a box, all four corners
abbrev pub whole_piece : PageMap → PiecePoints → List Point
whole_piece map points = points_of_lists (plane_lists (map_numbers map) points)
