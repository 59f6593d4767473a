-- The figures of a path, and how records add to them ([MS-EMF] 2.3.10).
use Rattle.std.specs.Prelude.{Bool, true, false, List, [], ◌∷◌, ◌++◌, map}
use Rattle.std.specs.List.{flat_map}
use Rattle.mapping.specs.declared.geometry.Point.{Point}
use Rattle.mapping.specs.declared.geometry.Rect.{Rect}

-- a figure: its points on the plane, and whether it is closed by a line from its last point to its first
pub record Figure : Type 0 where
  pub points : List Point
  pub is_closed : Bool

-- the finished figures, the oldest first, and the points of the open figure, which is the newest; no points if none is
-- open
pub record Figures : Type 0 where
  pub done : List Figure
  pub current : List Point

abbrev pub no_figures : Figures
no_figures = record { done = []; current = [] }

-- a figure of some points, if there are any
abbrev pub figure_of : Bool → List Point → List Figure
figure_of is_closed [] = []
figure_of is_closed (p ∷ ps) = record { points = p ∷ ps; is_closed = is_closed } ∷ []

-- the open figure is finished, and its last point may be joined to its first
abbrev pub with_current_done : Bool → Figures → Figures
with_current_done is_closed f = record { done = f.done ++ figure_of is_closed f.current; current = [] }

-- all figures; the open one isn't closed
abbrev pub all_figures : Figures → List Figure
all_figures f = f.done ++ figure_of false f.current

-- the points that are added to the open figure by lines from the current position through others: the position too, if
-- no figure is open
abbrev pub points_gone_on : Point → List Point → List Point → List Point
points_gone_on position current [] = []
points_gone_on position [] (p ∷ ps) = position ∷ p ∷ ps
points_gone_on position (q ∷ qs) (p ∷ ps) = p ∷ ps

-- lines continue the open figure, or begin one at the current position
abbrev pub with_lines : Point → List Point → Figures → Figures
with_lines position points f = record { done = f.done; current = f.current ++ points_gone_on position f.current points }

-- lines through the points of a list are a separate figure, which stays open; without a point nothing changes
abbrev pub with_polyline : List Point → Figures → Figures
with_polyline [] f = f
with_polyline (p ∷ ps) f = record { done = all_figures f; current = p ∷ ps }

-- a polygon is a separate closed figure; without a point nothing changes
abbrev pub with_polygon : List Point → Figures → Figures
with_polygon [] f = f
with_polygon (p ∷ ps) f = record { done = all_figures f ++ figure_of true (p ∷ ps); current = [] }

-- each list is a separate figure, in order
abbrev pub with_polylines : List (List Point) → Figures → Figures
with_polylines [] f = f
with_polylines (list ∷ lists) f = with_polylines lists (with_polyline list f)

abbrev pub with_polygons : List (List Point) → Figures → Figures
with_polygons [] f = f
with_polygons (list ∷ lists) f = with_polygons lists (with_polygon list f)

-- the corners of a box, clockwise from the top left
abbrev pub box_corners : Rect → List Point
box_corners box =
    record { x = box.l; y = box.t } ∷ record { x = box.r; y = box.t } ∷ record { x = box.r; y = box.b } ∷ record { x = box.l; y = box.b } ∷ []

-- lists of points, each an open figure
abbrev pub figures_of_lists : List (List Point) → List Figure
figures_of_lists lists = map (λ (points : List Point). record { points = points; is_closed = false }) lists

-- all points of some figures
abbrev pub points_of_figures : List Figure → List Point
points_of_figures figures = flat_map (λ (figure : Figure). figure.points) figures
