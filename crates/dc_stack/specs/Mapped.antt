-- Points, lists of points and boxes of the page, on the plane.
use Rattle.std.specs.Prelude.{◌+ℤ◌, List, [], ◌∷◌, map}
use Rattle.mapping.specs.declared.geometry.Point.{Point}
use Rattle.mapping.specs.declared.geometry.Rect.{Rect}
use Rattle.mapping.specs.Plane.{MapNumbers, plane_point}
use Rattle.draw_ops.specs.Blits.{BlitValue}
use Rattle.mapping.specs.Boxes.{box_between, left_top_of, right_bottom_of}

-- a point of the page, on the plane
abbrev pub mapped_point : MapNumbers → Point → Point
mapped_point m point = plane_point m point.x point.y

-- points of the page, on the plane
abbrev pub mapped_list : MapNumbers → List Point → List Point
mapped_list m points = map (mapped_point m) points

-- lists of points of the page, on the plane
abbrev pub mapped_lists : MapNumbers → List (List Point) → List (List Point)
mapped_lists m lists = map (mapped_list m) lists

-- the top left corner of a box of the page, on the plane
abbrev pub left_top : MapNumbers → Rect → Point
left_top m box = mapped_point m (left_top_of box)

-- the bottom right corner of a box of the page, on the plane
abbrev pub right_bottom : MapNumbers → Rect → Point
right_bottom m box = mapped_point m (right_bottom_of box)

-- a box of the page, on the plane; a flipped axis exchanges its edges
abbrev pub mapped_box : MapNumbers → Rect → Rect
mapped_box m box = box_between (left_top m box) (right_bottom m box)

-- the corners of a box of the page, on the plane
abbrev pub mapped_corners : MapNumbers → Rect → List Point
mapped_corners m box = left_top m box ∷ right_bottom m box ∷ []

-- the corner of a blit's box of the page opposite to the one from which it extends
abbrev pub opposite_corner : BlitValue → Point
opposite_corner asked = record { x = asked.corner.x +ℤ asked.extent.x; y = asked.corner.y +ℤ asked.extent.y }

-- the opposite corner of a blit's box, on the plane
abbrev pub mapped_opposite : MapNumbers → BlitValue → Point
mapped_opposite m asked = mapped_point m (opposite_corner asked)

-- the corners of a blit's box, on the plane
abbrev pub blit_corners : MapNumbers → BlitValue → List Point
blit_corners m asked = mapped_point m asked.corner ∷ mapped_opposite m asked ∷ []
