-- Bounding boxes of points, and how maps of each axis change them.
use Rattle.std.specs.Prelude.{◌≡◌, ◌⊎◌, pos, negsuc, ℤ, ◌≤ℤ◌, Bool, ◌&&◌, int_le, List, [], ◌∷◌}
use Rattle.std.specs.Int.{int_max, int_min}
use Rattle.std.specs.List.{All, Any}
use Rattle.mapping.specs.declared.geometry.Point.{Point}
use Rattle.mapping.specs.declared.geometry.Rect.{Rect}

-- a box contains a point; right and bottom are inclusive
pub record HasPoint (box : Rect) (point : Point) : Type 0 where
  pub left : box.l ≤ℤ point.x
  pub top : box.t ≤ℤ point.y
  pub right : point.x ≤ℤ box.r
  pub bottom : point.y ≤ℤ box.b

-- a box contains all points, and each of its edges touches one of them
pub record IsTight (box : Rect) (points : List Point) : Type 0 where
  pub all : All (HasPoint box) points
  pub left : Any (λ point. point.x ≡ box.l) points
  pub top : Any (λ point. point.y ≡ box.t) points
  pub right : Any (λ point. point.x ≡ box.r) points
  pub bottom : Any (λ point. point.y ≡ box.b) points

-- the bounding box of no points
abbrev pub no_box : Rect
no_box = record { l = pos 0; t = pos 0; r = negsuc 0; b = negsuc 0 }

-- the bounding box of some points
abbrev pub IsBoundingBox : Rect → List Point → Type 0
IsBoundingBox box [] = box ≡ no_box
IsBoundingBox box (point ∷ points) = IsTight box (point ∷ points)

-- v lies between two coordinates, in any order
abbrev pub IsBetween : ℤ → ℤ → ℤ → Type 0
IsBetween from v to = (from ≤ℤ v × v ≤ℤ to) ⊎ (to ≤ℤ v × v ≤ℤ from)

-- what lies between two coordinates is mapped between their images
abbrev pub KeepsBetween : (ℤ → ℤ) → Type 0
KeepsBetween f = (from v to : ℤ) → IsBetween from v to → IsBetween (f from) (f v) (f to)

-- a point, mapped separately on each axis
abbrev pub mapped_by : (ℤ → ℤ) → (ℤ → ℤ) → Point → Point
mapped_by f g point = record { x = f point.x; y = g point.y }

-- the box between two points, in any order
abbrev pub box_between : Point → Point → Rect
box_between p q = record { l = int_min p.x q.x; t = int_min p.y q.y; r = int_max p.x q.x; b = int_max p.y q.y }

-- two corners of a box: the top left and the bottom right
abbrev pub left_top_of : Rect → Point
left_top_of box = record { x = box.l; y = box.t }

abbrev pub right_bottom_of : Rect → Point
right_bottom_of box = record { x = box.r; y = box.b }

-- the intersection of two boxes; if they have nothing in common, its edges are out of order
abbrev pub common_box : Rect → Rect → Rect
common_box first second = record {
  l = int_max first.l second.l;
  t = int_max first.t second.t;
  r = int_min first.r second.r;
  b = int_min first.b second.b;
}

-- the interval between the first two numbers contains the interval from `low` to `high`
abbrev pub has_part : ℤ → ℤ → ℤ → ℤ → Bool
has_part from to low high = int_le from low && int_le high to

-- a box contains another; right and bottom are inclusive for both
abbrev pub has_box : Rect → Rect → Bool
has_box outer inner = has_part outer.l outer.r inner.l inner.r && has_part outer.t outer.b inner.t inner.b

-- a box, mapped separately on each axis, with its edges put in order
abbrev pub mapped_box_by : (ℤ → ℤ) → (ℤ → ℤ) → Rect → Rect
mapped_box_by f g box = box_between (mapped_by f g (left_top_of box)) (mapped_by f g (right_bottom_of box))

-- the box of one point
abbrev pub point_box : Point → Rect
point_box point = record { l = point.x; t = point.y; r = point.x; b = point.y }

-- a box is the bounding box of two others
pub record IsBoxOver (first second both : Rect) : Type 0 where
  pub left : both.l ≡ int_min first.l second.l
  pub top : both.t ≡ int_min first.t second.t
  pub right : both.r ≡ int_max first.r second.r
  pub bottom : both.b ≡ int_max first.b second.b
