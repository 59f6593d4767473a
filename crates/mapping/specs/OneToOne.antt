-- Maps that scale nothing.
use Rattle.std.specs.Prelude.{ℕ, Bool, ◌&&◌, nat_eq}
use Rattle.std.specs.Ordering.{int_eq}
use Rattle.mapping.specs.declared.page_axis.PageAxis.{PageAxis}

-- the window and the viewport have the same extent on an axis
abbrev pub has_same_extents : PageAxis → Bool
has_same_extents axis = int_eq axis.viewport_extent axis.window_extent

-- a unit of the frame is one part, and the extents are the same on both axes, so that a page unit is one part too
abbrev pub maps_one_to_one : ℕ → PageAxis → PageAxis → Bool
maps_one_to_one parts x y = nat_eq parts 1 && (has_same_extents x && has_same_extents y)
