-- Projections of page points to a surface.
use Rattle.std.specs.Prelude.{Bool}
use Rattle.mapping.specs.PageMap.{map_numbers}
use Rattle.mapping.specs.PlaceOf.{surface_of}
use Rattle.mapping.specs.Surface.{lands_within_limits, placed_point}
use Rattle.mapping.specs.declared.geometry.Point.{Point}
use Rattle.dc_stack.specs.Mapped.{mapped_point}
use Rattle.dc_stack.specs.declared.projection.Projection.{Projection}

-- a point of the page, on the surface
abbrev pub projected : Projection → Point → Point
projected by point = placed_point (mapped_point (map_numbers by.map) point) (surface_of by.place)

-- a point of the page lies on the plane and lands within the limits
abbrev pub is_projected : Projection → Point → Bool
is_projected by point = lands_within_limits (mapped_point (map_numbers by.map) point) (surface_of by.place)
