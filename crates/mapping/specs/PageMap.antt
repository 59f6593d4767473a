-- The numbers of a page map.
use Rattle.std.specs.Prelude.{ℕ, ℤ, pos, ◌-ℤ◌, ◌*ℤ◌, unsigned_abs}
use Rattle.mapping.specs.Floor.{floor_div}
use Rattle.mapping.specs.Plane.{AxisNumbers, MapNumbers, plane_coordinate}
use Rattle.mapping.specs.declared.geometry.Point.{Point}
use Rattle.mapping.specs.declared.map_mode.MapMode.TheVariants.{Anisotropic, Text}
use Rattle.mapping.specs.declared.fine_axis.FineAxis.{FineAxis}
use Rattle.mapping.specs.declared.page_axis.PageAxis.{PageAxis}
use Rattle.mapping.specs.declared.page_map.PageMap.{PageMap}

-- the numbers of an axis whose unit has so many parts
abbrev pub axis_numbers : ℕ → PageAxis → AxisNumbers
axis_numbers parts a = record {
  parts = parts;
  window_origin = a.window_origin;
  window_extent = a.window_extent;
  viewport_origin = a.viewport_origin;
  viewport_extent = a.viewport_extent;
  corner = a.corner;
}

abbrev pub fine_numbers : FineAxis → AxisNumbers
fine_numbers a = axis_numbers a.parts a.axis

-- the plane coordinate of a page coordinate on an axis, where a unit is one part, and where it may have several
abbrev pub axis_coordinate : PageAxis → ℤ → ℤ
axis_coordinate a v = plane_coordinate (axis_numbers 1 a) v

abbrev pub fine_coordinate : FineAxis → ℤ → ℤ
fine_coordinate a v = plane_coordinate (fine_numbers a) v

-- the distance of a page coordinate from the window's origin, scaled to the viewport and rounded down, in units and in
-- parts
abbrev pub scaled_distance : PageAxis → ℤ → ℤ
scaled_distance a v = floor_div ((v -ℤ a.window_origin) *ℤ a.viewport_extent) a.window_extent

abbrev pub fine_distance : FineAxis → ℤ → ℤ
fine_distance a v = floor_div ((v -ℤ a.axis.window_origin) *ℤ pos a.parts *ℤ a.axis.viewport_extent) a.axis.window_extent

-- the numbers of a map, with its mode
abbrev pub map_numbers : PageMap → MapNumbers
map_numbers map = record { mode = map.mode; x = axis_numbers map.parts map.x; y = axis_numbers map.parts map.y }

-- an initial axis of a placeable file: the window is its box, and the viewport is the frame, which has the box's size
-- and the corner 0; a unit is one part
abbrev pub placeable_axis : ℤ → ℤ → AxisNumbers
placeable_axis origin extent = record {
  parts = 1;
  window_origin = origin;
  window_extent = extent;
  viewport_origin = pos 0;
  viewport_extent = pos (unsigned_abs extent);
  corner = pos 0;
}

-- the initial map of a placeable file whose box has this corner and this size, scaled separately on each axis
abbrev pub placeable_map : Point → Point → MapNumbers
placeable_map corner dimensions = record {
  mode = Anisotropic;
  x = placeable_axis corner.x dimensions.x;
  y = placeable_axis corner.y dimensions.y;
}

-- the initial map of a plain WMF file whose window has this size: that of a placeable file whose box has its corner at
-- 0
abbrev pub plain_map : Point → MapNumbers
plain_map dimensions = placeable_map (record { x = pos 0; y = pos 0 }) dimensions

-- an axis without scaling: page coordinates are device coordinates, relative to the frame's corner
abbrev pub unscaled_axis : ℤ → AxisNumbers
unscaled_axis corner = record {
  parts = 1;
  window_origin = pos 0;
  window_extent = pos 1;
  viewport_origin = pos 0;
  viewport_extent = pos 1;
  corner = corner;
}

-- the initial map of an EMF file whose bounds have this corner
abbrev pub unscaled_map : Point → MapNumbers
unscaled_map corner = record { mode = Text; x = unscaled_axis corner.x; y = unscaled_axis corner.y }

-- an axis that counts so many parts a unit, and a map that does
abbrev pub axis_in_parts : ℕ → AxisNumbers → AxisNumbers
axis_in_parts parts n = record {
  parts = parts;
  window_origin = n.window_origin;
  window_extent = n.window_extent;
  viewport_origin = n.viewport_origin;
  viewport_extent = n.viewport_extent;
  corner = n.corner;
}

abbrev pub map_in_parts : ℕ → MapNumbers → MapNumbers
map_in_parts parts map = record { mode = map.mode; x = axis_in_parts parts map.x; y = axis_in_parts parts map.y }
