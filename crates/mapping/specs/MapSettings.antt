-- How records change a page map ([MS-WMF] 2.3.5, [MS-EMF] 2.3.11).
use Rattle.std.specs.Prelude.{ℤ, pos, neg_ℤ, ◌^◌, ◌-◌, ◌+ℤ◌, int_le, Bool, true, false, ◌&&◌, ◌||◌, if◌then◌else◌}
use Rattle.std.specs.Ordering.{int_eq}
use Rattle.mapping.specs.Plane.{AxisNumbers, MapNumbers}
use Rattle.mapping.specs.declared.geometry.Point.{Point}
use Rattle.mapping.specs.declared.map_mode.MapMode.{MapMode}
use Rattle.mapping.specs.declared.map_mode.MapMode.TheVariants.{Text, Isotropic, Anisotropic}

-- an axis with another window and the same corner
abbrev pub with_window : ℤ → ℤ → AxisNumbers → AxisNumbers
with_window origin extent n = record {
  parts = n.parts;
  window_origin = origin;
  window_extent = extent;
  viewport_origin = n.viewport_origin;
  viewport_extent = n.viewport_extent;
  corner = n.corner;
}

-- an axis with another viewport and the same corner
abbrev pub with_viewport : ℤ → ℤ → AxisNumbers → AxisNumbers
with_viewport origin extent n = record {
  parts = n.parts;
  window_origin = n.window_origin;
  window_extent = n.window_extent;
  viewport_origin = origin;
  viewport_extent = extent;
  corner = n.corner;
}

-- an axis with both extents 1 and the same origins
abbrev pub with_unit_extents : AxisNumbers → AxisNumbers
with_unit_extents n = with_viewport n.viewport_origin (pos 1) (with_window n.window_origin (pos 1) n)

-- whether records can change the extents: not in text mode, where they are all 1
abbrev pub may_set_extents : MapMode → Bool
may_set_extents Text = false
may_set_extents Isotropic = true
may_set_extents Anisotropic = true

-- a map in this mode: text mode sets the four extents to 1, and they stay so in a later mode until they are set
abbrev pub with_mode : MapMode → MapNumbers → MapNumbers
with_mode Text map = record { mode = Text; x = with_unit_extents map.x; y = with_unit_extents map.y }
with_mode Isotropic map = record { mode = Isotropic; x = map.x; y = map.y }
with_mode Anisotropic map = record { mode = Anisotropic; x = map.x; y = map.y }

-- the mode lets an extent be set, and this one is 0 on an axis
abbrev pub sets_zero_extent : Point → MapNumbers → Bool
sets_zero_extent extent map = may_set_extents map.mode && (int_eq extent.x (pos 0) || int_eq extent.y (pos 0))

-- the map with this window extent, if the mode lets it be set
abbrev pub with_window_extent : Point → MapNumbers → MapNumbers
with_window_extent extent map =
    if may_set_extents map.mode then record {
      mode = map.mode;
      x = with_window map.x.window_origin extent.x map.x;
      y = with_window map.y.window_origin extent.y map.y;
    } else map

-- the map with this viewport extent, if the mode lets it be set
abbrev pub with_viewport_extent : Point → MapNumbers → MapNumbers
with_viewport_extent extent map =
    if may_set_extents map.mode then record {
      mode = map.mode;
      x = with_viewport map.x.viewport_origin extent.x map.x;
      y = with_viewport map.y.viewport_origin extent.y map.y;
    } else map

-- the map with this window origin
abbrev pub with_window_origin : Point → MapNumbers → MapNumbers
with_window_origin origin map = record {
  mode = map.mode;
  x = with_window origin.x map.x.window_extent map.x;
  y = with_window origin.y map.y.window_extent map.y;
}

-- the map with this viewport origin
abbrev pub with_viewport_origin : Point → MapNumbers → MapNumbers
with_viewport_origin origin map = record {
  mode = map.mode;
  x = with_viewport origin.x map.x.viewport_extent map.x;
  y = with_viewport origin.y map.y.viewport_extent map.y;
}

-- the origin of the window; the origin of the viewport
abbrev pub window_origin_of : MapNumbers → Point
window_origin_of map = record { x = map.x.window_origin; y = map.y.window_origin }

abbrev pub viewport_origin_of : MapNumbers → Point
viewport_origin_of map = record { x = map.x.viewport_origin; y = map.y.viewport_origin }

-- a point moved by an offset
abbrev pub offset_by : Point → Point → Point
offset_by offset point = record { x = point.x +ℤ offset.x; y = point.y +ℤ offset.y }

-- the map with its window's origin moved by an offset; the map with its viewport's origin moved by an offset
abbrev pub with_offset_window_origin : Point → MapNumbers → MapNumbers
with_offset_window_origin offset map = with_window_origin (offset_by offset (window_origin_of map)) map

abbrev pub with_offset_viewport_origin : Point → MapNumbers → MapNumbers
with_offset_viewport_origin offset map = with_viewport_origin (offset_by offset (viewport_origin_of map)) map

-- the number fits 32 bits, as the origins of a page map do
abbrev pub is_page_coordinate : ℤ → Bool
is_page_coordinate v = int_le (neg_ℤ (pos (2 ^ 31))) v && int_le v (pos (2 ^ 31 - 1))

-- both coordinates fit 32 bits
abbrev pub is_page_point : Point → Bool
is_page_point point = is_page_coordinate point.x && is_page_coordinate point.y
