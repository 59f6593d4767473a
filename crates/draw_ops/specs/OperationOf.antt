-- The value of an operation.
use Rattle.point_views.specs.Points.{points_of}
use Rattle.point_views.specs.Polys.{lists_of}
use Rattle.draw_ops.specs.Blits.{blit_value_of}
use Rattle.draw_ops.specs.Objects.{index_of, object_value_of}
use Rattle.draw_ops.specs.Operation.{Operation, no_effect, save, restore, set_background_mode, set_map_mode, set_raster_op, set_fill_mode, set_background_colour, set_window_origin, set_window_extent, set_viewport_origin, set_viewport_extent, offset_window_origin, offset_viewport_origin, exclude_clip, intersect_clip, remove_clip, move_to, line_to, pixel, rectangle, polyline, polygon, polyline_to, blit, create, select, select_palette, delete, begin_path, end_path, close_figure, abort_path, fill_path, stroke_path, stroke_and_fill_path}
use Rattle.draw_ops.specs.declared.operation.Op.{Op}
use Rattle.draw_ops.specs.declared.operation.Op.TheVariants.{NoEffect, Save, Restore, SetBackgroundMode, SetMapMode, SetRasterOp, SetFillMode, SetBackgroundColour, SetWindowOrigin, SetWindowExtent, SetViewportOrigin, SetViewportExtent, OffsetWindowOrigin, OffsetViewportOrigin, ExcludeClip, IntersectClip, RemoveClip, MoveTo, LineTo, Pixel, Rectangle, Polyline, Polygon, PolylineTo, Blit, Create, Select, SelectPalette, Delete, BeginPath, EndPath, CloseFigure, AbortPath, FillPath, StrokePath, StrokeAndFillPath}

abbrev pub operation_of : Op → Operation
operation_of NoEffect = no_effect
operation_of Save = save
operation_of (Restore state) = restore state.0
operation_of (SetBackgroundMode mode) = set_background_mode mode
operation_of (SetMapMode mode) = set_map_mode mode
operation_of (SetRasterOp op) = set_raster_op op
operation_of (SetFillMode mode) = set_fill_mode mode
operation_of (SetBackgroundColour colour) = set_background_colour colour
operation_of (SetWindowOrigin origin) = set_window_origin origin
operation_of (SetWindowExtent extent) = set_window_extent extent
operation_of (SetViewportOrigin origin) = set_viewport_origin origin
operation_of (SetViewportExtent extent) = set_viewport_extent extent
operation_of (OffsetWindowOrigin offset) = offset_window_origin offset
operation_of (OffsetViewportOrigin offset) = offset_viewport_origin offset
operation_of (ExcludeClip corners) = exclude_clip corners
operation_of (IntersectClip corners) = intersect_clip corners
operation_of RemoveClip = remove_clip
operation_of (MoveTo point) = move_to point
operation_of (LineTo point) = line_to point
operation_of (Pixel point colour) = pixel point colour
operation_of (Rectangle corners edges) = rectangle corners edges
operation_of (Polyline polys) = polyline (lists_of polys)
operation_of (Polygon polys) = polygon (lists_of polys)
operation_of (PolylineTo points) = polyline_to (points_of points)
operation_of (Blit blit_asked) = blit (blit_value_of blit_asked)
operation_of (Create at object) = create (index_of at) (object_value_of object)
operation_of (Select handle) = select handle.0
operation_of (SelectPalette handle) = select_palette handle.0
operation_of (Delete handle) = delete handle.0
operation_of BeginPath = begin_path
operation_of EndPath = end_path
operation_of CloseFigure = close_figure
operation_of AbortPath = abort_path
operation_of FillPath = fill_path
operation_of StrokePath = stroke_path
operation_of StrokeAndFillPath = stroke_and_fill_path
