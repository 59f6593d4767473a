-- Operations as plain values, with lists of points instead of parts of a file.
use Rattle.std.specs.Prelude.{ℕ, ℤ, List, Option}
use Rattle.mapping.specs.declared.geometry.Colour.{Colour}
use Rattle.mapping.specs.declared.geometry.Point.{Point}
use Rattle.mapping.specs.declared.geometry.Rect.{Rect}
use Rattle.mapping.specs.declared.map_mode.MapMode.{MapMode}
use Rattle.draw_ops.specs.Blits.{BlitValue}
use Rattle.draw_ops.specs.Objects.{ObjectValue}
use Rattle.draw_ops.specs.declared.operation.RectangleEdges.{RectangleEdges}
use Rattle.draw_ops.specs.declared.raster_op.RasterOp.{RasterOp}
use Rattle.draw_ops.specs.declared.settings.BackgroundMode.{BackgroundMode}
use Rattle.draw_ops.specs.declared.settings.FillMode.{FillMode}

-- one operation
pub data Operation : Type 0 where
  no_effect : Operation
  save : Operation
  restore : ℤ → Operation
  set_background_mode : BackgroundMode → Operation
  set_map_mode : MapMode → Operation
  set_raster_op : RasterOp → Operation
  set_fill_mode : FillMode → Operation
  set_background_colour : Colour → Operation
  set_window_origin : Point → Operation
  set_window_extent : Point → Operation
  set_viewport_origin : Point → Operation
  set_viewport_extent : Point → Operation
  offset_window_origin : Point → Operation
  offset_viewport_origin : Point → Operation
  exclude_clip : Rect → Operation
  intersect_clip : Rect → Operation
  remove_clip : Operation
  move_to : Point → Operation
  line_to : Point → Operation
  pixel : Point → Colour → Operation
  rectangle : Rect → RectangleEdges → Operation
  polyline : List (List Point) → Operation
  polygon : List (List Point) → Operation
  polyline_to : List Point → Operation
  blit : BlitValue → Operation
  create : Option ℕ → ObjectValue → Operation
  select : ℕ → Operation
  select_palette : ℕ → Operation
  delete : ℕ → Operation
  begin_path : Operation
  end_path : Operation
  close_figure : Operation
  abort_path : Operation
  fill_path : Operation
  stroke_path : Operation
  stroke_and_fill_path : Operation
