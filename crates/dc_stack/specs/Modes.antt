-- Modes and colours, set one by one.
use Rattle.mapping.specs.declared.geometry.Colour.{Colour}
use Rattle.draw_ops.specs.declared.raster_op.RasterOp.{RasterOp}
use Rattle.draw_ops.specs.declared.settings.BackgroundMode.{BackgroundMode}
use Rattle.draw_ops.specs.declared.settings.FillMode.{FillMode}
use Rattle.dc_stack.specs.declared.modes.Modes.{Modes}

-- the modes with another background mode
abbrev pub with_background_mode : BackgroundMode → Modes → Modes
with_background_mode mode m = record {
  background_mode = mode;
  background_colour = m.background_colour;
  raster_op = m.raster_op;
  fill_mode = m.fill_mode;
}

-- the modes with another background colour
abbrev pub with_background_colour : Colour → Modes → Modes
with_background_colour colour m = record {
  background_mode = m.background_mode;
  background_colour = colour;
  raster_op = m.raster_op;
  fill_mode = m.fill_mode;
}

-- the modes with another raster operation
abbrev pub with_raster_op : RasterOp → Modes → Modes
with_raster_op op m = record {
  background_mode = m.background_mode;
  background_colour = m.background_colour;
  raster_op = op;
  fill_mode = m.fill_mode;
}

-- the modes with another fill mode
abbrev pub with_fill_mode : FillMode → Modes → Modes
with_fill_mode mode m = record {
  background_mode = m.background_mode;
  background_colour = m.background_colour;
  raster_op = m.raster_op;
  fill_mode = mode;
}
