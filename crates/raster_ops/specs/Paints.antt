-- The colours of brushes.
use Rattle.std.specs.Prelude.{ℕ, ◌%◌, if◌then◌else◌, Option, Some, None}
use Rattle.mapping.specs.declared.geometry.Colour.{Colour}
use Rattle.dib_views.specs.Pictures.{picture_colour}
use Rattle.draw_ops.specs.Objects.{BrushValue, solid_brush, null_brush, hatched_brush, tile_brush}
use Rattle.draw_ops.specs.declared.settings.BackgroundMode.{BackgroundMode}
use Rattle.draw_ops.specs.declared.settings.BackgroundMode.TheVariants.{Transparent, Opaque}
use Rattle.raster_ops.specs.Hatches.{has_cell}

-- the colour of a hatch's gaps, if they are painted: the background colour
abbrev pub gap_paint : BackgroundMode → Colour → Option Colour
gap_paint Transparent background = None
gap_paint Opaque background = Some background

-- the colour of a brush at the surface's pixel (x, y), if it paints there; a bitmap is repeated from the surface's
-- corner on
abbrev pub brush_paint : BrushValue → BackgroundMode → Colour → ℕ → ℕ → Option Colour
brush_paint (solid_brush colour) mode background x y = Some colour
brush_paint null_brush mode background x y = None
brush_paint (hatched_brush hatch colour) mode background x y =
    if has_cell hatch x y then Some colour else gap_paint mode background
brush_paint (tile_brush picture) mode background x y = Some (picture_colour picture (x % picture.width) (y % picture.height))
