-- Objects as plain values.
use Rattle.std.specs.Prelude.{ℕ, Option, Some, None}
use Rattle.dib_views.specs.PictureOf.{picture_of}
use Rattle.dib_views.specs.Pictures.{Picture}
use Rattle.mapping.specs.declared.geometry.Colour.{Colour}
use Rattle.draw_ops.specs.declared.hatch.Hatch.{Hatch}
use Rattle.draw_ops.specs.declared.objects.Brush.{Brush}
use Rattle.draw_ops.specs.declared.objects.Brush.TheVariants.{Solid, Null, Hatched, Tiled}
use Rattle.draw_ops.specs.declared.objects.Handle.{Handle}
use Rattle.draw_ops.specs.declared.objects.Object.{Object}
use Rattle.draw_ops.specs.declared.objects.Object.TheVariants.{Pen as ThePen, Brush as TheBrush, Font, Palette}
use Rattle.draw_ops.specs.declared.objects.Pen.{Pen}

-- a brush: a colour, nothing, lines, or a tile
pub data BrushValue : Type 0 where
  solid_brush : Colour → BrushValue
  null_brush : BrushValue
  hatched_brush : Hatch → Colour → BrushValue
  tile_brush : Picture → BrushValue

-- an object: a pen, a brush, or one that draws nothing
pub data ObjectValue : Type 0 where
  pen_object : Pen → ObjectValue
  brush_object : BrushValue → ObjectValue
  font_object : ObjectValue
  palette_object : ObjectValue

-- the value of a brush
abbrev pub brush_value_of : Brush → BrushValue
brush_value_of (Solid colour) = solid_brush colour
brush_value_of Null = null_brush
brush_value_of (Hatched hatch colour) = hatched_brush hatch colour
brush_value_of (Tiled view) = tile_brush (picture_of view)

-- the value of an object
abbrev pub object_value_of : Object → ObjectValue
object_value_of (ThePen pen) = pen_object pen
object_value_of (TheBrush brush) = brush_object (brush_value_of brush)
object_value_of Font = font_object
object_value_of Palette = palette_object

-- the index for a new object, if one is given
abbrev pub index_of : Option Handle → Option ℕ
index_of None = None
index_of (Some handle) = Some handle.0
