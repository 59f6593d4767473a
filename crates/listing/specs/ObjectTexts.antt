-- The texts of objects, and of the sources of blits.
use Rattle.std.specs.Prelude.{ℕ, List, [], ◌++◌, codes, decimal, Option, Some, None}
use Rattle.mapping.specs.declared.geometry.Point.{Point}
use Rattle.draw_ops.specs.Blits.{BlitValue, SourceValue}
use Rattle.draw_ops.specs.Hatch.{hatch_code}
use Rattle.draw_ops.specs.Objects.{BrushValue, ObjectValue, solid_brush, null_brush, hatched_brush, tile_brush, pen_object, brush_object, font_object, palette_object}
use Rattle.draw_ops.specs.declared.objects.Pen.{Pen}
use Rattle.draw_ops.specs.declared.objects.Pen.TheVariants.{Null as NullPen, Solid as SolidPen}
use Rattle.listing.specs.Parts.{colour_text, point_text, dimensions_text}

-- a pen's colour and its width in page units, or that it draws nothing
abbrev pub pen_text : Pen → List ℕ
pen_text NullPen = codes "pen null"
pen_text (SolidPen width colour) = codes "pen " ++ colour_text colour ++ codes " width " ++ decimal width

-- a brush's colour, its hatch with its colour, the size of its tile, or that it paints nothing
abbrev pub brush_text : BrushValue → List ℕ
brush_text (solid_brush colour) = codes "brush " ++ colour_text colour
brush_text null_brush = codes "brush null"
brush_text (hatched_brush hatch colour) = codes "brush hatch " ++ decimal (hatch_code hatch) ++ codes " " ++ colour_text colour
brush_text (tile_brush picture) = codes "brush tile " ++ dimensions_text picture.width picture.height

-- what an object is
abbrev pub object_text : ObjectValue → List ℕ
object_text (pen_object pen) = pen_text pen
object_text (brush_object brush) = brush_text brush
object_text font_object = codes "font"
object_text palette_object = codes "palette"

-- the index for a new object and a space, if an index is given
abbrev pub index_text : Option ℕ → List ℕ
index_text None = []
index_text (Some index) = decimal index ++ codes " "

-- a corner, and the extent from there
unfoldable pub extent_text : Point → Point → List ℕ
extent_text corner extent = point_text corner ++ codes " extent " ++ point_text extent

-- the size of a blit's bitmap, and the source rectangle in it, if there is a bitmap
abbrev pub source_text : Option SourceValue → List ℕ
source_text None = []
source_text (Some source) =
    codes " of " ++ dimensions_text source.picture.width source.picture.height ++ codes " from " ++ extent_text source.corner source.extent

-- a blit's rectangle, the table of its operation, and its source
abbrev pub blit_text : BlitValue → List ℕ
blit_text blit =
    codes "blit " ++ extent_text blit.corner blit.extent ++ codes " table " ++ decimal blit.table ++ source_text blit.source
