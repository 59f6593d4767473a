-- Blits as plain values.
use Rattle.std.specs.Prelude.{ℕ, Option, Some, None}
use Rattle.mapping.specs.declared.geometry.Point.{Point}
use Rattle.dib_views.specs.PictureOf.{picture_of}
use Rattle.dib_views.specs.Pictures.{Picture}
use Rattle.draw_ops.specs.declared.blits.Blit.{Blit}
use Rattle.draw_ops.specs.declared.blits.BlitSource.{BlitSource}
use Rattle.draw_ops.specs.declared.blits.BlitSource.TheVariants.{Missing, FromTop, FromBottom}
use Rattle.draw_ops.specs.declared.blits.SourceRectangle.{SourceRectangle}

-- where the rows of a bitmap's rectangle are counted from: its top or its bottom
pub data CountedFrom : Type 0 where
  top : CountedFrom
  bottom : CountedFrom

-- the source of a blit: a rectangle of a bitmap, by a corner and the extent from there; a negative extent mirrors
pub record SourceValue : Type 0 where
  pub picture : Picture
  pub corner : Point
  pub extent : Point
  pub counted : CountedFrom

-- a blit: the rectangle that it paints, by a corner and the extent from there, the table of its operation, and its
-- source, if there is a bitmap
pub record BlitValue : Type 0 where
  pub corner : Point
  pub extent : Point
  pub table : ℕ
  pub source : Option SourceValue

-- the value of a source rectangle
abbrev pub source_value_of : CountedFrom → SourceRectangle → SourceValue
source_value_of counted rectangle =
    record { picture = picture_of rectangle.picture; corner = rectangle.corner; extent = rectangle.extent; counted = counted }

-- the value of a blit's source
abbrev pub source_of : BlitSource → Option SourceValue
source_of Missing = None
source_of (FromTop rectangle) = Some (source_value_of top rectangle)
source_of (FromBottom rectangle) = Some (source_value_of bottom rectangle)

-- the value of a blit
abbrev pub blit_value_of : Blit → BlitValue
blit_value_of blit =
    record { corner = blit.corner; extent = blit.extent; table = blit.operation.table; source = source_of blit.source }
