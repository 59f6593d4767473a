-- Rows of a blit's source colours.
use Rattle.std.specs.Prelude.{◌≡◌, ◌≤◌, ◌<◌, ℕ, pos, ◌≤ℤ◌, ◌<ℤ◌, ◌+ℤ◌, List, slice_index_or}
use Rattle.mapping.specs.declared.geometry.Colour.{Colour}
use Rattle.mapping.specs.declared.geometry.Rect.{Rect}
use Rattle.dib_views.specs.PictureOf.{picture_of}
use Rattle.dib_views.specs.Pictures.{picture_colour}
use Rattle.raster_ops.specs.Bytes.{HasBytes}
use Rattle.raster_ops.specs.Readers.{column_read}
use Rattle.raster_ops.specs.declared.sources.SourceReader.{SourceReader}
use Rattle.span_fill.specs.declared.span.Span.{Span}

-- a reader's box is this one
pub record ReadsBox (reader : SourceReader) (box : Rect) : Type 0 where
  pub left : reader.columns.near ≡ box.l
  pub right : box.r ≡ reader.columns.near +ℤ pos reader.columns.side
  pub top : reader.rows.near ≡ box.t
  pub bottom : box.b ≡ reader.rows.near +ℤ pos reader.rows.side

-- these columns of a row lie in the reader's box
pub record ReadsRow (reader : SourceReader) (columns : Span) (y : ℕ) : Type 0 where
  pub left : reader.columns.near ≤ℤ pos columns.from
  pub right : pos columns.to ≤ℤ (reader.columns.near +ℤ pos reader.columns.side)
  pub top : reader.rows.near ≤ℤ pos y
  pub bottom : pos y <ℤ (reader.rows.near +ℤ pos reader.rows.side)

-- these are the source colours of a row of the bitmap, each at its column, and their components are bytes
pub record HoldsRow (reader : SourceReader) (columns : Span) (row : ℕ) (colours : List Colour) : Type 0 where
  pub read :
      (x : ℕ) (d : Colour) → columns.from ≤ x → x < columns.to
      → slice_index_or colours x d ≡ picture_colour (picture_of reader.picture) (column_read reader x) row
  pub parts : (x : ℕ) (d : Colour) → columns.from ≤ x → x < columns.to → HasBytes (slice_index_or colours x d)
