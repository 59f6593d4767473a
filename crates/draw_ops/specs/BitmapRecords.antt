-- What records with bitmaps share: reading a bitmap, and making blits and brushes with it.
use Rattle.std.specs.Prelude.{ℕ, ◌==◌, if◌then◌else◌, List, drop, Option, Some, Result, Err}
use Rattle.std.specs.Result.{result_map_both}
use Rattle.dib_views.specs.Dibs.{packed_dib, parts_dib}
use Rattle.dib_views.specs.Pictures.{Dib}
use Rattle.dib_views.specs.declared.fault.DibFault.{DibFault}
use Rattle.dib_views.specs.declared.fault.DibFault.TheVariants.{BadDib as OfBadDib, CompressedDib as OfCompressedDib, ShortDib as OfShortDib}
use Rattle.dib_views.specs.declared.shape.RowOrder.{RowOrder}
use Rattle.dib_views.specs.declared.shape.RowOrder.TheVariants.{BottomUp, TopDown}
use Rattle.mapping.specs.declared.geometry.Point.{Point}
use Rattle.draw_ops.specs.Blits.{CountedFrom, SourceValue, top, bottom}
use Rattle.draw_ops.specs.Meaning.{DecodedValue, plain}
use Rattle.draw_ops.specs.Objects.{brush_object, tile_brush}
use Rattle.draw_ops.specs.Operation.{blit, create}
use Rattle.draw_ops.specs.Results.{result_map}
use Rattle.draw_ops.specs.TernaryOp.{ternary_table}
use Rattle.draw_ops.specs.declared.record_fault.RecordFault.{RecordFault}
use Rattle.draw_ops.specs.declared.record_fault.RecordFault.TheVariants.{BadDib, CompressedDib, PaletteColour, ShortDib}

-- the fault of a record whose bitmap has this fault
abbrev pub fault_of_dib : DibFault → RecordFault
fault_of_dib OfBadDib = BadDib
fault_of_dib OfCompressedDib = CompressedDib
fault_of_dib OfShortDib = ShortDib

-- the packed bitmap in a record, from an offset on, or the record's fault
unfoldable pub dib_at : List ℕ → ℕ → Result Dib RecordFault
dib_at bytes place = result_map_both (λ dib. dib) fault_of_dib (packed_dib (drop place bytes))

-- a bitmap in two parts of a record, or the record's fault
unfoldable pub dib_in : List ℕ → List ℕ → Result Dib RecordFault
dib_in info bits = result_map_both (λ dib. dib) fault_of_dib (parts_dib info bits)

-- A bitmap's colours are given as red, green and blue if its usage is 0 ([MS-WMF] 2.1.1.6, [MS-EMF] 2.1.9); otherwise
-- they come from a palette.
abbrev pub needs_rgb : {T : Type 0} → ℕ → Result T RecordFault → Result T RecordFault
needs_rgb usage value = if usage == 0 then value else Err PaletteColour

-- the source that is a rectangle of a bitmap, with rows counted in this way
abbrev pub source_value : CountedFrom → Point → Point → Dib → Option SourceValue
source_value counted corner extent dib = Some (record { picture = dib.picture; corner = corner; extent = extent; counted = counted })

-- the source that is a rectangle of a bitmap, with rows counted from the top, or the bitmap's fault
unfoldable pub source_from_top : Point → Point → Result Dib RecordFault → Result (Option SourceValue) RecordFault
source_from_top corner extent dib = result_map (source_value top corner extent) dib

-- how rows are counted from the one that is stored first
abbrev pub counted_by : RowOrder → CountedFrom
counted_by BottomUp = bottom
counted_by TopDown = top

-- the source that is a rectangle of a bitmap, with rows counted from the one that is stored first, or the bitmap's
-- fault
unfoldable pub source_as_stored : Point → Point → Result Dib RecordFault → Result (Option SourceValue) RecordFault
source_as_stored corner extent dib = result_map (λ stored. source_value (counted_by stored.order) corner extent stored) dib

-- a blit to a rectangle, with the code of its ternary raster operation and its source, or the source's fault
unfoldable pub blit_meant : Point → Point → ℕ → Result (Option SourceValue) RecordFault → Result DecodedValue RecordFault
blit_meant corner extent code source =
    plain (λ read. blit (record { corner = corner; extent = extent; table = ternary_table code; source = read })) source

-- a brush that repeats a bitmap is made at an index, or at the lowest free one
unfoldable pub pattern_brush_meant : Option ℕ → Result Dib RecordFault → Result DecodedValue RecordFault
pattern_brush_meant at dib = plain (λ tile. create at (brush_object (tile_brush tile.picture))) dib
