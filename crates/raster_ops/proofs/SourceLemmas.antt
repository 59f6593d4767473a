-- Where rectangles lie in their pictures, and how far places are apart.
use Rattle.std.proofs.Common.{◌≡◌, ℕ, ◌≤◌, ◌^◌, ℤ, pos, neg_ℤ, ◌+ℤ◌, ◌-ℤ◌, ◌≤ℤ◌, Bool, true, ◌&&◌, Option, Some, None, ap, sym, ◌∙◌, arith}
use Rattle.std.specs.Int.{int_min}
use Rattle.std.specs.Prelude.{IfSome, unsigned_abs}
use Rattle.std.proofs.lemmas.Option.{IfSome_then}
use Rattle.std.proofs.lemmas.Int.{ints}
use Rattle.mapping.specs.Limits.{place_limit}
use Rattle.mapping.specs.Surface.{IsPlaceCoordinate}
use Rattle.mapping.specs.declared.geometry.Point.{Point}
use Rattle.dib_views.specs.PictureOf.{picture_of}
use Rattle.dib_views.specs.Pictures.{picture_colour}
use Rattle.dib_views.specs.declared.view.DibView.{DibView}
use Rattle.draw_ops.specs.Blits.{SourceValue}
use Rattle.raster_ops.specs.Readers.{column_read, reading_of, row_read}
use Rattle.raster_ops.specs.Sources.{Reading, axis_read, colour_read, columns_read, distance, first_row, index_read, is_axis_inside, is_source_inside, least_end, rows_read}
use Rattle.raster_ops.specs.declared.sources.AxisReading.{AxisReading}
use Rattle.raster_ops.specs.declared.sources.SourceReader.{SourceReader}

abbrev reading : ℤ → ℕ → ℤ → ℕ → Bool → Reading
reading first count near side mirrored = record { first = first; count = count; near = near; side = side; mirrored = mirrored }

-- a placed coordinate by its limits' numbers
pub record IsNear (v : ℤ) : Type 0 where
  pub low : neg_ℤ (pos (2 ^ 28)) ≤ℤ v
  pub high : v ≤ℤ pos (2 ^ 28)

pub near_place : (v : ℤ) → IsPlaceCoordinate v → IsNear v
unfolding place_limit
near_place v h = record { low = h.low; high = h.high }

-- how far a place is from one that isn't behind it
pub distance_is : (near : ℤ) (n : ℕ) → near ≤ℤ pos n → pos (distance near (pos n)) ≡ pos n -ℤ near
distance_is near n h = omega (arith, ints, h)

-- what a test of an axis says
pub record IsAxisInside (first extent : ℤ) (side : ℕ) : Type 0 where
  pub some : 1 ≤ unsigned_abs extent
  pub low : pos 0 ≤ℤ first
  pub high : (first +ℤ pos (unsigned_abs extent)) ≤ℤ pos side

pub inside_means : (first extent : ℤ) (side : ℕ) → is_axis_inside first extent side ≡ true → IsAxisInside first extent side
inside_means first extent side h = record {
  some = grind (arith, ints);
  low = grind (arith, ints);
  high = grind (arith, ints);
}

-- how an axis reads is told by its parts
pub same_reading : (a b : Reading) → a.first ≡ b.first → a.count ≡ b.count → a.near ≡ b.near → a.side ≡ b.side → a.mirrored ≡ b.mirrored → a ≡ b
same_reading a b e f g h i =
    ap (λ (n : ℤ). reading n a.count a.near a.side a.mirrored) e
    ∙ ap (λ (n : ℕ). reading b.first n a.near a.side a.mirrored) f
    ∙ ap (λ (n : ℤ). reading b.first b.count n a.side a.mirrored) g
    ∙ ap (λ (n : ℕ). reading b.first b.count b.near n a.mirrored) h
    ∙ ap (λ (n : Bool). reading b.first b.count b.near b.side n) i

-- a rectangle is inside where both axes of it are
pub inside_by : (source : SourceValue) (row : ℤ) → row ≡ first_row source → (is_axis_inside (least_end source.corner.x source.extent.x) source.extent.x source.picture.width && is_axis_inside row source.extent.y source.picture.height) ≡ is_source_inside source
inside_by source row e =
    ap (λ r. is_axis_inside (least_end source.corner.x source.extent.x) source.extent.x source.picture.width && is_axis_inside r source.extent.y source.picture.height) e

-- what a value in an Option is, by three facts of it
by_three : {X : Type 0} (o : Option X) (P Q R S : X → Type 0) → IfSome o P → IfSome o Q → IfSome o R → ((x : X) → P x → Q x → R x → S x) → IfSome o S
by_three None P Q R S p q r f = p
by_three (Some x) P Q R S p q r f = f x p q r

-- a reader with a source's picture and with how its columns and rows read reads what the source gives
module _ (o : Option SourceReader) (picture : DibView) (source : SourceValue) (p q : Point) (of_picture : source.picture ≡ picture_of picture) (there : IfSome o (λ reader. reader.picture ≡ picture)) (row : ℤ) (at_row : row ≡ first_row source)
    (columns : IfSome o (λ reader. reading_of reader.columns ≡ axis_read (least_end source.corner.x source.extent.x) source.extent.x p.x q.x))
    (rows : IfSome o (λ reader. reading_of reader.rows ≡ axis_read row source.extent.y p.y q.y)) where
  pub reads_by : IfSome o (λ reader. (x y : ℕ) → colour_read source p q x y ≡ picture_colour (picture_of reader.picture) (column_read reader x) (row_read reader y))
  reads_by =
      by_three o (λ reader. reader.picture ≡ picture) (λ reader. reading_of reader.columns ≡ columns_read source p q) (λ reader. reading_of reader.rows ≡ axis_read row source.extent.y p.y q.y) _ there columns rows
      (λ reader e f g. λ x y.
      ap (λ v. picture_colour v (unsigned_abs (index_read (columns_read source p q) x)) (unsigned_abs (index_read (rows_read source p q) y))) (of_picture ∙ ap picture_of (sym e))
      ∙ ap (λ r. picture_colour (picture_of reader.picture) (unsigned_abs (index_read r x)) (unsigned_abs (index_read (rows_read source p q) y))) (sym f)
      ∙ ap (λ r. picture_colour (picture_of reader.picture) (column_read reader x) (unsigned_abs (index_read r y))) (ap (λ n. axis_read n source.extent.y p.y q.y) (sym at_row) ∙ sym g))

-- a part of how an axis reads
pub near_of : (o : Option SourceReader) (axis : SourceReader → AxisReading) (first extent p q : ℤ) → IfSome o (λ reader. reading_of (axis reader) ≡ axis_read first extent p q) → IfSome o (λ reader. (axis reader).near ≡ int_min p q)
near_of o axis first extent p q h = IfSome_then o h (λ reader e. ap (λ (r : Reading). r.near) e)

pub side_of : (o : Option SourceReader) (axis : SourceReader → AxisReading) (first extent p q : ℤ) → IfSome o (λ reader. reading_of (axis reader) ≡ axis_read first extent p q) → IfSome o (λ reader. (axis reader).side ≡ distance p q)
side_of o axis first extent p q h = IfSome_then o h (λ reader e. ap (λ (r : Reading). r.side) e)
