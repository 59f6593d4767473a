-- Consecutive bands make the whole surface.
use Rattle.std.proofs.Common.{◌≡◌, ℕ, ◌+◌, ◌*◌, ◌≤◌, List, [], ◌++◌, length, replicate, refl, sym, ap, ◌∙◌, arith}
use Rattle.std.proofs.Math.Nat.{add-mul}
use Rattle.std.proofs.lemmas.Grind.{flat_map-append}
use Rattle.std.proofs.lemmas.List.{length-replicate, nil_from_length, replicate-append-replicate}
use Rattle.mapping.specs.Image.{Image, blank}
use Rattle.mapping.specs.Surface.{Surface}
use Rattle.mapping.specs.declared.geometry.Colour.{Colour}
use Rattle.canvas.specs.Ppm.{pixel_bytes, raster}
use Rattle.preflight_cert.specs.Apply.{rows_after}
use Rattle.preflight_cert.specs.Drawings.{NumberedDrawing}
use Rattle.preflight_cert.specs.RowsLaws.{IsWholeImage, RowsLaws, laid}
use Rattle.preflight_cert.specs.Writes.{writes_of_drawings}

-- rows of one colour
pub whole_blank : (width rows : ℕ) (start : Colour) → 1 ≤ width → IsWholeImage (blank width rows start)
whole_blank width rows start wide = record { wide = wide; whole = length-replicate (rows * width) start }

blank_laid : (width rows more : ℕ) (start : Colour) → blank width (rows + more) start ≡ laid (blank width rows start) (blank width more start)
blank_laid width rows more start =
    ap (λ (colours : List Colour). record { width = width; height = rows + more; colours = colours })
    (ap (λ (n : ℕ). replicate n start) (add-mul rows more width) ∙ sym (replicate-append-replicate (rows * width) (more * width) start))

module _ (laws : RowsLaws) (drawings : List NumberedDrawing) (s : Surface) (start : Colour) (wide : 1 ≤ s.width) where
  -- what the drawings leave of the rows from one on
  abbrev pub after : ℕ → ℕ → Image
  after first rows = rows_after drawings s first (blank s.width rows start)

  pub after_laid : (rows more : ℕ) → after 0 (rows + more) ≡ laid (after 0 rows) (after rows more)
  after_laid rows more =
      let e : 0 + rows ≡ rows = omega arith in
      ap (rows_after drawings s 0) (blank_laid s.width rows more start)
      ∙ laws.drawings drawings s 0 (blank s.width rows start) (blank s.width more start) (whole_blank s.width rows start wide) refl
      ∙ ap (λ (n : ℕ). laid (after 0 rows) (after n more)) e

  -- the samples of consecutive rows are those of each part, in order
  pub raster_laid : (rows more : ℕ) → raster (after 0 (rows + more)).colours ≡ raster (after 0 rows).colours ++ raster (after rows more).colours
  raster_laid rows more =
      ap (λ (image : Image). raster image.colours) (after_laid rows more)
      ∙ flat_map-append pixel_bytes (after 0 rows).colours (after rows more).colours

  -- no rows have no samples
  pub no_raster : raster (after 0 0).colours ≡ []
  no_raster =
      let kept = laws.dimensions drawings s 0 (blank s.width 0 start) in
      let long = (kept.whole (whole_blank s.width 0 start wide)).whole in
      let none : length (after 0 0).colours ≡ 0 = long ∙ ap (λ (n : ℕ). n * (after 0 0).width) kept.height ∙ no_product (after 0 0).width in
      ap raster (nil_from_length (after 0 0).colours none)
    where
      no_product : (n : ℕ) → 0 * n ≡ 0
      no_product n = omega arith

  pub no_writes : writes_of_drawings drawings s 0 0 ≡ 0
  no_writes = let counted = laws.writes drawings s 0 0 0 in omega (arith, counted)
