-- The rows of a band are those of the whole surface.
use Rattle.std.proofs.Common.{◌≡◌, ◌∙◌, ℕ, ◌+◌, ◌-◌, ◌*◌, ◌<◌, ◌≤◌, List, ◌++◌, length, take, drop, ap, arith, sym}
use Rattle.std.proofs.lemmas.List.{append_assoc, drop-append-le, drop-drop, drop_at, length-drop, take-append-le}
use Rattle.std.proofs.lemmas.Nat.{row_fits}
use Rattle.mapping.specs.Image.{Image, blank}
use Rattle.mapping.specs.Surface.{Surface}
use Rattle.mapping.specs.declared.geometry.Colour.{Colour}
use Rattle.canvas.specs.CanvasState.{CanvasState, image_of}
use Rattle.canvas.specs.Ppm.{raster}
use Rattle.canvas.specs.Samples.{row_in}
use Rattle.preflight_cert.specs.Apply.{rows_after}
use Rattle.preflight_cert.specs.Drawings.{NumberedDrawing}
use Rattle.preflight_cert.specs.RowsLaws.{RowsLaws}
use Rattle.player.specs.Rows.{row_samples}
use Rattle.player.proofs.BandLemmas.{after_laid, whole_blank}

-- a row of the middle one of three parts
row_of_part :
    (width first rows row : ℕ) (upper here lower : List Colour) → length upper ≡ first * width → length here ≡ rows * width → row < rows
    → take width (drop ((first + row) * width) ((upper ++ here) ++ lower)) ≡ take width (drop (row * width) here)
row_of_part width first rows row upper here lower above count within =
    let fits = row_fits row width rows width within (omega arith) in
    let place : (first + row) * width ≡ first * width + row * width = omega arith in
    let left = length-drop (row * width) here in
    ap (λ (n : ℕ). take width (drop n ((upper ++ here) ++ lower))) place
    ∙ ap (take width) (sym (drop-drop (row * width) (first * width) ((upper ++ here) ++ lower)))
    ∙ ap (λ (colours : List Colour). take width (drop (row * width) colours)) (ap (drop (first * width)) (append_assoc upper here lower) ∙ drop_at upper (here ++ lower) (first * width) above)
    ∙ ap (take width) (drop-append-le (row * width) here lower (omega (arith, count, fits)))
    ∙ take-append-le width (drop (row * width) here) lower (omega (arith, left, count, fits))

module _ (laws : RowsLaws) (drawings : List NumberedDrawing) (s : Surface) (start : Colour) (wide : 1 ≤ s.width) where
  -- what the drawings leave of the rows from one on
  abbrev image : ℕ → ℕ → Image
  image first rows = rows_after drawings s first (blank s.width rows start)

  width_is : (first rows : ℕ) → (image first rows).width ≡ s.width
  width_is first rows = (laws.dimensions drawings s first (blank s.width rows start)).width

  long : (first rows : ℕ) → length (image first rows).colours ≡ rows * s.width
  long first rows =
      let kept = laws.dimensions drawings s first (blank s.width rows start) in
      (kept.whole (whole_blank s.width rows start wide)).whole ∙ ap (λ (n : ℕ). n * (image first rows).width) kept.height ∙ ap (λ (n : ℕ). rows * n) kept.width

  -- the whole surface, divided at a band
  divided : (first rows rest height : ℕ) → first + rows + rest ≡ height → (image 0 height).colours ≡ ((image 0 first).colours ++ (image first rows).colours) ++ (image (first + rows) rest).colours
  divided first rows rest height all =
      ap (λ (n : ℕ). (image 0 n).colours) (sym all)
      ∙ ap (λ (i : Image). i.colours) (after_laid laws drawings s start wide (first + rows) rest)
      ∙ ap (λ (i : Image). i.colours ++ (image (first + rows) rest).colours) (after_laid laws drawings s start wide first rows)

  pub row_of_band :
      (first rows height y : ℕ) (canvas : CanvasState) → image_of canvas ≡ image first rows → canvas.first ≡ first → first ≤ y → y < first + rows
      → first + rows ≤ height → raster (row_in canvas y) ≡ row_samples (image 0 height) y
  row_of_band first rows height y canvas shown top begins ends within =
      let width : canvas.width ≡ s.width = ap (λ (i : Image). i.width) shown ∙ width_is first rows in
      let colours : canvas.colours ≡ (image first rows).colours = ap (λ (i : Image). i.colours) shown in
      let all : first + rows + (height - (first + rows)) ≡ height = omega (arith, within) in
      let row : first + (y - first) ≡ y = omega (arith, begins) in
      let part = row_of_part s.width first rows (y - first) (image 0 first).colours (image first rows).colours (image (first + rows) (height - (first + rows))).colours (long 0 first) (long first rows) (omega (arith, begins, ends)) in
      let whole : take s.width (drop (y * s.width) (image 0 height).colours) ≡ take s.width (drop ((y - first) * s.width) (image first rows).colours) =
      ap (λ (cs : List Colour). take s.width (drop (y * s.width) cs)) (divided first rows (height - (first + rows)) height all)
      ∙ ap (λ (n : ℕ). take s.width (drop (n * s.width) (((image 0 first).colours ++ (image first rows).colours) ++ (image (first + rows) (height - (first + rows))).colours))) (sym row)
      ∙ part in
      let here : row_in canvas y ≡ take s.width (drop ((y - first) * s.width) (image first rows).colours) =
      ap (λ (n : ℕ). take n (drop ((y - canvas.first) * n) canvas.colours)) width
      ∙ ap (λ (n : ℕ). take s.width (drop ((y - n) * s.width) canvas.colours)) top
      ∙ ap (λ (cs : List Colour). take s.width (drop ((y - first) * s.width) cs)) colours in
      let there : take (image 0 height).width (drop (y * (image 0 height).width) (image 0 height).colours) ≡ take s.width (drop (y * s.width) (image 0 height).colours) =
      ap (λ (n : ℕ). take n (drop (y * n) (image 0 height).colours)) (width_is 0 height) in
      ap raster (here ∙ sym whole ∙ sym there)
