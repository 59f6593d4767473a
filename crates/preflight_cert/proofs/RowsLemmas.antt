-- Layers and drawings on rows that are laid together.
use Rattle.std.proofs.Common.{◌≡◌, ℕ, suc, ◌+◌, List, [], ◌∷◌, ◌++◌, refl, sym, ap, ◌∙◌, arith, zero, ◌*◌, ◌/◌, ◌%◌, Bool}
use Rattle.mapping.specs.Image.{Image}
use Rattle.mapping.specs.IndexLaws.{count_pixels_laid, length-map_indexed, repainted_laid}
use Rattle.mapping.specs.Pixels.{count_indexes, count_pixels, repainted}
use Rattle.mapping.specs.Surface.{Surface}
use Rattle.mapping.specs.declared.geometry.Colour.{Colour}
use Rattle.preflight_cert.specs.Apply.{apply, apply_all, ink_of, rows_after}
use Rattle.preflight_cert.specs.Drawings.{NumberedDrawing}
use Rattle.preflight_cert.specs.Layer.{Layer, layers_of}
use Rattle.preflight_cert.specs.RowsLaws.{HasDimensionsOf, IsWholeImage, RowsLaws, laid}
use Rattle.preflight_cert.specs.Writes.{writes_of_drawings, writes_of_layers, writes_pixel}

-- without a column nothing is counted
no_index : (p : ℕ → Bool) (n : ℕ) → n ≡ zero → count_indexes p 0 n ≡ 0
no_index p n e = ap (count_indexes p 0) e

counted_always : (test : ℕ → ℕ → Bool) (width first rows more : ℕ) → count_pixels test width first (rows + more) ≡ count_pixels test width first rows + count_pixels test width (first + rows) more
counted_always test zero first rows more =
    let all = no_index (λ k. test (k % zero) (first + k / zero)) ((rows + more) * zero) (omega arith) in
    let upper = no_index (λ k. test (k % zero) (first + k / zero)) (rows * zero) (omega arith) in
    let lower = no_index (λ k. test (k % zero) ((first + rows) + k / zero)) (more * zero) (omega arith) in
    omega (arith, all, upper, lower)
counted_always test (suc width) first rows more = count_pixels_laid (suc width) first rows (omega arith) test more

-- layers and drawings keep sides
same : (image : Image) → HasDimensionsOf image image
same image = record { width = refl; height = refl; whole = λ h. h }

then_same : (old between new : Image) → HasDimensionsOf old between → HasDimensionsOf between new → HasDimensionsOf old new
then_same old between new a b = record { width = b.width ∙ a.width; height = b.height ∙ a.height; whole = λ h. b.whole (a.whole h) }

module _ (s : Surface) (first : ℕ) where
  layer_keeps : (layer : Layer) (image : Image) → HasDimensionsOf image (apply layer s first image)
  layer_keeps layer image = record {
    width = refl;
    height = refl;
    whole = λ h. record { wide = h.wide; whole = length-map_indexed _ 0 image.colours ∙ h.whole };
  }

  layers_keep : (layers : List Layer) (image : Image) → HasDimensionsOf image (apply_all layers s first image)
  layers_keep [] image = same image
  layers_keep (layer ∷ layers) image = then_same image (apply layer s first image) _ (layer_keeps layer image) (layers_keep layers (apply layer s first image))

  drawings_keep : (drawings : List NumberedDrawing) (image : Image) → HasDimensionsOf image (rows_after drawings s first image)
  drawings_keep [] image = same image
  drawings_keep (drawing ∷ later) image =
      let next = apply_all (layers_of drawing.drawing) s first image in
      then_same image next _ (layers_keep (layers_of drawing.drawing) image) (drawings_keep later next)

module _ (s : Surface) (first : ℕ) where
  layer_laid : (layer : Layer) (upper lower : Image) → IsWholeImage upper → lower.width ≡ upper.width → apply layer s first (laid upper lower) ≡ laid (apply layer s first upper) (apply layer s (first + upper.height) lower)
  layer_laid layer upper lower whole width =
      let test = writes_pixel layer s in
      let ink = ink_of layer s in
      let next : ℕ = first + upper.height in
      let there : repainted test ink upper.width next lower.colours ≡ repainted test ink lower.width next lower.colours = ap (λ (w : ℕ). repainted test ink w next lower.colours) (sym width) in
      let colours =
      repainted_laid upper.width first upper.height whole.wide test ink upper.colours lower.colours whole.whole
      ∙ ap (λ (rest : List Colour). repainted test ink upper.width first upper.colours ++ rest) there in
      ap (λ (all : List Colour). record { width = upper.width; height = upper.height + lower.height; colours = all }) colours

  layers_laid : (layers : List Layer) (upper lower : Image) → IsWholeImage upper → lower.width ≡ upper.width → apply_all layers s first (laid upper lower) ≡ laid (apply_all layers s first upper) (apply_all layers s (first + upper.height) lower)
  layers_laid [] upper lower whole width = refl
  layers_laid (layer ∷ layers) upper lower whole width =
      let up = layer_keeps s first layer upper in
      ap (apply_all layers s first) (layer_laid layer upper lower whole width)
      ∙ layers_laid layers (apply layer s first upper) (apply layer s (first + upper.height) lower) (up.whole whole) width

  drawings_laid : (drawings : List NumberedDrawing) (upper lower : Image) → IsWholeImage upper → lower.width ≡ upper.width → rows_after drawings s first (laid upper lower) ≡ laid (rows_after drawings s first upper) (rows_after drawings s (first + upper.height) lower)
  drawings_laid [] upper lower whole width = refl
  drawings_laid (drawing ∷ later) upper lower whole width =
      let layers = layers_of drawing.drawing in
      let next : ℕ = first + upper.height in
      let new_upper = apply_all layers s first upper in
      let new_lower = apply_all layers s next lower in
      let up = layers_keep s first layers upper in
      let down = layers_keep s next layers lower in
      let e : first + new_upper.height ≡ next = ap (λ (n : ℕ). first + n) up.height in
      ap (rows_after later s first) (layers_laid layers upper lower whole width)
      ∙ drawings_laid later new_upper new_lower (up.whole whole) (down.width ∙ width ∙ sym up.width)
      ∙ ap (λ (n : ℕ). laid (rows_after later s first new_upper) (rows_after later s n new_lower)) e

  module _ (rows more : ℕ) where
    layers_counted : (layers : List Layer) → writes_of_layers layers s first (rows + more) ≡ writes_of_layers layers s first rows + writes_of_layers layers s (first + rows) more
    layers_counted [] = refl
    layers_counted (layer ∷ layers) =
        let here = counted_always (writes_pixel layer s) s.width first rows more in
        let rest = layers_counted layers in omega (arith, here, rest)

    drawings_counted : (drawings : List NumberedDrawing) → writes_of_drawings drawings s first (rows + more) ≡ writes_of_drawings drawings s first rows + writes_of_drawings drawings s (first + rows) more
    drawings_counted [] = refl
    drawings_counted (drawing ∷ later) =
        let here = layers_counted (layers_of drawing.drawing) in
        let rest = drawings_counted later in omega (arith, here, rest)

pub rows_laws : RowsLaws
rows_laws = record {
  layers = λ layers s first upper lower whole width. layers_laid s first layers upper lower whole width;
  drawings = λ drawings s first upper lower whole width. drawings_laid s first drawings upper lower whole width;
  dimensions = λ drawings s first image. drawings_keep s first drawings image;
  layer_writes = λ layers s first rows more. layers_counted s first rows more layers;
  writes = λ drawings s first rows more. drawings_counted s first rows more drawings;
}
