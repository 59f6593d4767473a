-- Rows on which a drawing has nothing stay as they are.
use Rattle.std.proofs.Common.{◌≡◌, ℕ, zero, ◌+◌, ◌-◌, ◌*◌, ◌/◌, ◌%◌, ◌<◌, ◌≤◌, inl, inr, Bool, false, cond, List, [], ◌∷◌, length, refl, ap, ◌∙◌, arith}
use Rattle.std.proofs.Math.Nat.{div-lt_iff_lt-mul, div-mul-le_self, lt-div-mul-add}
use Rattle.std.proofs.lemmas.Bool.{false_from_ne_true}
use Rattle.std.proofs.lemmas.Int.{ints}
use Rattle.std.proofs.lemmas.Nat.{le-div}
use Rattle.std.proofs.lemmas.List.Elements.{All-head, All-tail}
use Rattle.std.specs.List.{All}
use Rattle.mapping.specs.CellLaws.{CellLaws, WideCellLaws}
use Rattle.mapping.specs.Image.{Image}
use Rattle.mapping.specs.IndexLaws.{count_indexes_none, map_indexed_none}
use Rattle.mapping.specs.Nibs.{reach_after, reach_before}
use Rattle.mapping.specs.Pixels.{count_pixels, repainted}
use Rattle.mapping.specs.PlacingLaws.{PlacingLaws, ShowsFrame}
use Rattle.mapping.specs.Surface.{Surface}
use Rattle.mapping.specs.declared.geometry.Colour.{Colour}
use Rattle.mapping.specs.declared.geometry.Rect.{Rect}
use Rattle.mapping.specs.declared.nib.Nib.{Nib}
use Rattle.dc_stack.specs.Clip.{placed_box}
use Rattle.dc_stack.specs.Drawing.{drawing_nib}
use Rattle.span_fill.specs.LineBoxes.{LineBoxLaws}
use Rattle.span_fill.specs.WideStrokes.{WideStrokeLaws, widened}
use Rattle.preflight_cert.specs.Apply.{apply, apply_all, ink_of}
use Rattle.preflight_cert.specs.Layer.{Layer, layers_of}
use Rattle.preflight_cert.specs.MissedRowsLaws.{LiesOutside, MissedRowsLaws}
use Rattle.preflight_cert.specs.RowsLaws.{IsWholeImage}
use Rattle.preflight_cert.specs.Shape.{shape_nib}
use Rattle.preflight_cert.specs.Writes.{writes_of_layers, writes_pixel}
use Rattle.preflight_cert.proofs.LayerLemmas.{IsLayerIn, layers_in, written_reaches}

-- of a nib no smaller no fewer rows lie before and after the one that it is led along
before_grows : (n wider : ℕ) → n ≤ wider → reach_before n ≤ reach_before wider
before_grows n wider h = le-div (reach_before n) (wider - 1) 2 (omega arith) (omega (arith, div-mul-le_self (n - 1) 2, h))

after_grows : (n wider : ℕ) → n ≤ wider → reach_after n ≤ reach_after wider
after_grows n wider h =
    let some : 0 < 2 = omega arith in
    omega (arith, h, div-mul-le_self (n - 1) 2, lt-div-mul-add {a = n - 1} {b = 2} some, div-mul-le_self (wider - 1) 2, lt-div-mul-add {a = wider - 1} {b = 2} some)

module _ (cell_laws : CellLaws) (wide_laws : WideCellLaws) (boxes : LineBoxLaws) (strokes : WideStrokeLaws) (placing : PlacingLaws) (box : Rect) (nib : Surface → Nib) (s : Surface) (shows : ShowsFrame s) (first rows : ℕ) (beside : LiesOutside (widened (nib s) (placed_box s box)) first rows) where
  -- no pixel of the rows is written
  unwritten : (layer : Layer) (x y : ℕ) → IsLayerIn box nib layer → first ≤ y → y < first + rows → writes_pixel layer s x y ≡ false
  unwritten layer x y h low high = false_from_ne_true (writes_pixel layer s x y)
      (λ t.
      let p = (written_reaches cell_laws wide_laws boxes strokes placing box nib s shows layer x y h t).pixel in
      let top = p.top in
      let bottom = p.bottom in
      let before = before_grows (shape_nib layer.shape s).y (nib s).y (h.within s).y in
      let after = after_grows (shape_nib layer.shape s).y (nib s).y (h.within s).y in
      elim beside [
        | inl above ↦ omega (arith, ints, above, bottom, low, after)
        | inr below ↦ omega (arith, ints, below, top, high, before)
      ])

  module _ (width : ℕ) (wide : 1 ≤ width) where
    at_index : (layer : Layer) → IsLayerIn box nib layer → (i : ℕ) → i < rows * width → writes_pixel layer s (i % width) (first + i / width) ≡ false
    at_index layer h i less =
        let some : zero < width = omega (arith, wide) in
        let row : i / width < rows = (div-lt_iff_lt-mul some).1 less in
        unwritten layer (i % width) (first + i / width) h (omega arith) (omega (arith, row))

    layer_leaves : (layer : Layer) (colours : List Colour) → IsLayerIn box nib layer → length colours ≡ rows * width → repainted (writes_pixel layer s) (ink_of layer s) width first colours ≡ colours
    layer_leaves layer colours h long = map_indexed_none _ 0 colours
        (λ i c low less.
        let within : i < rows * width = omega (arith, less, long) in
        ap (λ (b : Bool). cond b (ink_of layer s (i % width) (first + i / width) c) c) (at_index layer h i within))

    layer_counts : (layer : Layer) → IsLayerIn box nib layer → count_pixels (writes_pixel layer s) width first rows ≡ 0
    layer_counts layer h = count_indexes_none _ 0 (rows * width) (λ i low less. at_index layer h i (omega (arith, less)))

  layers_leave : (layers : List Layer) (image : Image) → All (IsLayerIn box nib) layers → IsWholeImage image → image.height ≡ rows → apply_all layers s first image ≡ image
  layers_leave [] image all whole high = refl
  layers_leave (layer ∷ layers) image all whole high =
      let long : length image.colours ≡ rows * image.width = whole.whole ∙ ap (λ (n : ℕ). n * image.width) high in
      let colours = layer_leaves image.width whole.wide layer image.colours (All-head (IsLayerIn box nib) layer layers all) long in
      let same : apply layer s first image ≡ image = ap (λ (all_colours : List Colour). record { width = image.width; height = image.height; colours = all_colours }) colours in
      ap (apply_all layers s first) same ∙ layers_leave layers image (All-tail (IsLayerIn box nib) layer layers all) whole high

  layers_count : 1 ≤ s.width → (layers : List Layer) → All (IsLayerIn box nib) layers → writes_of_layers layers s first rows ≡ 0
  layers_count wide [] all = refl
  layers_count wide (layer ∷ layers) all =
      let here = layer_counts s.width wide layer (All-head (IsLayerIn box nib) layer layers all) in
      let rest = layers_count wide layers (All-tail (IsLayerIn box nib) layer layers all) in omega (arith, here, rest)

pub missed_rows_laws : CellLaws → WideCellLaws → LineBoxLaws → WideStrokeLaws → PlacingLaws → MissedRowsLaws
missed_rows_laws cell_laws wide_laws boxes strokes placing = record {
  image = λ drawing box s first image shows all whole beside. layers_leave cell_laws wide_laws boxes strokes placing box (drawing_nib drawing) s shows first image.height beside (layers_of drawing) image (layers_in box drawing all) whole refl;
  writes = λ drawing box s first rows shows all wide beside. layers_count cell_laws wide_laws boxes strokes placing box (drawing_nib drawing) s shows first rows beside wide (layers_of drawing) (layers_in box drawing all);
}
