-- What a canvas's fields show: the rows that its list holds, as its callers see them.
use Rattle.std.proofs.Common.{◌≡◌, ℕ, ◌+◌, ◌-◌, ◌*◌, ◌/◌, ◌%◌, ◌<◌, ◌≤◌, List, length, take, drop, refl, sym, ap, ◌∙◌, subst, arith, vec_len}
use Rattle.std.proofs.lemmas.List.{length-drop, length-take-le}
use Rattle.std.proofs.lemmas.Nat.{div-add-mod', div_below, mod_below, mul-le, row_fits}
use Rattle.mapping.specs.declared.geometry.Colour.{Colour}
use Rattle.canvas.specs.Canvas.{IsCanvas}
use Rattle.canvas.specs.CanvasState.{CanvasState}
use Rattle.canvas.specs.Rows.{row_colours}
use Rattle.canvas.specs.declared.surface.Canvas.TheInside.{Inside}
use Rattle.canvas.proofs.RowLemmas.{length-row_colours, row_part}

-- The list holds the canvas's rows, each a stride behind the one above.
pub record LiesIn (canvas : CanvasState) (stride : ℕ) (borrowed : List Colour) : Type 0 where
  pub wide : 1 ≤ canvas.width
  pub narrow : canvas.width ≤ stride
  pub whole : canvas.rows * stride ≤ length borrowed
  pub shown : canvas.colours ≡ row_colours canvas.rows canvas.width stride borrowed

-- what a canvas's fields show, and that its list holds that
abbrev pub shown_by : Inside → CanvasState
shown_by a = record { width = a.width; first = a.first; rows = a.rows; colours = row_colours a.rows a.width a.stride a.colours.items; writes = a.writes; most = a.most }

pub lies_inside : (a : Inside) (borrowed : List Colour) → IsCanvas a → borrowed ≡ a.colours.items → LiesIn (shown_by a) a.stride borrowed
lies_inside a borrowed is same =
    let long : vec_len a.colours ≡ length a.colours.items = a.colours.ok.0 in
    let wide = is.wide.not_empty in
    let apart = is.apart in
    let whole = is.whole in
    record {
      wide = wide;
      narrow = omega (arith, apart);
      whole = omega (arith, whole, long, ap length same);
      shown = ap (row_colours a.rows a.width a.stride) (sym same);
    }

-- each pixel held has a colour
pub length_shown : (canvas : CanvasState) (stride : ℕ) (borrowed : List Colour) → LiesIn canvas stride borrowed → length canvas.colours ≡ canvas.rows * canvas.width
length_shown canvas stride borrowed lies = ap length lies.shown ∙ length-row_colours canvas.rows canvas.width stride borrowed lies.narrow lies.whole

pub whole_inside : (a : Inside) (now : CanvasState) → shown_by a ≡ now → IsCanvas a → length now.colours ≡ now.rows * now.width
whole_inside a now same is = subst (λ (s : CanvasState). length s.colours ≡ s.rows * s.width) same (length_shown (shown_by a) a.stride a.colours.items (lies_inside a a.colours.items is refl))

-- the part that is lent has as many colours as the span has columns
pub length_part : (place k : ℕ) (borrowed : List Colour) → place + k ≤ length borrowed → length (take k (drop place borrowed)) ≡ k
length_part place k borrowed h = length-take-le k (drop place borrowed) (omega (arith, length-drop place borrowed))

-- A pixel by its number, counted row by row: its column, and that its row lies in the list, which is no longer than this.
pub record RowOf (a : Inside) (index : ℕ) : Type 0 where
  pub below : index / a.width < a.rows
  pub column : index % a.width < a.width
  pub narrow : a.width ≤ a.stride
  pub fits : index / a.width * a.stride + a.stride ≤ length a.colours.items
  pub small : index / a.width * a.stride + a.stride ≤ 67633152

module _ (a : Inside) (now : CanvasState) (same : shown_by a ≡ now) (is : IsCanvas a) (index : ℕ) (held : index < length now.colours) where
  pub row_of : RowOf a index
  row_of =
      let lies = lies_inside a a.colours.items is refl in
      let wide = is.wide.not_empty in let within = is.wide.within in let apart = is.apart in let high = is.high_within in
      let whole = lies.whole in
      let long : length now.colours ≡ a.rows * a.width = subst (λ (s : CanvasState). length s.colours ≡ a.rows * a.width) same (length_shown (shown_by a) a.stride a.colours.items lies) in
      let below : index / a.width < a.rows = div_below index a.width a.rows (omega arith) (omega arith) in
      let fits = row_fits (index / a.width) a.stride a.rows a.stride below (omega arith) in
      let most = mul-le a.rows a.stride 8192 8256 (omega arith) (omega arith) in
      record {
        below = below;
        column = mod_below index a.width (omega arith);
        narrow = lies.narrow;
        fits = omega (arith, fits);
        small = omega (arith, fits, most);
      }

  -- so many pixels of its row from it on are those of the list
  pub part_from : (place k count : ℕ) (borrowed : List Colour) → borrowed ≡ a.colours.items → place ≡ index / a.width * a.stride + index % a.width → k ≡ count → count ≤ a.width - index % a.width → take k (drop place borrowed) ≡ take (length (take k (drop place borrowed))) (drop index now.colours)
  part_from place k count borrowed is_borrowed at counted most =
      let lies = lies_inside a a.colours.items is refl in
      let row = row_of in
      let column = row.column in let fits = row.fits in let narrow = row.narrow in
      let long : length (take k (drop place borrowed)) ≡ k = length_part place k borrowed (omega (arith, at, counted, ap length is_borrowed)) in
      let is_index : index / a.width * a.width + index % a.width ≡ index = div-add-mod' index a.width in
      let here : take k (drop place borrowed) ≡ take k (drop (index / a.width * a.stride + index % a.width) a.colours.items) = rw (at, is_borrowed) refl in
      here
      ∙ sym (row_part a.rows a.width a.stride (index / a.width) (index % a.width) k a.colours.items lies.narrow lies.whole row.below (omega arith))
      ∙ ap (λ (n : ℕ). take k (drop n (shown_by a).colours)) is_index
      ∙ ap (λ (s : CanvasState). take k (drop index s.colours)) same
      ∙ ap (λ (n : ℕ). take n (drop index now.colours)) (sym long)
