-- Parts of a row of mixes, mixed into a row of pixels.
use Rattle.std.proofs.Common.{◌≡◌, ℕ, ◌+◌, ◌-◌, ◌≤◌, ◌<◌, Bool, true, false, ◌&&◌, ◌||◌, eqb, leb, ltb, List, length, take, drop, get_or, refl, sym, ap, ◌∙◌, arith, inl, inr}
use Rattle.std.proofs.lemmas.List.{get_or-take, get_or-drop, length-take-le, length-drop}
use Rattle.std.proofs.lemmas.Bool.{and_parts, and_right, eqb-true, leb-true, ltb-true, le-leb, lt-leb, lt-ltb, le-ltb, false_from_ne_true, cases_lt}
use Rattle.std.proofs.lemmas.Option.{same_Some, slice_get-get_or}
use Rattle.std.proofs.Math.Bool.{and-true}
use Rattle.mapping.specs.Colours.{black_colour, white_colour}
use Rattle.mapping.specs.declared.mix.Mix.{Mix}
use Rattle.mapping.specs.declared.geometry.Colour.{Colour}
use Rattle.mapping.specs.Mixes.{mixed_by}
use Rattle.mapping.specs.Pixels.{is_cell}
use Rattle.canvas.specs.CanvasState.{CanvasState, HasRow}
use Rattle.canvas.specs.MixRows.{mix_at}
use Rattle.canvas.specs.Writing.{Repaints, in_cells, in_row_span}
use Rattle.canvas.specs.WritingLaws.{IsWhole, WritingLaws}

-- a part of a row has as many items as columns
part_long : {A : Type 0} (items : List A) (from to : ℕ) → to ≤ length items → from ≤ to → length (take (to - from) (drop from items)) ≡ to - from
part_long items from to end order =
    let left = length-drop from items in
    length-take-le (to - from) (drop from items) (omega (arith, left, end))

-- each item is that of its column
item_within : {A : Type 0} (items : List A) (d : A) (from k x : ℕ) → from ≤ x → x < from + k → get_or (take k (drop from items)) (x - from) d ≡ get_or items x d
item_within items d from k x low high =
    let at : from + (x - from) ≡ x = omega arith in
    get_or-take k (drop from items) (x - from) d (omega arith) ∙ get_or-drop from items (x - from) d ∙ ap (λ n. get_or items n d) at

mix_within : (keeps flips : List Colour) (from k x : ℕ) → from ≤ x → x < from + k → mix_at (take k (drop from keeps)) (take k (drop from flips)) (x - from) ≡ mix_at keeps flips x
mix_within keeps flips from k x low high = rw (item_within keeps white_colour from k x low high, item_within flips black_colour from k x low high) refl

-- the result for a pixel in a span
pub span_parts : (y from to x row : ℕ) → in_row_span y from to x row ≡ true → (row ≡ y) × (from ≤ x) × (x < to)
span_parts y from to x row t =
    let a = and_parts (eqb row y && leb from x) (ltb x to) t in
    let b = and_parts (eqb row y) (leb from x) a.0 in
    (eqb-true row y b.0, leb-true from x b.1, ltb-true x to a.1)

-- A part of a row of colours is written into its columns.
pub part_put :
    WritingLaws → (colours : List Colour) (y from to : ℕ) (old new : CanvasState) → IsWhole old → to ≤ length colours → from ≤ to
    → Repaints (in_row_span y from (from + length (take (to - from) (drop from colours)))) (λ column row c. get_or (take (to - from) (drop from colours)) (column - from) c) old new
    → Repaints (in_row_span y from to) (λ column row c. get_or colours column c) old new
part_put laws colours y from to old new whole end order r =
    let long = part_long colours from to end order in
    let last : from + length (take (to - from) (drop from colours)) ≡ to = omega (arith, long, order) in
    laws.same _ (in_row_span y from to) _ (λ column row c. get_or colours column c) old new whole
    (λ x row held. ap (λ n. in_row_span y from n x row) last)
    (λ x row c held t.
    let at = span_parts y from _ x row t in
    let low = at.1 in
    let high = at.2 in
    item_within colours c from (to - from) x low (omega (arith, high, last, order)))
    r

-- A part of a row of mixes is mixed into its columns.
pub part_mixed :
    WritingLaws → (keeps flips : List Colour) (y from to : ℕ) (old new : CanvasState) → IsWhole old → to ≤ length keeps → from ≤ to
    → Repaints (in_row_span y from (from + length (take (to - from) (drop from keeps)))) (λ column row c. mixed_by (mix_at (take (to - from) (drop from keeps)) (take (to - from) (drop from flips)) (column - from)) c) old new
    → Repaints (in_row_span y from to) (λ column row c. mixed_by (mix_at keeps flips column) c) old new
part_mixed laws keeps flips y from to old new whole end order r =
    let long = part_long keeps from to end order in
    let last : from + length (take (to - from) (drop from keeps)) ≡ to = omega (arith, long, order) in
    laws.same _ (in_row_span y from to) _ (λ column row c. mixed_by (mix_at keeps flips column) c) old new whole
    (λ x row held. ap (λ n. in_row_span y from n x row) last)
    (λ x row c held t.
    let at = span_parts y from _ x row t in
    let low = at.1 in
    let high = at.2 in
    ap (λ m. mixed_by m c) (mix_within keeps flips from (to - from) x low (omega (arith, high, last, order))))
    r

-- The cells of a row are mixed up to a column, each by the mix at its column.
pub record HasMixedCells (keeps flips : List Colour) (cells y from x : ℕ) (start now : CanvasState) : Type 0 where
  pub whole : IsWhole now
  pub width : now.width ≡ start.width
  pub row : HasRow now y
  pub order : from ≤ x
  pub count : now.writes ≤ start.writes + (x - from)
  pub painted : Repaints (in_cells y from x cells) (λ column row c. mixed_by (mix_at keeps flips column) c) start now

-- there is none before the first
pub no_cells_yet : WritingLaws → (keeps flips : List Colour) (cells y from : ℕ) (start : CanvasState) → IsWhole start → HasRow start y → HasMixedCells keeps flips cells y from from start start
no_cells_yet laws keeps flips cells y from start whole row = record {
  whole = whole;
  width = refl;
  row = row;
  order = omega arith;
  count = omega arith;
  painted = laws.none _ _ start whole
      (λ x r held. false_from_ne_true _ (λ t. let at = span_parts y from from x r (and_parts (in_row_span y from from x r) (is_cell cells x) t).0 in let low = at.1 in let high = at.2 in omega (arith, low, high)));
}

-- one more column
pub one_cell_more :
    WritingLaws → (keeps flips : List Colour) (cells y from x : ℕ) (mix : Mix) (start now new : CanvasState) → IsWhole start → mix_at keeps flips x ≡ mix
    → HasMixedCells keeps flips cells y from x start now
    → Repaints (in_cells y x (x + 1) cells) (λ column row c. mixed_by mix c) now new
    → new.writes ≤ now.writes + (x + 1 - x)
    → HasMixedCells keeps flips cells y from (x + 1) start new
one_cell_more laws keeps flips cells y from x mix start now new whole same h r counted =
    let f : ℕ → ℕ → Colour → Colour = λ column row c. mixed_by (mix_at keeps flips column) c in
    let order = h.order in
    let count = h.count in
    let here : Repaints (in_cells y x (x + 1) cells) f now new =
    laws.same _ _ _ f now new h.whole (λ column row held. refl)
    (λ column row c held t.
    let at = span_parts y x (x + 1) column row (and_parts (in_row_span y x (x + 1) column row) (is_cell cells column) t).0 in
    let low = at.1 in
    let high = at.2 in
    let is : x ≡ column = omega (arith, low, high) in
    ap (λ m. mixed_by m c) (sym same ∙ ap (mix_at keeps flips) is))
    r in
    let apart : (column row : ℕ) → (in_cells y from x cells column row && in_cells y x (x + 1) cells column row) ≡ false =
    λ column row. false_from_ne_true _ (λ t.
    let both = and_parts (in_cells y from x cells column row) (in_cells y x (x + 1) cells column row) t in
    let before = span_parts y from x column row (and_parts (in_row_span y from x column row) (is_cell cells column) both.0).0 in
    let after = span_parts y x (x + 1) column row (and_parts (in_row_span y x (x + 1) column row) (is_cell cells column) both.1).0 in
    let high = before.2 in
    let low = after.1 in
    omega (arith, high, low)) in
    let both = laws.both _ _ f start now new whole (λ column row held. apart column row) h.painted here in
    record {
      whole = laws.stays_whole _ _ now new r h.whole;
      width = r.width ∙ h.width;
      row = record { from_first = rw r.first h.row.from_first; to_last = rw (r.first, r.rows) h.row.to_last };
      order = omega (arith, order);
      count = omega (arith, order, count, counted);
      painted = laws.same _ (in_cells y from (x + 1) cells) f f start new whole (λ column row held. joined (eqb row y) (is_cell cells column) column) (λ column row c held t. refl) both;
    }
  where
    columns : (column : ℕ) → ((leb from column && ltb column x) || (leb x column && ltb column (x + 1))) ≡ (leb from column && ltb column (x + 1))
    columns column = elim (cases_lt column from) [
      | inl out ↦ let order = h.order in simp (lt-leb from column out, lt-leb x column (omega (arith, order, out))) refl
      | inr low ↦ elim (cases_lt column x) [
        | inl left ↦ simp (le-leb from column low, lt-ltb column x left, lt-ltb column (x + 1) (omega (arith, left))) refl
        | inr right ↦ simp (le-leb from column low, le-ltb column x right, le-leb x column right) refl
      ]
    ]

    spread : (r a b c d e i : Bool) → ((a && b) || (c && d)) ≡ (a && e) → (((r && a && b) && i) || ((r && c && d) && i)) ≡ ((r && a && e) && i)
    spread false a b c d e i h = refl
    spread true a b c d e false h = rw (and_right (a && b) false refl, and_right (c && d) false refl, and_right (a && e) false refl) refl
    spread true a b c d e true h = rw (and-true (a && b), and-true (c && d), and-true (a && e)) h

    joined : (r i : Bool) (column : ℕ) → (((r && leb from column && ltb column x) && i) || ((r && leb x column && ltb column (x + 1)) && i)) ≡ ((r && leb from column && ltb column (x + 1)) && i)
    joined r i column = spread r (leb from column) (ltb column x) (leb x column) (ltb column (x + 1)) (ltb column (x + 1)) i (columns column)

-- a mix that exists, whatever is used if one doesn't
item_there : {A : Type 0} (items : List A) (x : ℕ) (c d : A) → x < length items → get_or items x c ≡ get_or items x d
item_there items x c d h = same_Some _ _ (sym (slice_get-get_or items x c h) ∙ slice_get-get_or items x d h)

pub mix_there : (keeps flips : List Colour) (x : ℕ) (d : Colour) → x < length keeps → x < length flips → mix_at keeps flips x ≡ record { keep = get_or keeps x d; flip = get_or flips x d }
mix_there keeps flips x d h i = rw (item_there keeps x white_colour d h, item_there flips x black_colour d i) refl
