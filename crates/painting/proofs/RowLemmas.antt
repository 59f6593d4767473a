-- A shape is painted row by row.
use Rattle.std.proofs.Common.{◌≡◌, ℕ, suc, ◌+◌, ◌*◌, ◌^◌, ◌<◌, ◌≤◌, Bool, true, false, ◌&&◌, ◌||◌, ◌==◌, nat_lt, List, [], ◌∷◌, ◌⊎◌, inl, inr, arith, refl, sym, ◌∙◌, subst}
use Rattle.std.proofs.lemmas.Bool.{and_from, and_parts, false_from_ne_true, true≢false, lt-ltb, ltb-true, eq-eqb, eqb-true, or_cases, or_left, or_right}
use Rattle.mapping.specs.TestLaws.{same_test}
use Rattle.mapping.specs.declared.geometry.Colour.{Colour}
use Rattle.mapping.specs.declared.geometry.Rect.{Rect}
use Rattle.canvas.specs.CanvasState.{CanvasState, HasPixel, HasRow}
use Rattle.canvas.specs.Writing.{Repaints}
use Rattle.canvas.specs.WritingLaws.{IsWhole, WritingLaws}
use Rattle.dc_stack.specs.Clip.{in_boxes, in_kept}
use Rattle.span_fill.specs.Spans.{AreApart, AreRow, in_region, in_span, in_spans}
use Rattle.span_fill.specs.declared.span.Region.{Region}
use Rattle.span_fill.specs.declared.span.Span.{Span}
use Rattle.painting.specs.Painted.{PaintValue, paints}
use Rattle.painting.specs.Regions.{HasVisible}
use Rattle.painting.specs.RowOps.{inked, is_inked}
use Rattle.painting.specs.RowsPainted.{paints_above, paints_row}
use Rattle.painting.specs.Strips.{is_painted, is_uncut}
use Rattle.painting.specs.declared.row_op.RowOp.{RowOp}
use Rattle.painting.proofs.TestLemmas.{column_from, column_true}

-- separate spans between two numbers have no other numbers
pub within_ends : (first last : ℕ) (spans : List Span) (x : ℕ) → AreApart first last spans → in_spans spans x ≡ true → (first ≤ x) × (x < last)
within_ends first last [] x apart h = absurd (true≢false (sym h))
within_ends first last (span ∷ spans) x apart h =
    let low = apart.0 in
    let high = apart.2 in
    elim (or_cases (in_span span x) (in_spans spans x) h) [
      | inl here ↦ let at = column_true span.from span.to x here in let from = at.0 in let to = at.1 in (omega (arith, low, from), omega (arith, high, to))
      | inr there ↦
          let later = within_ends (suc span.to) last spans x apart.3 there in
          let from = later.0 in
          let order = apart.1 in (omega (arith, low, order, from), later.1)
    ]

-- the spans of a row have what the test accepts of the interval
pub spans_are : (interval : Span) (spans : List Span) (test : ℕ → Bool) (x : ℕ) → AreRow test interval spans → in_spans spans x ≡ (in_span interval x && test x)
spans_are interval spans test x row = same_test _ _
    (λ h.
    let at = within_ends interval.from interval.to spans x row.apart h in
    and_from (in_span interval x) (test x) (column_from interval.from interval.to x at.0 at.1) (sym (row.exact x at.0 at.1) ∙ h))
    (λ h.
    let parts = and_parts (in_span interval x) (test x) h in
    let at = column_true interval.from interval.to x parts.0 in row.exact x at.0 at.1 ∙ parts.1)

-- spans that are separate within an interval are separate within a larger one
pub apart_within : (first last lower upper : ℕ) (spans : List Span) → lower ≤ first → last ≤ upper → AreApart first last spans → AreApart lower upper spans
apart_within first last lower upper [] h k apart = apart
apart_within first last lower upper (span ∷ spans) h k apart =
    let low = apart.0 in
    let high = apart.2 in
    (omega (arith, low, h), apart.1, omega (arith, high, k), apart_within (suc span.to) last (suc span.to) upper spans (omega arith) k apart.3)

-- what holds for a painted pixel
painted_parts : (row_op : RowOp) (cuts : List Rect) (y : ℕ) (columns : ℕ → Bool) (column row : ℕ) → is_painted row_op cuts y columns column row ≡ true → ((row == y) ≡ true) × (columns column ≡ true) × (is_uncut cuts column row ≡ true) × (is_inked row_op column ≡ true)
painted_parts row_op cuts y columns column row h =
    let a = and_parts ((row == y && columns column) && is_uncut cuts column row) (is_inked row_op column) h in
    let b = and_parts (row == y && columns column) (is_uncut cuts column row) a.0 in
    let c = and_parts (row == y) (columns column) b.0 in
    (c.0, c.1, b.1, a.1)

paints_parts : (paint : PaintValue) (shape : ℕ → ℕ → Bool) (x y : ℕ) → paints paint shape x y ≡ true → (in_boxes paint.clip x y ≡ true) × (shape x y ≡ true) × (paint.has x y ≡ true)
paints_parts paint shape x y h =
    let a = and_parts (in_boxes paint.clip x y && shape x y) (paint.has x y) h in
    let b = and_parts (in_boxes paint.clip x y) (shape x y) a.0 in
    (b.0, b.1, a.1)

module _ (paint : PaintValue) (shape : ℕ → ℕ → Bool) where
  -- the rows up to one are those above it and that row itself
  pub above_and_row : (y column row : ℕ) → (paints_above paint shape y column row || paints_row paint shape y column row) ≡ paints_above paint shape (suc y) column row
  above_and_row y column row = same_test _ _
      (λ h. elim (or_cases (paints_above paint shape y column row) (paints_row paint shape y column row) h) [
        | inl above ↦ let p = and_parts (paints paint shape column row) _ above in let less = ltb-true row y p.1 in and_from (paints paint shape column row) _ p.0 (lt-ltb row (suc y) (omega (arith, less)))
        | inr here ↦ let p = and_parts (paints paint shape column row) _ here in let same = eqb-true row y p.1 in and_from (paints paint shape column row) _ p.0 (lt-ltb row (suc y) (omega (arith, same)))
      ])
      (λ h.
      let p = and_parts (paints paint shape column row) _ h in
      let less = ltb-true row (suc y) p.1 in
      elim (before_or_at row y less) [
        | inl above ↦ or_left _ _ (and_from (paints paint shape column row) _ p.0 (lt-ltb row y above))
        | inr here ↦ or_right _ _ (and_from (paints paint shape column row) _ p.0 (eq-eqb row y here))
      ])
    where
      before_or_at : (n m : ℕ) → n < suc m → (n < m) ⊎ (n ≡ m)
      before_or_at n m h = grind (arith)

  -- they share no pixel
  pub above_not_row : (y column row : ℕ) → (paints_above paint shape y column row && paints_row paint shape y column row) ≡ false
  above_not_row y column row = same_test _ _
      (λ h.
      let p = and_parts (paints_above paint shape y column row) (paints_row paint shape y column row) h in
      let above = ltb-true row y (and_parts (paints paint shape column row) _ p.0).1 in
      let here = eqb-true row y (and_parts (paints paint shape column row) _ p.1).1 in absurd (omega (arith, above, here)))
      (λ e. cc)

  module _ (row_op : RowOp) (columns : ℕ → Bool) (y column : ℕ) (test : is_inked row_op column ≡ paint.has column y) (same : columns column ≡ (in_kept paint.clip.kept column y && shape column y)) where
    -- what the row operation writes of the row is what the paint writes there
    row_op_paints : (row : ℕ) → is_painted row_op paint.clip.cuts y columns column row ≡ true → paints_row paint shape y column row ≡ true
    row_op_paints row h =
        let clip = paint.clip in
        let a = painted_parts row_op clip.cuts y columns column row h in
        let here = eqb-true row y a.0 in
        let d = and_parts (in_kept clip.kept column y) (shape column y) (sym same ∙ a.1) in
        let uncut : is_uncut clip.cuts column y ≡ true = subst (λ (r : ℕ). is_uncut clip.cuts column r ≡ true) here a.2 in
        let clipped : in_boxes clip column y ≡ true = and_from (in_kept clip.kept column y) (is_uncut clip.cuts column y) d.0 uncut in
        let painted : paints paint shape column y ≡ true = and_from (in_boxes clip column y && shape column y) (paint.has column y) (and_from (in_boxes clip column y) (shape column y) clipped d.1) (sym test ∙ a.3) in
        and_from (paints paint shape column row) (row == y) (subst (λ (r : ℕ). paints paint shape column r ≡ true) (sym here) painted) a.0

    paints_row_op : (row : ℕ) → paints_row paint shape y column row ≡ true → is_painted row_op paint.clip.cuts y columns column row ≡ true
    paints_row_op row h =
        let clip = paint.clip in
        let a = and_parts (paints paint shape column row) (row == y) h in
        let here = eqb-true row y a.1 in
        let painted : paints paint shape column y ≡ true = subst (λ (r : ℕ). paints paint shape column r ≡ true) here a.0 in
        let b = paints_parts paint shape column y painted in
        let c = and_parts (in_kept clip.kept column y) (is_uncut clip.cuts column y) b.0 in
        let uncut : is_uncut clip.cuts column row ≡ true = subst (λ (r : ℕ). is_uncut clip.cuts column r ≡ true) (sym here) c.1 in
        let within : columns column ≡ true = same ∙ and_from (in_kept clip.kept column y) (shape column y) c.0 b.1 in
        and_from ((row == y && columns column) && is_uncut clip.cuts column row) (is_inked row_op column) (and_from (row == y && columns column) (is_uncut clip.cuts column row) (and_from (row == y) (columns column) a.1 within) uncut) (test ∙ b.2)

    pub row_painted : (row : ℕ) → is_painted row_op paint.clip.cuts y columns column row ≡ paints_row paint shape y column row
    row_painted row = same_test _ _ (row_op_paints row) (paints_row_op row)

  -- the rows before this one are painted
  pub record HasRowsPainted (y : ℕ) (start now : CanvasState) : Type 0 where
    pub whole : IsWhole now
    pub painted : Repaints (paints_above paint shape y) paint.makes start now

  module _ (laws : WritingLaws) (start : CanvasState) (whole : IsWhole start) where
    -- no row is painted, if there is nothing above the first
    pub before_first : (first : ℕ) → ((x y : ℕ) → HasPixel start x y → paints paint shape x y ≡ true → first ≤ y) → HasRowsPainted first start start
    before_first first within = record {
      whole = whole;
      painted = laws.none (paints_above paint shape first) paint.makes start whole (λ x y held. false_from_ne_true (paints_above paint shape first x y)
          (λ h.
          let p = and_parts (paints paint shape x y) (nat_lt y first) h in
          let less = ltb-true y first p.1 in
          let from = within x y held p.0 in
          absurd (omega (arith, less, from))));
    }

    -- one more row
    pub one_row_more : (now new : CanvasState) (y : ℕ) (row_op : RowOp) (columns : ℕ → Bool) → ((x : ℕ) → is_inked row_op x ≡ paint.has x y) → ((x : ℕ) (old : Colour) → columns x ≡ true → is_uncut paint.clip.cuts x y ≡ true → is_inked row_op x ≡ true → inked row_op x old ≡ paint.makes x y old) → ((x : ℕ) → x < start.width → columns x ≡ (in_kept paint.clip.kept x y && shape x y)) → HasRowsPainted y start now → Repaints (is_painted row_op paint.clip.cuts y columns) (λ column row old. inked row_op column old) now new → HasRowsPainted (y + 1) start new
    one_row_more now new y row_op columns test colour same so_far row =
        let clip = paint.clip in
        let width = so_far.painted.width in
        let here = laws.same (is_painted row_op clip.cuts y columns) (paints_row paint shape y) (λ column r old. inked row_op column old) paint.makes now new so_far.whole
        (λ x r held. let column = held.column in row_painted row_op columns y x (test x) (same x (omega (arith, column, width))) r)
        (λ x r old held painted.
        let a = painted_parts row_op clip.cuts y columns x r painted in
        let at = eqb-true r y a.0 in
        subst (λ (q : ℕ). inked row_op x old ≡ paint.makes x q old) (sym at) (colour x old a.1 (subst (λ (q : ℕ). is_uncut clip.cuts x q ≡ true) at a.2) a.3))
        row in
        let next : suc y ≡ y + 1 = omega arith in
        let both = laws.both (paints_above paint shape y) (paints_row paint shape y) paint.makes start now new whole (λ x r held. above_not_row y x r) so_far.painted here in
        record {
          whole = laws.stays_whole _ _ now new row so_far.whole;
          painted = subst (λ (n : ℕ). Repaints (paints_above paint shape n) paint.makes start new) next (laws.same (λ x r. paints_above paint shape y x r || paints_row paint shape y x r) (paints_above paint shape (suc y)) paint.makes paint.makes start new whole (λ x r held. above_and_row y x r) (λ x r old held t. refl) both);
        }

    -- all rows are painted, if there is nothing from the last one on
    pub after_last : (now : CanvasState) (end : ℕ) → ((x y : ℕ) → HasPixel start x y → paints paint shape x y ≡ true → y < end) → HasRowsPainted end start now → Repaints (paints paint shape) paint.makes start now
    after_last now end within so_far =
        laws.same (paints_above paint shape end) (paints paint shape) paint.makes paint.makes start now whole
        (λ x y held. same_test _ _ (λ h. (and_parts (paints paint shape x y) (nat_lt y end) h).0) (λ h. and_from (paints paint shape x y) (nat_lt y end) h (lt-ltb y end (within x y held h))))
        (λ x y old held t. refl) so_far.painted

    -- nothing is painted, if there is nothing
    pub nothing_painted : ((x y : ℕ) → HasPixel start x y → paints paint shape x y ≡ true → ⊥) → Repaints (paints paint shape) paint.makes start start
    nothing_painted none = laws.none (paints paint shape) paint.makes start whole (λ x y held. false_from_ne_true (paints paint shape x y) (none x y held))

-- the canvas has each pixel of its rows
pub pixel_held : (canvas : CanvasState) (x y : ℕ) → x < canvas.width → HasRow canvas y → HasPixel canvas x y
pixel_held canvas x y column row = record { column = column; from_first = row.from_first; to_last = row.to_last }

-- a region that contains everything visible of a shape
module _ (paint : PaintValue) (shape : ℕ → ℕ → Bool) (canvas : CanvasState) (region : Region) (visible : HasVisible paint.clip shape canvas region) where
  -- it contains each pixel that is painted
  pub seen : (x y : ℕ) → HasPixel canvas x y → paints paint shape x y ≡ true → in_region region x y ≡ true
  seen x y held h =
      let a = paints_parts paint shape x y h in
      let b = and_parts (in_kept paint.clip.kept x y) (is_uncut paint.clip.cuts x y) a.0 in visible.all x y held b.0 a.1

  -- each pixel is in one of its rows
  pub seen_in_rows : (x y : ℕ) → HasPixel canvas x y → paints paint shape x y ≡ true → (region.rows.from ≤ y) × (y < region.rows.to)
  seen_in_rows x y held h =
      column_true region.rows.from region.rows.to y (and_parts (in_span region.columns x) (in_span region.rows y) (seen x y held h)).1

-- the writes of a surface are at most as many as its pixels
pub few_written : WritingLaws → (test : ℕ → ℕ → Bool) (f : ℕ → ℕ → Colour → Colour) (start now : CanvasState) → Repaints test f start now → start.rows * start.width ≤ 2 ^ 26 → now.writes ≤ start.writes + 2 ^ 26
few_written laws test f start now r pixels = let bound = laws.bounded test f start now r in omega (arith, bound, pixels)
