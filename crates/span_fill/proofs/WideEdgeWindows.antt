-- What a strip at a row says of the row.
use Rattle.std.proofs.Common.{◌≡◌, ℕ, ◌^◌, ◌≤◌, Bool, true, false, ◌&&◌, ℤ, pos, negsuc, ◌+ℤ◌, ◌-ℤ◌, ◌≤ℤ◌, ◌<ℤ◌, refl, ap, sym, subst, ◌∙◌, arith}
use Rattle.std.specs.Prelude.{FitsSigned, ◌↔◌, IsTrue, unsigned_abs}
use Rattle.std.specs.Int.{int_max, int_min, w32, w64}
use Rattle.std.proofs.lemmas.Int.{ints, by_lt_z, fits_signed_from_abs}
use Rattle.std.proofs.lemmas.Bool.{and_from, and_parts}
use Rattle.mapping.specs.Nibs.{IsNib, reach_before, reach_after}
use Rattle.mapping.specs.PixelBoxes.{from_to_from, from_to_true, is_from_to}
use Rattle.mapping.specs.declared.nib.Nib.{Nib}
use Rattle.span_fill.specs.Clips.{IsIn}
use Rattle.span_fill.specs.MajorLines.{major_of, length_of}
use Rattle.span_fill.specs.declared.major_line.MajorLine.{MajorLine}
use Rattle.span_fill.specs.RowSlopes.{total_of}
use Rattle.span_fill.specs.declared.bounds.CoordinateRange.{CoordinateRange}
use Rattle.span_fill.specs.Spans.{in_span}
use Rattle.span_fill.specs.Strokes.{is_y_major}
use Rattle.span_fill.specs.WideEdges.{HasColumns, HasRow, HasRows, IsDrawn, IsHull, IsRun, IsAtRow, ReachesRows, wide_edge_row_slope, IsGreater, IsLesser, IsMeet, LiesNear, MissesRow, bottom_of, column_in, end_row, high_over, last_in, low_over, part_high, part_low, top_of}
use Rattle.span_fill.specs.WideStrokes.{on_wide_line}
use Rattle.span_fill.specs.declared.line.Line.{Line}
use Rattle.span_fill.specs.declared.span.Span.{Span}
use Rattle.span_fill.specs.declared.wide_edge.WideEdge.{WideEdge}
use Rattle.span_fill.proofs.CoverLemmas.{covered}
use Rattle.span_fill.proofs.SeveralRows.{column_is}
use Rattle.span_fill.proofs.SpanLemmas.{in_from, is_in}
use Rattle.span_fill.proofs.WideLawLemmas.{drawn_x_major, drawn_y_major, x_major_columns, x_major_rows, meet_from, no_pixel, y_major_columns, y_major_rows, y_major_some, wide_exact, window_from}

-- a number of 32 bits
pub least_32 : (v : ℤ) → FitsSigned w32 v → negsuc (2 ^ 31) ≤ℤ v
least_32 (pos n) f = omega (arith, ints)
least_32 (negsuc n) f = let h = f.sfits in omega (arith, ints, h)

pub most_32 : (v : ℤ) → FitsSigned w32 v → v ≤ℤ pos (2 ^ 31)
most_32 (pos n) f = let h = f.sfits in omega (arith, ints, h)
most_32 (negsuc n) f = omega (arith, ints)

pub apart_fits : (low reach : ℤ) → negsuc (2 ^ 31) ≤ℤ low → low ≤ℤ pos (2 ^ 31) → pos 0 ≤ℤ reach → reach ≤ℤ pos 4095 → FitsSigned w64 (low -ℤ reach)
apart_fits low reach a b c d = fits_signed_from_abs w64 (low -ℤ reach) (omega (arith, ints, a, b, c, d))

pub outside_fits : (high reach : ℤ) → negsuc (2 ^ 31) ≤ℤ high → high ≤ℤ pos (2 ^ 31) → pos 0 ≤ℤ reach → reach ≤ℤ pos 4095 → FitsSigned w64 (high +ℤ reach)
outside_fits high reach a b c d = fits_signed_from_abs w64 (high +ℤ reach) (omega (arith, ints, a, b, c, d))

-- the greater and the lesser of two numbers
pub greater_is : (a b : ℤ) → IsGreater a b (int_max a b)
greater_is a b =
    by_lt_z b a
    (λ g. let e : int_max a b ≡ a = grind (arith, ints) in rw e (record { first = omega (arith, ints); second = omega (arith, ints, g); least = λ u h k. h }))
    (λ g. let e : int_max a b ≡ b = grind (arith, ints) in rw e (record { first = g; second = omega (arith, ints); least = λ u h k. k }))

pub lesser_is : (a b : ℤ) → IsLesser a b (int_min a b)
lesser_is a b =
    by_lt_z b a
    (λ g. let e : int_min a b ≡ b = grind (arith, ints) in rw e (record { first = omega (arith, ints, g); second = omega (arith, ints); most = λ u h k. k }))
    (λ g. let e : int_min a b ≡ a = grind (arith, ints) in rw e (record { first = omega (arith, ints); second = g; most = λ u h k. h }))

-- a line without a step has no pixel
pub misses_none : (nib : Nib) (y_major : Bool) (line : Line) (row : ℤ) → y_major ≡ is_y_major line → length_of (major_of y_major line) ≡ 0 → MissesRow nib line row
misses_none nib true line row axis none x t = let more = y_major_some line axis in absurd (omega (arith, more, none))
misses_none nib false line row axis none x t = let c = covered nib line x row t in no_pixel line c.u c.v axis none c.on

-- where the last row's columns end
end_is : (y_major : Bool) (top bottom : ℤ) → top ≤ℤ bottom → last_in y_major top (unsigned_abs (bottom -ℤ top)) ≡ end_row y_major bottom
end_is true top bottom h = omega (arith, ints, h)
end_is false top bottom h = omega (arith, ints, h)

pub near_exact : (nib : Nib) (row : ℤ) (s : WideEdge) → IsNib nib → IsAtRow nib row s → (x : ℤ) → IsTrue (on_wide_line nib s.line x row) ↔ LiesNear nib (part_low s) (part_high s) x
near_exact nib row s is at x =
    let top = top_of nib row s.rows.from in
    let bottom = bottom_of nib row s.rows.to in
    let window = window_from nib row s.rows.from s.rows.to top bottom (greater_is (row -ℤ pos (reach_after nib.y)) s.rows.from) (lesser_is (row +ℤ pos (reach_before nib.y)) (s.rows.to -ℤ pos 1)) at.order in
    let slope = wide_edge_row_slope s in
    let end = last_in s.y_major top (unsigned_abs (bottom -ℤ top)) in
    let first : column_in slope s.line.from top ≡ s.first.column = column_is (total_of slope s.line.from top) slope.divisor s.first at.first in
    let there : column_in slope s.line.from (end_row s.y_major bottom) ≡ s.last.column = column_is (total_of slope s.line.from (end_row s.y_major bottom)) slope.divisor s.last at.last in
    let last : column_in slope s.line.from end ≡ s.last.column = ap (λ (r : ℤ). column_in slope s.line.from r) (end_is s.y_major top bottom at.order) ∙ there in
    let low : low_over (column_in slope s.line.from top) (column_in slope s.line.from end) ≡ low_over s.first.column s.last.column =
    ap (λ (v : ℤ). low_over v (column_in slope s.line.from end)) first ∙ ap (λ (v : ℤ). low_over s.first.column v) last in
    let high : high_over s.y_major (column_in slope s.line.from top) (column_in slope s.line.from end) ≡ high_over s.y_major s.first.column s.last.column =
    ap (λ (v : ℤ). high_over s.y_major v (column_in slope s.line.from end)) first ∙ ap (λ (v : ℤ). high_over s.y_major s.first.column v) last in
    let meet = meet_from (low_over s.first.column s.last.column) s.columns.from (high_over s.y_major s.first.column s.last.column) s.columns.to (part_low s) (part_high s)
    (greater_is (low_over s.first.column s.last.column) s.columns.from) (lesser_is (high_over s.y_major s.first.column s.last.column) s.columns.to) in
    let met = subst (λ (a : ℤ). IsMeet a s.columns.from (high_over s.y_major (column_in slope s.line.from top) (column_in slope s.line.from end)) s.columns.to (part_low s) (part_high s)) (sym low)
    (subst (λ (b : ℤ). IsMeet (low_over s.first.column s.last.column) s.columns.from b s.columns.to (part_low s) (part_high s)) (sym high) meet) in
    wide_exact nib s.y_major s.line row s.rows.from s.rows.to s.columns.from s.columns.to top bottom (part_low s) (part_high s) x is at.drawn at.rows at.columns window met

-- of some columns, those between two coordinates
pub seen_near : (nib : Nib) (low high : ℤ) (columns span : Span) (x : ℕ) → low <ℤ high
    → in_span span x ≡ (in_span columns x && is_from_to (low -ℤ pos (reach_before nib.x)) (high +ℤ pos (reach_after nib.x)) x) → IsIn columns x
    → IsIn span x ↔ LiesNear nib low high (pos x)
seen_near nib low high columns span x some e inside = (
  λ h.
      let parts = and_parts (in_span columns x) (is_from_to (low -ℤ pos (reach_before nib.x)) (high +ℤ pos (reach_after nib.x)) x) (sym e ∙ in_from span x h) in
      let range = from_to_true (low -ℤ pos (reach_before nib.x)) (high +ℤ pos (reach_after nib.x)) x parts.1 in
      record { some = some; left = range.0; right = range.1 },
  λ h.
      is_in span x (e ∙ and_from (in_span columns x) (is_from_to (low -ℤ pos (reach_before nib.x)) (high +ℤ pos (reach_after nib.x)) x) (in_from columns x inside)
      (from_to_from (low -ℤ pos (reach_before nib.x)) (high +ℤ pos (reach_after nib.x)) x h.left h.right)),
)

-- and none where nothing lies between
pub seen_none : (nib : Nib) (low high : ℤ) (from x : ℕ) → high ≤ℤ low → IsIn (record { from = from; to = from }) x ↔ LiesNear nib low high (pos x)
seen_none nib low high from x none = ((λ h. let a = h.0 in let b = h.1 in absurd (omega (arith, a, b))), λ h. let k = h.some in absurd (omega (arith, ints, k, none)))

-- of a line either way
pub rows_have : (y_major : Bool) (line : Line) (major : MajorLine) (from to : ℤ) → y_major ≡ is_y_major line → major ≡ major_of y_major line
    → (y_major ≡ true → IsRun major from to) → (y_major ≡ false → IsHull major from to) → HasRows y_major line from to
rows_have true line major from to axis is run hull = y_major_rows line from to axis (subst (λ (k : MajorLine). IsRun k from to) is (run refl))
rows_have false line major from to axis is run hull = x_major_rows line from to axis (subst (λ (k : MajorLine). IsHull k from to) is (hull refl))

pub columns_have : (y_major : Bool) (line : Line) (major : MajorLine) (from to : ℤ) → y_major ≡ is_y_major line → major ≡ major_of y_major line
    → (y_major ≡ true → IsHull major from to) → (y_major ≡ false → IsRun major from to) → HasColumns y_major line from to
columns_have true line major from to axis is hull run = y_major_columns line from to axis (subst (λ (k : MajorLine). IsHull k from to) is (hull refl))
columns_have false line major from to axis is hull run = x_major_columns line from to axis (subst (λ (k : MajorLine). IsRun k from to) is (run refl))

pub drawn_of : (y_major : Bool) (line : Line) → y_major ≡ is_y_major line → 1 ≤ length_of (major_of y_major line) → IsDrawn y_major line
drawn_of true line axis some = drawn_y_major line axis
drawn_of false line axis some = drawn_x_major line axis some

-- the rows of a range from which a nib reaches others
pub rows_reached :
    (nib : Nib) (rows seen : CoordinateRange) (y : ℤ) → (seen.from ≤ℤ y ↔ ((rows.from -ℤ pos (reach_before nib.y)) ≤ℤ y))
    → (seen.to ≤ℤ y ↔ ((rows.to +ℤ pos (reach_after nib.y)) ≤ℤ y)) → HasRow seen y ↔ ReachesRows nib rows y
rows_reached nib rows seen y from to = (
  λ h. record {
    first = from.0 h.0;
    last = by_lt_z y (rows.to +ℤ pos (reach_after nib.y)) (λ g. g) (λ g. let k = to.1 g in let m = h.1 in absurd (omega (arith, ints, k, m)));
  },
  λ h. (
    from.1 h.first,
    by_lt_z y seen.to (λ g. g) (λ g. let k = to.0 g in let m = h.last in absurd (omega (arith, ints, k, m))),
  ),
)
