-- The source colours of a blit, between the positions of its corners and in the visible part of its box.
use Rattle.std.proofs.Common.{◌≡◌, ℕ, ◌+◌, ◌-◌, ◌<◌, ◌≤◌, ℤ, pos, ◌+ℤ◌, ◌≤ℤ◌, ◌<ℤ◌, true, List, slice_index_or, Option, Some, None, is_some, arith, refl, sym, ap, ◌∙◌}
use Rattle.std.proofs.lemmas.Bool.{and_from, and_parts}
use Rattle.std.proofs.lemmas.Int.{ints}
use Rattle.std.specs.Prelude.{IfSome}
use Rattle.std.specs.Int.{int_max, int_min}
use Rattle.mapping.specs.Boxes.{box_between}
use Rattle.mapping.specs.Colours.{black_colour}
use Rattle.mapping.specs.PixelBoxes.{from_to_true, in_box, is_from_to}
use Rattle.mapping.specs.declared.geometry.Colour.{Colour}
use Rattle.mapping.specs.declared.geometry.Point.{Point}
use Rattle.mapping.specs.declared.geometry.Rect.{Rect}
use Rattle.draw_ops.specs.Blits.{SourceValue}
use Rattle.raster_ops.specs.Readers.{ReadsSource, row_read}
use Rattle.raster_ops.specs.Sources.{distance, source_colour}
use Rattle.raster_ops.specs.TernaryOps.{ternary_colour}
use Rattle.raster_ops.specs.declared.sources.SourceReader.{SourceReader}
use Rattle.span_fill.specs.Spans.{in_region, in_span}
use Rattle.span_fill.specs.declared.span.Region.{Region}
use Rattle.span_fill.specs.declared.span.Span.{Span}
use Rattle.painting.specs.FillStyles.{colour_seen}
use Rattle.painting.specs.RowPainters.{HoldsRead, ReadsNothing}
use Rattle.painting.specs.SourceRows.{HoldsRow, ReadsBox, ReadsRow}
use Rattle.painting.specs.declared.row_painter.RowOps.{RowOps}
use Rattle.painting.specs.declared.row_painter.RowOps.TheVariants.{EachRow, Repeated, Same}
use Rattle.painting.proofs.TestLemmas.{column_from}

-- the maximum of two ends is as far after the minimum as they are apart
ends_apart : (v w : ℤ) → int_max v w ≡ int_min v w +ℤ pos (distance v w)
ends_apart v w = grind (arith, ints)

greatest_end : (v w near : ℤ) (side : ℕ) → near ≡ int_min v w → side ≡ distance v w → int_max v w ≡ near +ℤ pos side
greatest_end v w near side same long = ends_apart v w ∙ rw (same, long) refl

-- a reader between two corners reads the box between them
pub box_read :
    (reader : Option SourceReader) (p q : Point)
    → IfSome reader (λ r. r.columns.near ≡ int_min p.x q.x) → IfSome reader (λ r. r.columns.side ≡ distance p.x q.x)
    → IfSome reader (λ r. r.rows.near ≡ int_min p.y q.y) → IfSome reader (λ r. r.rows.side ≡ distance p.y q.y)
    → IfSome reader (λ r. ReadsBox r (box_between p q))
box_read None p q left width top height = tt
box_read (Some r) p q left width top height = record {
  left = left;
  right = greatest_end p.x q.x r.columns.near r.columns.side left width;
  top = top;
  bottom = greatest_end p.y q.y r.rows.near r.rows.side top height;
}

-- it has the colours of the source, if there is one
pub read_seen :
    (reader : Option SourceReader) (source : Option SourceValue) (p q : Point) → IfSome reader (λ r. ReadsSource r source p q) → is_some reader ≡ true
    → (table x y : ℕ) (paint old : Colour) → ternary_colour table paint (colour_seen reader x y) old ≡ ternary_colour table paint (source_colour source p q x y) old
read_seen None source p q reads some table x y paint old = cc
read_seen (Some r) source p q reads some table x y paint old = ap (λ (c : Colour). ternary_colour table paint c old) (sym (reads x y))

-- the visible columns and rows of a box lie in it
module _ (box : Rect) (drawn : Region) (boxed : (x y : ℕ) → in_region drawn x y ≡ true → in_box box x y ≡ true) where
  lies : (x y : ℕ) → drawn.columns.from ≤ x → x < drawn.columns.to → drawn.rows.from ≤ y → y < drawn.rows.to → (is_from_to box.l box.r x ≡ true) × (is_from_to box.t box.b y ≡ true)
  lies x y from to low high =
      and_parts (is_from_to box.l box.r x) (is_from_to box.t box.b y)
      (boxed x y (and_from (in_span drawn.columns x) (in_span drawn.rows y) (column_from drawn.columns.from drawn.columns.to x from to) (column_from drawn.rows.from drawn.rows.to y low high)))

last_before : (last to : ℕ) (end : ℤ) → last + 1 ≡ to → pos last <ℤ end → pos to ≤ℤ end
last_before last to end next h = grind (arith, ints)

pub columns_read :
    (source : Option SourceReader) (box : Rect) (drawn : Region)
    → ((x y : ℕ) → in_region drawn x y ≡ true → in_box box x y ≡ true)
    → IfSome source (λ r. ReadsBox r box) → drawn.columns.from < drawn.columns.to
    → (y : ℕ) → drawn.rows.from ≤ y → y < drawn.rows.to → IfSome source (λ r. ReadsRow r drawn.columns y)
columns_read None box drawn boxed reads some y low high = tt
columns_read (Some r) box drawn boxed reads some y low high =
    let last : ℕ = drawn.columns.to - 1 in
    let next : last + 1 ≡ drawn.columns.to = omega (arith, some) in
    let first = lies box drawn boxed drawn.columns.from y (omega arith) some low high in
    let final = lies box drawn boxed last y (omega (arith, some)) (omega (arith, some)) low high in
    let left = (from_to_true box.l box.r drawn.columns.from first.0).0 in
    let right = last_before last drawn.columns.to box.r next (from_to_true box.l box.r last final.0).1 in
    let row = from_to_true box.t box.b y first.1 in
    record {
      left = rw reads.left left;
      right = rw (← reads.right) right;
      top = rw reads.top row.0;
      bottom = rw (← reads.bottom) row.1;
    }

-- a gathered row of the source has at each of its columns the source colour there
pub held_seen :
    (source : Option SourceReader) (columns : Span) (y : ℕ) (sources : List Colour) → IfSome source (λ r. HoldsRow r columns (row_read r y) sources) → is_some source ≡ true
    → (x : ℕ) → columns.from ≤ x → x < columns.to → slice_index_or sources x black_colour ≡ colour_seen source x y
held_seen None columns y sources held some x low high = cc
held_seen (Some r) columns y sources held some x low high = held.read x black_colour low high

-- row operations without a source need nothing gathered; what some columns need, a part of them needs
pub narrowed : (source : Option SourceReader) (columns part : Span) (y : ℕ) → columns.from ≤ part.from → part.to ≤ columns.to → IfSome source (λ r. ReadsRow r columns y) → IfSome source (λ r. ReadsRow r part y)
narrowed None columns part y first last h = tt
narrowed (Some r) columns part y first last h =
    let left = h.left in
    let right = h.right in
    record { left = omega (arith, ints, left, first); right = omega (arith, ints, right, last); top = h.top; bottom = h.bottom }

pub nothing_read : (row_ops : RowOps) (columns : Span) (y : ℕ) (sources : List Colour) → ReadsNothing row_ops → HoldsRead row_ops columns y sources
nothing_read (Same row_op) columns y sources alone = tt
nothing_read (Repeated row_ops) columns y sources alone = tt
nothing_read (EachRow paint) columns y sources alone = rw alone tt
