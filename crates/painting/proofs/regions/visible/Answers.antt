use Rattle.std.proofs.Common.{◌≡◌, ◌<◌, ◌≤◌, arith, Bool, ◌&&◌, true, refl}
use Rattle.std.proofs.lemmas.Bool.{and_from}
use Rattle.mapping.specs.PixelBoxes.{is_from_to}
use Rattle.span_fill.specs.Spans.{in_span}
use Rattle.painting.proofs.TestLemmas.{column_from}
use Rattle.painting.proofs.regions.visible.Goals as goal

-- both tests, if the columns and rows of the canvas pass
both : (columns rows narrowed_columns narrowed_rows a b : Bool) → columns ≡ true → rows ≡ true → narrowed_columns ≡ (columns && a) → narrowed_rows ≡ (rows && b) → (narrowed_columns && narrowed_rows) ≡ (a && b)
both columns rows narrowed_columns narrowed_rows a b c r h k = rw (h, k, c, r) refl

pub returns-in-None-clause-kept : goal.returns-in-None-clause-kept
returns-in-None-clause-kept c = λ x y held.
    let first = held.from_first in
    let last = held.to_last in
    let from = c.rows_held.ensures.from in
    let to = c.rows_held.ensures.to in
    let column : x < c.width.result = rw c.width.ensures.width held.column in
    let low : c.rows_held.result.from ≤ y = omega (arith, first, from) in
    let high : y < c.rows_held.result.to = omega (arith, last, to) in
    rw c.in-None.is (and_from (in_span (record { from = 0; to = c.width.result }) x) (in_span c.rows_held.result y) (column_from 0 c.width.result x (omega arith) column) (column_from c.rows_held.result.from c.rows_held.result.to y low high))

pub returns-in-Some-clause-kept : goal.returns-in-Some-clause-kept
returns-in-Some-clause-kept c = λ x y held.
    let kept = c.in-Some.kept.placed in
    let first = held.from_first in
    let last = held.to_last in
    let from = c.rows_held.ensures.from in
    let to = c.rows_held.ensures.to in
    let column : x < c.width.result = rw c.width.ensures.width held.column in
    let low : c.rows_held.result.from ≤ y = omega (arith, first, from) in
    let high : y < c.rows_held.result.to = omega (arith, last, to) in
    rw c.in-Some.is (both (in_span (record { from = 0; to = c.width.result }) x) (in_span c.rows_held.result y) _ _ (is_from_to kept.l kept.r x) (is_from_to kept.t kept.b y) (column_from 0 c.width.result x (omega arith) column) (column_from c.rows_held.result.from c.rows_held.result.to y low high) (c.common.ensures.has_columns x) (c.common.ensures.has_rows y))
