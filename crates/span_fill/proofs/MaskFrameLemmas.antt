-- Where rows of lines lie in a mask, and the columns of a region.
use Rattle.std.proofs.Common.{◌≡◌, ℕ, ◌+◌, ◌-◌, ◌<◌, ◌≤◌, ◌&&◌, ℤ, pos, arith, sym, ◌∙◌}
use Rattle.std.proofs.lemmas.Bool.{and_from, and_parts}
use Rattle.std.proofs.lemmas.Int.{ints}
use Rattle.mapping.specs.PixelBoxes.{from_to_from, from_to_true, is_from_to}
use Rattle.mapping.specs.TestLaws.{same_test}
use Rattle.span_fill.specs.Clips.{IsIn}
use Rattle.span_fill.specs.Spans.{in_span}
use Rattle.span_fill.specs.declared.span.Span.{Span}
use Rattle.span_fill.proofs.SpanLemmas.{in_from, is_in}

-- columns of a surface cut to a region, counted from its first
pub columns_counted : (region columns stepper : Span) (from to : ℤ) (x : ℕ) → from ≡ pos columns.from → to ≡ pos columns.to → region.from ≤ stepper.from → stepper.from ≤ stepper.to
    → in_span stepper (x + region.from) ≡ (in_span region (x + region.from) && is_from_to from to (x + region.from)) → x < region.to - region.from
    → in_span (record { from = stepper.from - region.from; to = stepper.to - region.from }) x ≡ in_span columns (x + region.from)
columns_counted region columns stepper from to x first last low order same within = same_test _ _
    (λ test.
    let here = is_in (record { from = stepper.from - region.from; to = stepper.to - region.from }) x test in
    let a = here.0 in
    let b = here.1 in
    let there : IsIn stepper (x + region.from) = (omega (arith, a, low), omega (arith, b, low, order)) in
    let parts = and_parts (in_span region (x + region.from)) (is_from_to from to (x + region.from)) (sym same ∙ in_from stepper (x + region.from) there) in
    let range = from_to_true from to (x + region.from) parts.1 in
    let c = range.0 in
    let d = range.1 in
    in_from columns (x + region.from) (omega (arith, ints, c, first), omega (arith, ints, d, last)))
    (λ test.
    let here = is_in columns (x + region.from) test in
    let a = here.0 in
    let b = here.1 in
    let inside : IsIn region (x + region.from) = (omega arith, omega (arith, within)) in
    let there = is_in stepper (x + region.from) (same ∙ and_from _ _ (in_from region (x + region.from) inside) (from_to_from from to (x + region.from) (omega (arith, ints, a, first)) (omega (arith, ints, b, last)))) in
    let c = there.0 in
    let d = there.1 in
    in_from (record { from = stepper.from - region.from; to = stepper.to - region.from }) x (omega (arith, c), omega (arith, d)))
