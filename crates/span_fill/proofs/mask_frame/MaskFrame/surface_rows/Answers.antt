-- The rows between the two.
use Rattle.std.proofs.Common.{rules, FitsSigned, arith, sym, ◌∙◌}
use Rattle.std.specs.Int.{w32, w64}
use Rattle.std.proofs.lemmas.Bool.{and_parts}
use Rattle.std.proofs.lemmas.Int.{ints, to_z-of_z}
use Rattle.mapping.specs.PixelBoxes.{from_to_true, is_from_to}
use Rattle.span_fill.specs.Spans.{in_span}
use Rattle.span_fill.proofs.mask_frame.MaskFrame.surface_rows.Goals as goal

pub returns-clause-no_other : goal.returns-clause-no_other
returns-clause-no_other c = λ x y inside.
    let first : FitsSigned w32 c.row_at-first.result = search rules in
    let end : FitsSigned w32 c.row_at-end.result = search rules in
    let from : FitsSigned w64 c.from.result = search rules in
    let to : FitsSigned w64 c.from-2.result = search rules in
    let numbers = simp to_z-of_z at (c.between-rows.ensures.numbers y) in
    let a = simp to_z-of_z at c.from.ensures in
    let b = simp to_z-of_z at c.from-2.ensures in
    let f = c.row_at-first.ensures.row in
    let e = c.row_at-end.ensures.row in
    let parts = and_parts (in_span (record { from = 0; to = 8192 }) x) (in_span c.between-rows.result y) inside in
    let tests = and_parts (in_span (record { from = 0; to = 8192 }) y) (is_from_to c.from.result c.from-2.result y) (sym numbers ∙ parts.1) in
    let there = from_to_true c.from.result c.from-2.result y tests.1 in
    let low = there.0 in
    let high = there.1 in
    (omega (arith, ints, low, a, f), omega (arith, ints, high, b, e))
