-- The rows of the two numbers.
use Rattle.std.proofs.Common.{FitsSigned, w64}
use Rattle.std.proofs.lemmas.Int.{to_z-of_z}
use Rattle.span_fill.proofs.CrossedLemmas.{rows_between}
use Rattle.span_fill.proofs.crossed_rows.rows_from.Goals as goal

pub returns-clause-rows : goal.returns-clause-rows
returns-clause-rows c =
    let from : FitsSigned w64 c.args.from = c.ranges.from in
    let to : FitsSigned w64 c.args.to = c.ranges.to in
    let first = simp to_z-of_z at c.surface_row-first.ensures.row in
    let end = simp to_z-of_z at c.surface_row.ensures.row in
    rows_between c.args.from c.args.to c.surface_row-first.result c.surface_row.result c.max.result first end c.max.ensures
