-- The numbers are what they are as they are passed.
use Rattle.std.proofs.Common.{◌+◌, FitsSigned, w32, w64, ◌^◌, lit≤, rules, refl}
use Rattle.std.proofs.lemmas.Int.{to_z-of_z}
use Rattle.span_fill.proofs.EdgeLemmas.{within_wider}
use Rattle.span_fill.proofs.edge.Edge.active_at.Goals as goal

pub divided-per_row-requires-clause-dividend : goal.divided-per_row-requires-clause-dividend
divided-per_row-requires-clause-dividend c =
    let fits : FitsSigned w64 c.doubled.result = search rules in
    simp to_z-of_z (within_wider (2 ^ 31) (2 ^ 62 + 2 ^ 31) _ (lit≤ tt) c.doubled.ensures.near)

pub returns : goal.returns
returns c =
    let lower : FitsSigned w32 c.args.self.lower.y = search rules in
    let bottom_is = simp to_z-of_z at c.row_of.ensures in
    let down : FitsSigned w64 c.down.result = search rules in
    let divisor : FitsSigned w64 c.doubled-divisor.result = search rules in
    let dividend : FitsSigned w64 c.column_dividend.result = search rules in
    let column : FitsSigned w64 c.divided-column.result.floor = search rules in
    let rest : FitsSigned w64 c.divided-column.result.rest = search rules in
    let across : FitsSigned w64 c.across.result = search rules in
    let doubled : FitsSigned w64 c.doubled.result = search rules in
    let step : FitsSigned w64 c.divided-per_row.result.floor = search rules in
    let more : FitsSigned w64 c.divided-per_row.result.rest = search rules in
    let divisor_is = simp to_z-of_z at c.doubled-divisor.ensures.value in
    let column_is = simp to_z-of_z at c.divided-column.ensures.floor in
    let rest_is = simp to_z-of_z at c.divided-column.ensures.rest in
    let doubled_is = simp to_z-of_z at c.doubled.ensures.value in
    let step_is = simp to_z-of_z at c.divided-per_row.ensures.floor in
    let more_is = simp to_z-of_z at c.divided-per_row.ensures.rest in
    simp to_z-of_z (rw (bottom_is, column_is, rest_is, step_is, more_is, doubled_is, divisor_is, c.down.ensures.value, c.across.ensures.value, c.column_dividend.ensures.value) refl)
