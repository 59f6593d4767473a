-- The numbers are what they are as they are passed.
use Rattle.std.proofs.Common.{FitsSigned, w32, w64, pos, ◌+ℤ◌, ◌∙◌, rules}
use Rattle.std.proofs.lemmas.Int.{to_z-of_z}
use Rattle.span_fill.proofs.CrossedLemmas.{rows_past}
use Rattle.span_fill.proofs.crossed_rows.rows_after.Goals as goal

pub returns-clause-rows : goal.returns-clause-rows
returns-clause-rows c = λ y h.
    let upper : FitsSigned w32 c.args.edge.upper.y = search rules in
    let lower : FitsSigned w32 c.args.edge.lower.y = search rules in
    let last : FitsSigned w64 c.args.last = c.ranges.last in
    let from : FitsSigned w64 c.from-upper.result = search rules in
    let to : FitsSigned w64 c.from.result = search rules in
    let chosen : FitsSigned w64 c.max.result = search rules in
    let sum : FitsSigned w64 (c.from-upper.result +ℤ c.args.last) = search rules in
    let next : FitsSigned w64 (c.from-upper.result +ℤ c.args.last +ℤ pos 1) = search rules in
    let from_is = simp to_z-of_z at c.from-upper.ensures in
    let to_is = simp to_z-of_z at c.from.ensures in
    let is = simp to_z-of_z at c.max.ensures.value in
    let one = simp to_z-of_z at c.max.ensures.self_bound in
    let other = simp to_z-of_z at c.max.ensures.other_bound in
    let rows = c.rows_from.ensures.rows y h in
    let there = simp to_z-of_z at rows in
    rw (from_is, to_is) at (there ∙ rows_past c.from-upper.result c.from.result c.args.last c.max.result (pos y) is one other)
