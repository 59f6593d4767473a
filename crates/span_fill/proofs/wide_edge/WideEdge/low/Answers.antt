-- The first column that the line has in the rows that the nib reaches.
use Rattle.std.proofs.Common.{rules, FitsSigned, arith}
use Rattle.std.specs.Int.{w32, w64}
use Rattle.std.proofs.lemmas.Int.{ints, to_z-of_z}
use Rattle.span_fill.proofs.WideEdgeWindows.{least_32}
use Rattle.span_fill.proofs.wide_edge.WideEdge.low.Goals as goal

pub returns-clause-low : goal.returns-clause-low
returns-clause-low c =
    let a : FitsSigned w64 c.low_over.result = search rules in
    let b : FitsSigned w64 c.from.result = search rules in
    let d : FitsSigned w64 c.greater.result = search rules in
    let e : FitsSigned w64 c.args.self.now.first.column = search rules in
    let f : FitsSigned w64 c.args.self.now.last.column = search rules in
    let g : FitsSigned w32 c.args.self.now.columns.from = search rules in
    let over = simp to_z-of_z at c.low_over.ensures in
    let from = simp to_z-of_z at c.from.ensures in
    let is = simp to_z-of_z at c.greater.ensures.value in
    let there = rw (over, from) at is in
    simp to_z-of_z there

pub returns-clause-least : goal.returns-clause-least
returns-clause-least c =
    let b : FitsSigned w64 c.from.result = search rules in
    let d : FitsSigned w64 c.greater.result = search rules in
    let g : FitsSigned w32 c.args.self.now.columns.from = search rules in
    let from = simp to_z-of_z at c.from.ensures in
    let least = least_32 c.args.self.now.columns.from g in
    let is = simp to_z-of_z at c.greater.ensures.second in
    simp to_z-of_z (omega (arith, ints, from, least, is))
