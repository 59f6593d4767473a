-- The column after the last that the line has in the rows that the nib reaches.
use Rattle.std.proofs.Common.{rules, FitsSigned, arith}
use Rattle.std.specs.Int.{w32, w64}
use Rattle.std.proofs.lemmas.Int.{ints, to_z-of_z}
use Rattle.span_fill.proofs.WideEdgeWindows.{most_32}
use Rattle.span_fill.proofs.wide_edge.WideEdge.high.Goals as goal

pub returns-clause-high : goal.returns-clause-high
returns-clause-high c =
    let a : FitsSigned w64 c.high_over.result = search rules in
    let b : FitsSigned w64 c.from.result = search rules in
    let d : FitsSigned w64 c.lesser.result = search rules in
    let e : FitsSigned w64 c.args.self.now.first.column = search rules in
    let f : FitsSigned w64 c.args.self.now.last.column = search rules in
    let g : FitsSigned w32 c.args.self.now.columns.to = search rules in
    let over = simp to_z-of_z at c.high_over.ensures in
    let from = simp to_z-of_z at c.from.ensures in
    let is = simp to_z-of_z at c.lesser.ensures.value in
    let there = rw (over, from) at is in
    simp to_z-of_z there

pub returns-clause-most : goal.returns-clause-most
returns-clause-most c =
    let b : FitsSigned w64 c.from.result = search rules in
    let d : FitsSigned w64 c.lesser.result = search rules in
    let g : FitsSigned w32 c.args.self.now.columns.to = search rules in
    let from = simp to_z-of_z at c.from.ensures in
    let most = most_32 c.args.self.now.columns.to g in
    let is = simp to_z-of_z at c.lesser.ensures.second in
    simp to_z-of_z (omega (arith, ints, from, most, is))
