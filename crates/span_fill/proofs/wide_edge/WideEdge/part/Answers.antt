-- The columns of the rows that the nib reaches, and those beside them.
use Rattle.std.proofs.Common.{rules, FitsSigned}
use Rattle.std.specs.Int.{w64}
use Rattle.std.proofs.lemmas.Int.{to_z-of_z}
use Rattle.span_fill.proofs.wide_edge.WideEdge.part.Goals as goal

pub returns-then-low-high-clause-exact : goal.returns-then-low-high-clause-exact
returns-then-low-high-clause-exact c = λ x inside.
    let low : FitsSigned w64 c.low-low.result = search rules in
    let high : FitsSigned w64 c.high-high.result = search rules in
    let a = c.low-low.ensures.low in
    let b = c.high-high.ensures.high in
    let there = simp to_z-of_z at (c.near.ensures.exact x inside) in
    rw (a, b) at there
