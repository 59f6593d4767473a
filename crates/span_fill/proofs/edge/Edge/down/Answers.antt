-- Both ends are near.
use Rattle.std.proofs.Common.{arith}
use Rattle.std.proofs.lemmas.Int.{ints}
use Rattle.span_fill.proofs.EdgeLemmas.{near_within}
use Rattle.span_fill.proofs.edge.Edge.down.Goals as goal

pub returns-clause-high : goal.returns-clause-high
returns-clause-high c =
    let upper = near_within _ c.requires.upper.y in
    let lower = near_within _ c.requires.lower.y in
    omega (arith, ints, upper.low, lower.high)
