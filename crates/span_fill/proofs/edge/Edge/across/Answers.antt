-- Both ends are near.
use Rattle.std.proofs.Common.{arith}
use Rattle.std.proofs.lemmas.Int.{ints}
use Rattle.span_fill.proofs.EdgeLemmas.{near_within}
use Rattle.span_fill.proofs.edge.Edge.across.Goals as goal

pub returns-clause-near : goal.returns-clause-near
returns-clause-near c =
    let upper = near_within _ c.requires.upper.x in
    let lower = near_within _ c.requires.lower.x in
    record { low = omega (arith, ints, upper.high, lower.low); high = omega (arith, ints, upper.low, lower.high) }
