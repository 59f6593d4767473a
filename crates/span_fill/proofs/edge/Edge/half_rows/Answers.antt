-- The upper end is near.
use Rattle.std.proofs.Common.{arith}
use Rattle.std.proofs.lemmas.Int.{ints}
use Rattle.span_fill.proofs.EdgeLemmas.{near_within}
use Rattle.span_fill.proofs.edge.Edge.half_rows.Goals as goal

pub returns-clause-near : goal.returns-clause-near
returns-clause-near c =
    let upper = near_within _ c.requires.edge.upper.y in
    record { low = omega (arith, ints, upper.high); high = omega (arith, ints, upper.low) }
