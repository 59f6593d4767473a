-- The upper end is near.
use Rattle.std.proofs.Common.{arith}
use Rattle.std.proofs.lemmas.Int.{ints}
use Rattle.span_fill.proofs.EdgeLemmas.{near_within}
use Rattle.span_fill.proofs.crossed_rows.half_columns.Goals as goal

pub returns-clause-near : goal.returns-clause-near
returns-clause-near c =
    let upper = near_within _ c.requires.edge.upper.x in
    let column = c.requires.column in
    record { low = omega (arith, ints, upper.high, column); high = omega (arith, ints, upper.low, column) }
