-- The line runs downwards, upwards or along a row.
use Rattle.std.proofs.Common.{arith}
use Rattle.std.proofs.lemmas.Int.{ints}
use Rattle.span_fill.proofs.WindingLemmas.{winds_down, winds_horizontal, winds_up}
use Rattle.span_fill.proofs.winding.wind_line.Goals as goal

pub returns-then-line-clause-windings : goal.returns-then-line-clause-windings
returns-then-line-clause-windings c =
    winds_down c.args.line c.args.column c.crossed_rows.result c.args.changes.now c.wind_rows.new.changes (omega (arith, ints, c.if-line.true)) c.crossed_rows.ensures.rows c.wind_rows.ensures.windings

pub returns-then-line-2-clause-windings : goal.returns-then-line-2-clause-windings
returns-then-line-2-clause-windings c =
    winds_up c.args.line c.args.column c.crossed_rows-then-line-2.result c.args.changes.now c.wind_rows-then-line-2.new.changes (omega (arith, ints, c.if-line-2.true)) c.crossed_rows-then-line-2.ensures.rows c.wind_rows-then-line-2.ensures.windings

pub returns-else-line-2-clause-windings : goal.returns-else-line-2-clause-windings
returns-else-line-2-clause-windings c =
    winds_horizontal c.args.line c.args.column c.args.changes.now (omega (arith, ints, c.if-line.false)) (omega (arith, ints, c.if-line-2.false))
