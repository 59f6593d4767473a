-- None of them begins.
use Rattle.std.proofs.Common.{arith, false, pos}
use Rattle.span_fill.proofs.AdmitLemmas.{none_begins}
use Rattle.span_fill.proofs.active_edges.beginning.Goals as goal

pub returns-else-first_row-row : goal.returns-else-first_row-row
returns-else-first_row-row c = none_begins c.args.row c.args.edges.now c.args.next (record { line = 0; is_down = false; upper = record { x = pos 0; y = pos 0 }; lower = record { x = pos 0; y = pos 0 } }) c.requires.sorted (omega arith) (omega (arith, c.first_row.ensures, c.if-first_row-row.false))
