use Rattle.std.proofs.Common.{◌≤◌}
use Rattle.player.specs.Rows.{CopiesCanvas}
use Rattle.player.proofs.row_copying.copy_rows.Given as goal

-- the rows above the next one are copied
abbrev pub invariant-loop-y : goal.invariant-loop-y
invariant-loop-y l = record {
  order : l.from ≤ l.y;
  copied : CopiesCanvas l.canvas l.layout l.from l.y l.fn.out l.out;
}
