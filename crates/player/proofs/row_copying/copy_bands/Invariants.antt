use Rattle.std.proofs.Common.{◌+◌, ◌-◌, ◌*◌, ◌<◌, ◌≤◌}
use Rattle.player.specs.ReadyBands.{IsBlankBand, IsReadyForBands}
use Rattle.player.specs.Rows.{CopiesPlayed}
use Rattle.player.proofs.row_copying.copy_bands.Given as goal

-- the rows above the next band are copied
abbrev pub invariant-loop-next : goal.invariant-loop-next
invariant-loop-next l = record {
  first : l.layout.first ≤ l.next;
  within : l.next ≤ l.layout.first + l.layout.count;
  ready : IsReadyForBands l.cleared l.plan l.scratch;
  blank : l.next < l.layout.first + l.layout.count → IsBlankBand l.plan l.next l.scratch.canvas;
  few : l.scratch.canvas.writes ≤ 140737488355328 * l.next;
  copied : CopiesPlayed l.cleared l.plan l.layout l.next l.fn.out l.out;
}

abbrev pub decreases-loop-next : goal.decreases-loop-next
decreases-loop-next l = l.layout.first + l.layout.count - l.next
