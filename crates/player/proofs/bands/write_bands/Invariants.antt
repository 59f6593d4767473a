use Rattle.std.proofs.Common.{◌+◌, ◌-◌, ◌*◌, ◌<◌, ◌≤◌, ◌^◌}
use Rattle.player.specs.Bands.{CountsRows, WritesRows}
use Rattle.player.specs.ReadyBands.{IsBlankBand, IsReadyForBands}
use Rattle.player.proofs.bands.write_bands.Given as goal

-- the rows above the next band are written, and their pixels are counted
abbrev pub invariant-loop-first : goal.invariant-loop-first
invariant-loop-first g l = record {
  within : l.first ≤ l.plan.height;
  ready : IsReadyForBands l.cleared l.plan l.scratch;
  blank : l.first < l.plan.height → IsBlankBand l.plan l.first l.scratch.canvas;
  few : l.scratch.canvas.writes ≤ 140737488355328 * l.first;
  written : WritesRows l.cleared l.plan l.first g.W.Write.contents l.fn.out l.out;
  counted : CountsRows l.cleared l.plan l.first l.scratch.canvas.writes;
  capacity : g.P.PartWriter.faults l.out + g.P.PartWriter.counted < 2 ^ 64;
  faults : g.P.PartWriter.faults l.fn.out ≤ g.P.PartWriter.faults l.out;
}

abbrev pub decreases-loop-first : goal.decreases-loop-first
decreases-loop-first g l = l.plan.height - l.first
