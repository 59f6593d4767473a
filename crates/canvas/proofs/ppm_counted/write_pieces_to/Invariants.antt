use Rattle.std.proofs.Common.{◌-◌, ◌^◌, ◌<◌, ◌≤◌, ◌++◌, drop, take}
use Rattle.canvas.specs.Ppm.{raster}
use Rattle.canvas.specs.Sending.{Sending}
use Rattle.canvas.proofs.ppm_counted.write_pieces_to.Given as goal

-- what is in the piece and what is left to put into one wasn't sent, and the rest of the text was; and there is room for one
-- more fault
abbrev pub invariant-loop-done : goal.invariant-loop-done
invariant-loop-done g l = record {
  short : l.filled ≤ 32;
  within : l.done ≤ l.count;
  sending : Sending (g.W.Write.contents l.fn.out) (g.W.Write.contents l.out) (take l.ready l.fn.piece ++ raster l.canvas.colours) (take l.filled l.piece ++ raster (drop l.done l.canvas.colours));
  capacity : g.W.FaultCount.fault_count l.out < 2 ^ 64 - 1;
  count : g.W.FaultCount.fault_count l.fn.out ≤ g.W.FaultCount.fault_count l.out;
}

abbrev pub decreases-loop-done : goal.decreases-loop-done
decreases-loop-done g l = l.count - l.done
