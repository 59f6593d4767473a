use Rattle.std.proofs.Common.{◌+◌, ◌-◌, ◌^◌, ◌<◌, ◌≤◌, length}
use Rattle.canvas.specs.Sending.{Sending}
use Rattle.canvas.proofs.counted_sending.send_counted.Given as goal

-- what isn't left was sent, and there is room for one more fault
abbrev pub invariant-loop-rest : goal.invariant-loop-rest
invariant-loop-rest g l = record {
  sending : Sending (g.W.Write.contents l.fn.out) (g.W.Write.contents l.out) l.bytes l.rest;
  capacity : g.W.FaultCount.fault_count l.out < 2 ^ 64 - 1;
  count : g.W.FaultCount.fault_count l.fn.out ≤ g.W.FaultCount.fault_count l.out;
}

abbrev pub decreases-loop-rest : goal.decreases-loop-rest
decreases-loop-rest g l = length l.rest + (2 ^ 64 - g.W.FaultCount.fault_count l.out)
