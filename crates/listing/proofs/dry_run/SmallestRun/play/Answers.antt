-- What refuses a machine with room for any file is a fault of the operation.
use Rattle.std.proofs.Common.{rules}
use Rattle.draw_ops.specs.OperationOf.{operation_of}
use Rattle.listing.proofs.DryRunStateLemmas.{rejected_here}
use Rattle.listing.proofs.PathLemmas.{stays_landed}
use Rattle.listing.proofs.dry_run.SmallestRun.play.Goals as goal

pub returns-in-Err-clause-on_smallest : goal.returns-in-Err-clause-on_smallest
returns-in-Err-clause-on_smallest c =
    rw (← c.self.view_is)
    (rejected_here c.need_law.ensures (operation_of c.args.step.now.op) c.self.inside.machine c.in-Err.fault c.self.invariant.running.capacity c.in-Err.ensures.rejected)

pub invariant_of-self : goal.invariant_of-self
invariant_of-self c = record {
  running = search rules;
  landed = stays_landed (operation_of c.args.step.now.op) c.self.inside.machine _ c.in-Ok.ensures.stepped c.in-Ok.ensures.goes_on c.self.invariant.landed;
}
