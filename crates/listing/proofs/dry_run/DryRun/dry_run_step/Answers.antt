-- Behind a fault on the smallest surface no run goes on.
use Rattle.draw_ops.specs.OperationOf.{operation_of}
use Rattle.draw_ops.specs.StepOf.{step_value_of}
use Rattle.dc_stack.specs.OperationFault.{fault_of}
use Rattle.listing.specs.DryRunState.{after_played}
use Rattle.listing.proofs.DryRunStateLemmas.{none_after}
use Rattle.listing.proofs.dry_run.DryRun.dry_run_step.Goals as goal

pub returns-in-Err-clause-after : goal.returns-in-Err-clause-after
returns-in-Err-clause-after c =
    let operation = operation_of c.args.step.now.op in
    let run = c.in-Some.run' in
    rw (← c.self.view_is, c.in-Some.is)
    (none_after (fault_of operation run.state run.smallest) c.in-Err.fault (after_played (step_value_of c.args.step.now) run) c.in-Err.ensures.on_smallest)
